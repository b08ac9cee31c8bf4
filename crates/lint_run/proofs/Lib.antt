pub mod Entries
pub mod Keeping
pub mod Numbered
pub mod Whole
