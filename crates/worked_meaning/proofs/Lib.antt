pub mod Numbered
pub mod Room
