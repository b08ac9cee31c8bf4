pub mod Columns
pub mod Numbered
pub mod Parts
pub mod Stands
