pub mod Grid
pub mod Words
pub mod Operators
pub mod Ways
