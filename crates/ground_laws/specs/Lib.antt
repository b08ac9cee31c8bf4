pub mod Grounded
pub mod Counting
