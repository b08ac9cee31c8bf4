pub mod Problems
pub mod Sought
pub mod Plain
pub mod Parts
pub mod Turns
