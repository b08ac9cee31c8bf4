pub mod Parts
pub mod Standing
pub mod Literals
pub mod Searched
pub mod Orders
pub mod Counted
