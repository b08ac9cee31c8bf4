pub mod Bounds
pub mod Violations
pub mod Pairs
