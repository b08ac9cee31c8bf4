pub mod OneRows
pub mod Named
pub mod Lines
pub mod Accepted
