pub mod Fronts
pub mod Refuted
pub mod Kept
pub mod Counted
pub mod Decided
