pub mod Gathered
pub mod Plan
pub mod Reached
pub mod ReplacedParts
pub mod Seen
pub mod Standing
