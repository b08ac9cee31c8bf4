pub mod Inverses
pub mod InverseSteps
pub mod InverseCerts
pub mod Lengths
pub mod Listing
pub mod Shown
pub mod Files
pub mod OneReading
