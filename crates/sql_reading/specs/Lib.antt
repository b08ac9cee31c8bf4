pub mod TextReading
pub mod Stopping
