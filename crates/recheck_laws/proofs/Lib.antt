pub mod Members
pub mod SameReading
pub mod Placed
pub mod Together
pub mod Unhindered
