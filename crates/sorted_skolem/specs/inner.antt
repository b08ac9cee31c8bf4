pub mod Asks
pub mod Listing
pub mod Waiting
