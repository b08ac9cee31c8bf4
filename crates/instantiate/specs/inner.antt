pub mod Flat
pub mod Steps
pub mod Spots
pub mod Bases
pub mod Listings
