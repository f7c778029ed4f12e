pub mod Listing
pub mod Stations
