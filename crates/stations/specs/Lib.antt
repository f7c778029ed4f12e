pub mod Stations
pub mod Engine
