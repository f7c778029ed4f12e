pub mod Stations
pub mod ByPosition
pub mod Example
pub mod Agreed
