pub mod Ended
pub mod LineLaws
