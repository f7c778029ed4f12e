pub mod RanOut
pub mod Checks
