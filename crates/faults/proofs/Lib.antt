pub mod Passing
pub mod Padding
pub mod RanOut
