pub mod Agree
pub mod RanOut
pub mod Lent
