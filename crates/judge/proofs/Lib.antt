pub mod Said
pub mod Agree
pub mod Words
pub mod Sealed
pub mod Steps
pub mod Formats
pub mod Decided
pub mod Marks
