pub mod Table
pub mod Steps
pub mod Bits
pub mod Told
