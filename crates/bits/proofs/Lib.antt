pub mod Agree
pub mod Windows
pub mod Writes
pub mod Fields
pub mod Differs
pub mod Bytes
pub mod Pack
