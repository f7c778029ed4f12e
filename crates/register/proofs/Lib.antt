pub mod Agree
pub mod Xor
pub mod Linear
pub mod Places
pub mod Series
pub mod Bytes
pub mod Word
pub mod Gathered
