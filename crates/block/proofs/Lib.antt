pub mod Agree
pub mod Mirror
pub mod Bytes
pub mod Word
pub mod Checks
pub mod Remainder
