pub mod LineLengths
pub mod ResourceLengths
pub mod Beside
pub mod Owing
pub mod Charges
pub mod Within
