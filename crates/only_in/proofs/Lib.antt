pub mod Sets
pub mod Larger
pub mod Here
pub mod There
pub mod Lines
pub mod Only
