pub mod Least
pub mod Tally
pub mod Every
pub mod Answer
pub mod Order
pub mod Lists
pub mod Decides
