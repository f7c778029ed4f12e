pub mod Owner
pub mod Lengths
pub mod Charged
pub mod Longest
pub mod Attained
