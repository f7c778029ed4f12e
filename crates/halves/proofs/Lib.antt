pub mod Rows
pub mod Counts
pub mod Carried
pub mod Half
pub mod Exactly
pub mod Stages
