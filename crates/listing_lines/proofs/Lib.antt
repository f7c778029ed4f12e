pub mod Held
pub mod Shown
pub mod Channels
