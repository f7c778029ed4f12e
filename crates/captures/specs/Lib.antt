pub mod Form
pub mod Engine
pub mod Worked
