pub mod Walk
pub mod Engine
