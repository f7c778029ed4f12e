pub mod Engine
