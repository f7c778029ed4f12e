pub mod UserInfo
pub mod Values
pub mod Engine
