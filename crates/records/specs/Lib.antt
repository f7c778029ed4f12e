pub mod Records
pub mod Owns
pub mod Engine
pub mod Worked
pub mod Demand
pub mod Whose
pub mod FieldsOf
