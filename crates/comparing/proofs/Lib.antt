pub mod Facts
pub mod Within
