pub mod Reading
pub mod Differences
pub mod Text
pub mod Program
pub mod Exact
pub mod InOrder
