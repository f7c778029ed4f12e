pub mod Stages
pub mod Five
pub mod Worked
pub mod Agree
pub mod Judged
pub mod Inverse
