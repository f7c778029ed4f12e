pub mod Taken
pub mod Back
pub mod OneToOne
pub mod Agree
