pub mod Turns
pub mod Talks
pub mod Program
