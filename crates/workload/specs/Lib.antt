pub mod Message
pub mod Work
pub mod Bounded
pub mod Examples
