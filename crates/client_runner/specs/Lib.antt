pub mod Client
pub mod Playing
pub mod Scripts
pub mod Told
