pub mod Comings
pub mod Crossing
pub mod Goings
pub mod OwnEvents
pub mod Turns
