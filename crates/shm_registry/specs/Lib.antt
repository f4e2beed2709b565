pub mod Examples
pub mod Pieces
pub mod Registered
