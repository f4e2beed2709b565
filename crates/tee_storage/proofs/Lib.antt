pub mod NumberedObjects
pub mod Names
pub mod Standing
pub mod Pieces
pub mod NewObjects
pub mod Leaving
pub mod NewData
pub mod Ranges
