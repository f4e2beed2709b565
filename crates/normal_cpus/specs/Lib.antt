pub mod Entering
pub mod Laws
pub mod Leaving
pub mod Seeing
pub mod Sharing
