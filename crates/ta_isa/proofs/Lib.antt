pub mod Again
pub mod Back
pub mod Decoded
pub mod Faults
pub mod Instructions
pub mod Positions
pub mod ReadInstructions
pub mod Words
