pub mod Applying
pub mod Argument
pub mod Commands
pub mod Deciding
pub mod Faults
pub mod Locating
