pub mod Applying
pub mod Deciding
pub mod Entering
pub mod Resuming
pub mod Visiting
