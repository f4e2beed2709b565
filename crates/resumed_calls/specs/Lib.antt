pub mod Deciding
pub mod Finding
pub mod Giving
pub mod Onward
pub mod Resuming
pub mod Waiting
