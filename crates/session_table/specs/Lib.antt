pub mod Examples
pub mod Session
pub mod Sessions
pub mod Waiters
