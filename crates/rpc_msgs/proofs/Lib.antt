pub mod Messages
pub mod Places
pub mod Reached
pub mod Replies
