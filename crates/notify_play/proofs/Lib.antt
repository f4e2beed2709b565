pub mod Following
pub mod Limit
pub mod Asking
pub mod Ordered
