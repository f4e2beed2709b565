pub mod Answering
pub mod Numbering
pub mod Once
pub mod Pending
pub mod Reaching
