pub mod Counted
pub mod Answered
pub mod Turned
pub mod Talked
pub mod Plain
