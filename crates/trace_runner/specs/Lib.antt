pub mod Threads
pub mod Commands
