pub mod Lines
pub mod Words
pub mod Steps
pub mod Examples
