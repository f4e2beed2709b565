pub mod Answering
pub mod Called
pub mod Gathered
pub mod Names
pub mod PortServed
pub mod Started
pub mod WithParams
