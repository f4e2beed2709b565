pub mod CorePort
pub mod Serving
pub mod Smcs
