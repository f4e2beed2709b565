pub mod Examples
pub mod ListedPort
pub mod Smc
