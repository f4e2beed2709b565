pub mod Pairs
pub mod Logs
pub mod Comparisons
pub mod Reading
pub mod Realms
pub mod Examples
