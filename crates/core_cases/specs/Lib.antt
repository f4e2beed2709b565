pub mod Cpus
pub mod Feeding
pub mod Playing
