pub mod Examples
pub mod Instance
pub mod Instances
