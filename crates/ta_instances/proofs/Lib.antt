pub mod KeptInstances
pub mod LeastNumber
