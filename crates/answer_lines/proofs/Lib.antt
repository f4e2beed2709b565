pub mod Eight
pub mod PairTable
pub mod Fronts
