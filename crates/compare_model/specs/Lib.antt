pub mod Comparing
pub mod Laws
pub mod SessionExamples
pub mod GroupExamples
