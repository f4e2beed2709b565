pub mod Answer
pub mod Call
pub mod Examples
pub mod FastAnswer
