pub mod Answer
pub mod Examples
pub mod FileName
pub mod Place
pub mod Reply
pub mod Request
