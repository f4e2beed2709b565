pub mod Answering
pub mod Candidate
pub mod Examples
pub mod Files
pub mod Holding
pub mod RequestExamples
pub mod Supplicant
