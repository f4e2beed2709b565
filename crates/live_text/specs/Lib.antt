pub mod Rules
pub mod Scene
pub mod Statement
pub mod Judging
pub mod Asking
pub mod Sound
pub mod Examples
pub mod AskingExamples
