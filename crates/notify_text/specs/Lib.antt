pub mod Examples
pub mod Grammar
pub mod Judging
pub mod Rules
pub mod Statement
pub mod Sound
pub mod Steps
