pub mod Record
pub mod Recording
pub mod Rules
pub mod Taking
pub mod Grammar
pub mod Sound
pub mod Spelling
pub mod Examples
