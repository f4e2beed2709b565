pub mod Record
pub mod Rules
pub mod Records
pub mod Grammar
pub mod Taking
pub mod Spelling
pub mod Examples
