pub mod Examples
pub mod Forms
pub mod Grammar
pub mod Judging
pub mod Rules
pub mod Sound
