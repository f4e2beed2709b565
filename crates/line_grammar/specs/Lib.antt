pub mod Meaning
pub mod Grammar
pub mod Reading
pub mod Examples
