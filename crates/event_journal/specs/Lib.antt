pub mod Event
pub mod Examples
pub mod Journal
