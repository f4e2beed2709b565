pub mod Examples
pub mod LastEntry
pub mod Log
