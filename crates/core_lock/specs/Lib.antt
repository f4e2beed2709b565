pub mod Counts
pub mod Examples
pub mod Rule
pub mod Steps
pub mod Passes
pub mod Lending
