pub mod Asking
pub mod Begins
pub mod Found
pub mod Points
