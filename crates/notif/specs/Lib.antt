pub mod Desk
pub mod Examples
pub mod History
pub mod Laws
