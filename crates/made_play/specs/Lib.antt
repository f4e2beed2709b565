pub mod Summary
pub mod Laws
pub mod Examples
