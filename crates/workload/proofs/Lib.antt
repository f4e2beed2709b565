pub mod Items
pub mod Little
