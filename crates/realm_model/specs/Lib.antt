pub mod Realm
pub mod Reading
pub mod Forgetting
pub mod Tied
pub mod Laws
pub mod Examples
pub mod Histories
