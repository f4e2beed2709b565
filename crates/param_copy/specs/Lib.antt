pub mod Copying
pub mod Examples
pub mod Memory
pub mod Outcome
pub mod Places
pub mod TakenLists
pub mod WritingBack
