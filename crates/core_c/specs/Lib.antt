pub mod HandingOut
pub mod Running
pub mod Words
