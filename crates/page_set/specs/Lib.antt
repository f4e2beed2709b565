pub mod Pages
pub mod Keeping
