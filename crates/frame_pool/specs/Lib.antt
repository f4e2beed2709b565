pub mod Examples
pub mod Pages
pub mod Pool
pub mod Rooms
