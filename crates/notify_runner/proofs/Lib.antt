pub mod Stepped
pub mod Printed
pub mod Playable
pub mod Gathered
pub mod Running
