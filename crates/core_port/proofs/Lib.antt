pub mod InRam
pub mod OfPlay
pub mod Recalled
pub mod Served
pub mod Told
