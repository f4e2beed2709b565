pub mod Cutting
pub mod Sound
