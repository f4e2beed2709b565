pub mod Counts
pub mod Lines
pub mod Meanings
pub mod Parts
pub mod SoundScripts
pub mod Uuids
