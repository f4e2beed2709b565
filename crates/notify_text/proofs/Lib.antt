pub mod Judged
pub mod Lines
pub mod Meanings
pub mod SoundSignals
pub mod WithoutSignals
