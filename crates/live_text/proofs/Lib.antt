pub mod Judged
pub mod Scenes
pub mod Sounding
