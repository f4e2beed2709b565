pub mod Answers
pub mod Played
pub mod Moved
pub mod Items
pub mod OfTraces
pub mod Playable
pub mod Booting
