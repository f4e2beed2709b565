pub mod Checked
pub mod SoundBoots
pub mod SoundJournals
mod LaneReads
pub mod SteadyPlays
pub use Rattle.journal_replay.proofs.Next
