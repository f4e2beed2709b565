pub mod Logs
pub mod Meaning
pub mod Reading
pub use Rattle.journal_replay.specs.Booting
pub use Rattle.journal_replay.specs.Insides
pub use Rattle.journal_replay.specs.Replaying
