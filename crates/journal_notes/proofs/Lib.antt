pub mod Exits
pub mod Logs
pub mod Processors
pub mod ReadOn
pub use Rattle.journal_replay.proofs.Apart
pub use Rattle.journal_replay.proofs.Worked
