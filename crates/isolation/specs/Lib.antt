pub mod Logs
pub use Rattle.realm_notes.specs.Journals
