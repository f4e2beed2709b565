pub mod AtPlay
pub mod Fills
pub mod Lanes
pub mod Played
pub mod Stands
pub mod Served
pub use Rattle.core_at_work.proofs.Apart
