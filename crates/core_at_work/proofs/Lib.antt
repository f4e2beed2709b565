pub mod Apart
pub mod InsidesMoved
pub mod Stand
pub mod Kept
pub mod PanicTold
pub mod Worked
pub use Rattle.kernel_entry.proofs.Arrived
pub use Rattle.kernel_entry.proofs.Replaying
