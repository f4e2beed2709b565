pub mod Position
pub mod Kinds
pub mod Playing
pub mod Items
pub mod Starting
pub mod Refused
pub use Rattle.core_machine.specs.Laws
