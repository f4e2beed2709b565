pub mod Examples
pub mod Slot
pub mod Slots
