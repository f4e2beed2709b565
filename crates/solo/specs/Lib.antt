pub mod Standing
pub mod Calls
pub mod Beginning
pub mod GoingOut
pub mod Stepping
pub mod Short
pub mod Rooms
pub mod Feeding
