pub mod Answering
pub mod Apart
pub mod Applications
pub mod CallFacts
pub mod CallPhases
pub mod Cancelling
pub mod CoreEvents
pub mod Crossing
pub mod Granting
pub mod Kept
mod LeavingTold
pub mod Maps
pub mod Opened
pub mod Others
pub mod Placed
pub mod Told
