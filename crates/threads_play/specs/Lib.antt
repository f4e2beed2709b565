pub mod Ended
pub mod Ending
pub mod InTurn
pub mod Laws
pub mod Played
pub mod Standing
pub mod Work
