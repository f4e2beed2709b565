pub mod Ending
pub mod GoingOut
pub mod Telling
