pub mod Asking
pub mod Signalling
pub mod Playing
pub mod Watching
