pub mod Header
pub mod Standing
pub mod Taking
pub mod Watching
pub mod Panicking
