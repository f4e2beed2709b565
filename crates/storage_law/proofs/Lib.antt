pub mod Data
pub mod GoingOn
pub mod Steps
pub mod Tagged
pub mod TaggedReads
pub mod TaggedWrites
pub mod Writing
