pub mod Attributes
pub mod Numbers
pub mod Params
pub mod Faults
pub mod Heads
pub mod Valid
pub mod Pieces
pub mod Spellings
