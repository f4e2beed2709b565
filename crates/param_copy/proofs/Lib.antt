pub mod Appended
pub mod Attempts
pub mod GoodPages
pub mod PieceReads
pub mod Sizes
pub mod Taking
pub mod Writing
