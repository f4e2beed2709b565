pub mod Within
pub mod Covered
pub mod Marked
