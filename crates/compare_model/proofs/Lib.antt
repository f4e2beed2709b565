pub mod Comparisons
pub mod Replies
