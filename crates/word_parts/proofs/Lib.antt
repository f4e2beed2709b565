pub mod ReadingLemmas
pub mod PuttingLemmas
pub mod Answering
pub mod Worded
pub mod Called
pub mod Ended
pub mod Serving
