pub mod LaneBytes
pub mod PageScan
pub mod PageWalk
pub mod PagesFound
pub mod ReaderLaws
pub mod ReaderSteps
pub mod WordList
pub mod WriteList
