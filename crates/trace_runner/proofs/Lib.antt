pub mod OnThreads
pub mod TopCalls
