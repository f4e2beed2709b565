pub mod AtMost
pub mod NewCalls
pub mod Arguments
pub mod Resumes
pub mod Sound
pub mod Ends
