mod Begins
mod Decides
mod Facts
mod Given
mod Goes
mod Keeping
mod Line
mod Requests
mod Resumes
mod Seen
mod Slots
pub mod Taking
