pub mod Given
pub mod LineLemmas
