pub mod Numbers
pub mod MapLemmas
pub mod PlaceLemmas
pub mod ZeroLemmas
pub mod Overwriting
