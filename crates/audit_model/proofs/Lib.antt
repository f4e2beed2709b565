pub mod Prefixes
pub mod Disjoint
pub mod Deciding
pub mod EachVerdict
