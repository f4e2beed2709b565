pub mod Stays
pub mod PagesKept
pub mod Marks
