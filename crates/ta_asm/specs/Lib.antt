pub mod Words
pub mod Lines
pub mod Grammar
pub mod Reading
pub mod Canonical
pub mod RoundTrip
pub mod Examples
