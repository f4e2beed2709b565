pub mod Comparisons
pub mod GroupTold
pub mod Logs
pub mod ReadBoth
pub mod RealmReading
pub mod SessionTold
pub mod Told
