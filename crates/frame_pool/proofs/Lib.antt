pub mod PageBytes
