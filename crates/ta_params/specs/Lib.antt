pub mod Buf
pub mod CopiedParams
pub mod Examples
