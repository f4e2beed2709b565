pub mod NumberMap
pub mod Examples
pub mod Lends
pub mod Places
pub mod Zeros
pub mod Bytes
