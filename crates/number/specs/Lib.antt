pub mod Bytes
pub mod Codes
pub mod Examples
pub mod Leb
pub mod Parts
pub mod Reads
pub mod Zeros
