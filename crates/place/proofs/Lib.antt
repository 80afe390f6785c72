pub mod Laid
pub mod Groups
