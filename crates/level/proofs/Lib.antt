pub mod Mirror
pub mod Recorded
pub mod Tabled
pub mod Live
