pub mod Bytes
pub mod Slotted
pub mod Counted
pub mod Refused
