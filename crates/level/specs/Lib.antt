pub mod Conflict
pub mod Records
pub mod Contents
pub mod SlotTable
pub mod Levels
pub mod Fates
pub mod Calls
pub mod Turns
