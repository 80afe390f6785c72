pub mod OneMemory
pub mod TwoBanks
pub mod Calls
pub mod Counts
pub mod Made
pub mod Writes
pub mod Runs
