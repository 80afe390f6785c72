pub mod Theory
pub mod Slots
pub mod Machine
pub mod History
pub mod Serial
pub mod Counter
pub mod Example
