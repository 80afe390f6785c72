pub mod Tallies
pub mod Laws
pub mod Codes
pub mod CounterBytes
pub mod TallyPlaces
pub mod TallyTurns
pub mod Entries
