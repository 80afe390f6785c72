-- from the laws to the serial law
pub mod Log
pub mod Explains
pub mod Runs
pub mod Resolve
pub mod Checks
pub mod Invariant
pub mod Away
pub mod Ready
pub mod Calls
pub mod Recovery
pub mod Law
pub mod Darkness
-- for the proofs of a manager's code, beside Law and Darkness
pub mod Undoing
pub mod Steps
pub mod Refused
pub mod Examples
