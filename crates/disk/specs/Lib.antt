pub mod Device
pub mod Layout
pub mod Sizes
pub mod Gate
pub mod Runs
pub mod Banks
pub mod Blocks
