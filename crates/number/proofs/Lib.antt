pub mod Coded
mod Coding
pub mod Numbers
mod Steps
mod Table
pub mod Written
