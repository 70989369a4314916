pub mod Lines
pub mod Cards
pub mod Commands
pub mod Tellings
pub mod Answers
pub mod Runs
pub mod Theorems
