pub mod Adding
pub mod Opened
