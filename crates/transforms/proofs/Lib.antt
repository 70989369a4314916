pub mod Counting
pub mod Raising
