pub mod Faults
pub mod Sizes
