pub mod Faults
pub mod Readings
pub mod Lists
