pub mod Slips
pub mod Reached
pub mod InUse
pub mod Calls
pub mod Sums
pub mod Memory
