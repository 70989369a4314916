pub mod Flags
pub mod Places
pub mod Model
pub mod Starts
pub mod Calls
pub mod TallyCalls
