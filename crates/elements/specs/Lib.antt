pub mod Offsets
pub mod Elements
pub mod Cards
pub mod Chains
pub mod BuiltIns
pub mod Written
