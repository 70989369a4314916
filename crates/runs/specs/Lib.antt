pub mod Sums
pub mod Conditions
pub mod Theorems
