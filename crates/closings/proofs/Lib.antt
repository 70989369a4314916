pub mod Lowering
pub mod Sweeping
pub mod Definitions
pub mod Areas
