pub mod Gray
pub mod Heat
pub mod Mask
