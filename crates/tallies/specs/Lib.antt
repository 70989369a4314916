pub mod Differences
pub mod Scaling
pub mod Showing
