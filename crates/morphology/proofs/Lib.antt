pub mod Passing
pub mod Rows
pub mod ReadAt
pub mod Extremes
pub mod Sweeping
pub mod Definitions
pub mod Combining
pub mod TakenTogether
