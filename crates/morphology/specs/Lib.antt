pub mod Sheets
pub mod Measuring
pub mod Erosion
pub mod Passes
pub mod Cells
