pub mod Cells
pub mod Within
