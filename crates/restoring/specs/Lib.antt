pub mod BySkeleton
pub mod Lengths
pub mod Numbers
