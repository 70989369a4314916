pub mod Maps
pub mod Sums
pub mod Pairs
pub mod Openings
pub mod Closings
pub mod Reconstruction
pub mod Skeletons
pub mod Spectra
