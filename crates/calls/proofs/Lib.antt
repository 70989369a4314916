pub mod Folds
pub mod Spots
