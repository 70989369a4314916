pub mod Passes
pub mod ByElement
