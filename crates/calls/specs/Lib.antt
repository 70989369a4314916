pub mod Made
pub mod ByElement
pub mod OfSize
pub mod Queries
