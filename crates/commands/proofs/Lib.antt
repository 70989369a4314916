-- The laws of reading a line.
pub mod Arguments
pub mod Laws
