-- The laws of reading a picture file.
pub mod Laws
