-- The laws of reading a text.
pub mod Misfits
pub mod Pieces
pub mod Numbers
pub mod Forms
