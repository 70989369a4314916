-- What it means that a text is read: pieces, forms and the first misfit.
pub mod Misfits
pub mod Pieces
pub mod Forms
