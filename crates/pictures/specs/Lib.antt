-- Picture files, and how they are read.
pub mod Headers
pub mod Reading
