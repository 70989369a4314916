-- The lines of commands, and how they are read.
pub mod Lines
pub mod Reading
