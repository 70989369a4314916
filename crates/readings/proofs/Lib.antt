pub mod Integers
pub mod Rounding
pub mod Values
pub mod Sixteenths
pub mod Heights
