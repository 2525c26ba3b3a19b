pub mod Options
pub mod Clamp
pub mod Value
