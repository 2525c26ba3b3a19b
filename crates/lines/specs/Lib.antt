pub mod Puts
pub mod Lines
