pub mod Rows
pub mod Sound
pub mod Windows
pub mod Clearing
pub mod Bends
