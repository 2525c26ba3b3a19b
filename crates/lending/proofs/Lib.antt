pub mod Turns
pub mod Moving
pub mod Stepping
pub mod InPlace
