pub mod EventRows
pub mod Spans
pub mod Sound
pub mod Bends
pub mod Leaving
pub mod Surveying
pub mod Clearing
