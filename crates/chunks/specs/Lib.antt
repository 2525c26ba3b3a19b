pub mod Chunks
pub mod Writing
pub mod Steps
pub mod Reader
pub mod Told
