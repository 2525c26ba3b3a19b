pub mod Layers
pub mod Calls
