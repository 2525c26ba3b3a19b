pub mod Clearing
pub mod Setting
pub mod Old
