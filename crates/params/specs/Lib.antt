pub mod Param
pub mod Calls
