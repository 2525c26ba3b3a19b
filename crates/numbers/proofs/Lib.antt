pub mod Tested
pub mod Spreading
pub mod Asking
