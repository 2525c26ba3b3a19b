pub mod Answers
pub mod Leaving
pub mod Codes
pub mod LayerCodes
pub mod Refusals
pub mod Keeping
