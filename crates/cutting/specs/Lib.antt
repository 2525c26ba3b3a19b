pub mod Choice
pub mod Value
pub mod Cuts
pub mod Passes
pub mod ByTime
pub mod Counting
