pub mod Cycle
pub mod Curve
pub mod Reserve
pub mod Setting
