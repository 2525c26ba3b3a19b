pub mod Targets
pub mod Clamping
pub mod Paying
pub mod Options
pub mod Stored
