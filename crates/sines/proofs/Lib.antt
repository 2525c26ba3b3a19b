pub mod Rules
pub mod Line
pub mod Mixing
pub mod Start
pub mod Between
pub mod Points
pub mod Named
