pub mod Size
pub mod Join
pub mod Start
pub mod Cutting
