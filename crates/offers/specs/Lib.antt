pub mod Rules
pub mod Runs
pub mod Stop
pub mod Walks
pub mod Pieces
pub mod Waves
pub mod Sources
