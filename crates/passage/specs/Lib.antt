pub mod Player
pub mod Passage
pub mod Synth
