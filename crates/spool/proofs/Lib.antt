pub mod Steps
pub mod Playing
pub mod Room
pub mod Longer
