pub mod Table
pub mod Kinds
pub mod Sine
