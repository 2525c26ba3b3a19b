pub mod Numbers
pub mod Curves
