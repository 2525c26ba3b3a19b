pub mod Digits
pub mod Laying
pub mod Sizes
