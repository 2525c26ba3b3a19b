pub mod Decimals
pub mod Laying
pub mod Little
