pub mod Reservations
pub mod Sixteen
pub mod Tables
pub mod Stored
