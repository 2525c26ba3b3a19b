pub mod Limits
pub mod Marks
pub mod Numbers
pub mod Records
pub mod Places
pub mod Longer
