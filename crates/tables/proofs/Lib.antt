pub mod Closing
pub mod Gathering
pub mod Testing
pub mod Alone
pub mod Keeping
pub mod Sines
