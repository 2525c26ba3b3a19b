pub mod Lists
pub mod Runs
pub mod Calls
pub mod Listed
