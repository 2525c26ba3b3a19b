pub mod Track
pub mod Tests
pub mod Calls
