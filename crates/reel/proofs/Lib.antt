pub mod Listing
pub mod Reading
pub mod Reaching
pub mod Asking
pub mod Longer
