pub mod Refusing
pub mod Asking
pub mod Listed
pub mod Drawn
pub mod Options
pub mod Keeping
pub mod Promises
pub mod Leaving
