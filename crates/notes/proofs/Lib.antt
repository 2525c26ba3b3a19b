pub mod Near
pub mod Refusing
pub mod Splitting
pub mod Promises
pub mod Sound
