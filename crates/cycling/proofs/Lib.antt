pub mod Refusing
pub mod Calling
pub mod Keeping
pub mod Demand
pub mod Instance
pub mod Sound
pub mod Loop
