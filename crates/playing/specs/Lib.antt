pub mod Which
pub mod Calls
pub mod Settled
