pub mod Due
pub mod Calls
pub mod Promise
pub mod Rules
pub mod Loop
pub mod Turns
