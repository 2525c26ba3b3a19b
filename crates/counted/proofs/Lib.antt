pub mod Sizes
pub mod Triples
pub mod Counted
pub mod Chains
