pub mod Origins
pub mod Calls
pub mod Waves
pub mod Sines
pub mod Targets
pub mod Free
pub mod Figures
