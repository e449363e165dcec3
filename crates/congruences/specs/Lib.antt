pub mod Applications
pub mod Congruences
