pub mod Piles
pub mod Examples
