pub mod Sizes
pub mod Views
pub mod Models
pub mod Denials
pub mod Refutations
