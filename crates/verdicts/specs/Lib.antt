pub mod Outcomes
pub mod Stated
pub mod Honest
