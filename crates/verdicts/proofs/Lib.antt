pub mod Taking
pub mod Writing
pub mod Drafting
pub mod Searching
pub mod Solving
pub mod Telling
