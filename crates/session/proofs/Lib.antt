pub mod Ranges
pub mod Needing
pub mod Jumping
pub mod Claimed
pub mod Reaching
pub mod Setting
