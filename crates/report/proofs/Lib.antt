pub mod Writing
pub mod Counted
pub mod Decimals
pub mod Cutting
pub mod Told
