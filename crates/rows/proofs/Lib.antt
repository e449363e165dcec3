pub mod Integers
pub mod Farkas
pub mod Splits
pub mod Locals
pub mod Lawfulness
pub mod Alike
