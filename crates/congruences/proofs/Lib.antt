pub mod Fractions
pub mod Consistency
pub mod Lawfulness
