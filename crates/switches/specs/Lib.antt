pub mod Switches
pub mod Lawfulness
