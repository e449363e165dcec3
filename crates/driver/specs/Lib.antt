pub mod Holding
pub mod Taking
