pub mod Arranging
pub mod Views
