pub mod Buffers
pub mod Examples
pub mod Lines
pub mod Telling
pub mod Views
