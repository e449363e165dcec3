pub mod Bounds
pub mod Rows
pub mod Bodies
pub mod Hints
pub mod Linear
pub mod Examples
