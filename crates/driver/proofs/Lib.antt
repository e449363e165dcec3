pub mod Leading
pub mod Obeying
pub mod Advancing
pub mod Reading
pub mod Room
pub mod Recording
