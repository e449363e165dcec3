pub mod Records
pub mod Decoding
pub mod Views
pub mod Frames
pub mod Laws
