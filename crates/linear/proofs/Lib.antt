pub mod Sums
pub mod Listed
pub mod Reading
pub mod Tabled
pub mod Affirmed
pub mod Hinted
pub mod Columns
