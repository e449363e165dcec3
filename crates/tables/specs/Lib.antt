pub mod Views
pub mod Keys
pub mod Tables
