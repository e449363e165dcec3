pub mod Reports
pub mod Truth
pub mod Worked
pub mod Solutions
pub mod Untrue
