pub mod Signs
pub mod Trials
pub mod Runs
pub mod Refusals
