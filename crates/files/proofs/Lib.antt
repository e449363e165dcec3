pub mod Lemmas
pub mod Steps
pub mod Told
pub mod Wholes
pub mod Rounds
pub mod Copies
pub mod Cuts
