pub mod Valuing
