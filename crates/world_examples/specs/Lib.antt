pub mod Examples
pub mod Sounds
