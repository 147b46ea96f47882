pub mod Altering
pub mod Below
pub mod Resolving
pub mod Scanning
pub mod Sweeping
