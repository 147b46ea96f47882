pub mod Groups
pub mod Known
pub mod Listing
pub mod Places
pub mod Reads
