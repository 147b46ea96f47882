pub mod Logs
pub mod Moves
pub mod Ends
pub mod Places
pub mod Leaving
