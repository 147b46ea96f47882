pub mod Given
pub mod Purposes
