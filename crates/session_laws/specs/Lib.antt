pub mod Contract
pub mod Core
pub mod Doing
pub mod Needs
