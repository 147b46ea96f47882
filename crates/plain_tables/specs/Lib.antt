pub mod Tables
pub mod State
pub mod Exchanging
