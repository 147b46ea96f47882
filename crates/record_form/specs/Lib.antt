pub mod Layout
pub mod OrderBytes
pub mod Reading
pub mod Faults
pub mod Fields
pub mod Kinds
