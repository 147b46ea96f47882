pub mod Adding
pub mod Changes
pub mod Overlapping
pub mod Planning
