pub mod Courses
pub mod Entries
pub mod Forward
pub mod Leading
pub mod Left
pub mod LiveNumbers
pub mod Opening
pub mod Planned
