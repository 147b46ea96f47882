pub mod Conflicts
pub mod Detaching
pub mod JobBeginnings
pub mod JobFinishes
pub mod KeptRange
pub mod RetokenImages
pub mod SiteLists
pub mod TwoSites
