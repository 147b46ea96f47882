pub mod JobChanges
pub mod JobSiteChanges
pub mod ShortChanges
pub mod Sites
