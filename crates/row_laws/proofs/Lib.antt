pub mod AloneLaws
pub mod CommitLeads
pub mod EntryLaws
pub mod QuietLeads
