pub mod Commits
pub mod Replies
pub mod Seeing
