pub mod PlainHeadlines
pub mod PlainLaws
