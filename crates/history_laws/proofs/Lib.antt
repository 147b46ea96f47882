pub mod CacheLaws
pub mod NumberLaws
pub mod NumbersByMoments
pub mod OpenLaws
pub mod PutLaws
pub mod TriedLaws
