pub mod RowLaws
pub mod RowAnswers
pub mod SiteCalls
