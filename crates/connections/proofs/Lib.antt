pub mod EachTable
pub mod EndedInTurn
pub mod OwnedLaws
pub mod SessionLaws
pub mod TableLaws
