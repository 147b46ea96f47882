pub mod LookLaws
pub mod OpenLaws
pub mod SessionLaws
pub mod EntryLaws
pub mod ContractLaws
pub mod CoreLaws
pub mod AloneCore
