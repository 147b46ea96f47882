pub mod Catalogs
pub mod CommitEdits
pub mod Exchange
pub mod Fits
pub mod LocalSteps
pub mod RowEdits
pub mod Shapes
pub mod Transactions
