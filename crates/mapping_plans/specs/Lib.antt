pub mod Commands
pub mod Exchanges
pub mod Finding
pub mod Locking
pub mod Merging
pub mod Moving
pub mod SiteRows
