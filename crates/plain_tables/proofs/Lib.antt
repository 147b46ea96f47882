pub mod TableLaws
pub mod SetLaws
pub mod TableRules
pub mod ExchangeLaws
pub mod LinkLaws
