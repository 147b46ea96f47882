use Rattle.sqlite_site.proofs.StoreRows.{some_store, one_store}
use Rattle.sqlite_site.proofs.laws.rows_are_a_store.Goals as goal

pub returns-clause-some : goal.returns-clause-some
returns-clause-some c = some_store

pub returns-clause-one : goal.returns-clause-one
returns-clause-one c = one_store
