use Rattle.sqlite_site.proofs.StoreNext.{row_from}
use Rattle.sqlite_site.proofs.laws.rows_begin.Goals as goal

pub returns : goal.returns
returns c = row_from
