use Rattle.std.proofs.Common.{[], ◌∙◌}
use Rattle.sqlite.proofs.Callers.{memory_is_clean}
use Rattle.sqlite_site.proofs.StoreRows.{empty_rows}
use Rattle.sqlite_site.proofs.keeping.MemStoreKeeping.open.Goals as goal

pub returns : goal.returns
returns c e =
    let clean = memory_is_clean c.create.new.conn in
    (([], c.in_ok-create.ensures.empty clean, empty_rows), c.in_ok-create.ensures.mode clean ∙ c.in-Ok.ensures.empty.0.autocommit)
