use Rattle.std.proofs.Common.{ap, ◌∙◌, slice_get, subst}
use Rattle.sqlite_site.specs.Entries.{IsCellOf}
use Rattle.sqlite_site.proofs.RowLemmas.{last_some}
use Rattle.sqlite_site.proofs.stored.last.Goals as goal

pub returns-in-Some-clause-found : goal.returns-in-Some-clause-found
returns-in-Some-clause-found g c clean all has =
    last_some c.args.key.now all c.in_ok-rows.rows.items c.in-Some.row.now c.in_ok-cell_of-in-Some.field-0 (c.in-Some.ensures.value ∙ ap (λ rows. slice_get rows 0) c.as_slice-2.ensures.value)
    (rw (c.kind_of-kind.ensures, c.as_slice.ensures.value, c.in_ok-bytes.ensures) at (c.in_ok-rows.ensures.rows clean all has))
    (subst (λ k. IsCellOf k c.in-Some.row.now c.in_ok-cell_of-in-Some.field-0) c.kind_of-kind.ensures c.in_ok-cell_of-in-Some.ensures)
