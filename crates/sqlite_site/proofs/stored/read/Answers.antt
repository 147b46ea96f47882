use Rattle.std.proofs.Common.{sym, ◌∙◌, Some, None}
use Rattle.sqlite_site.proofs.StoreFinds.{reads, read_some, read_none}
use Rattle.sqlite_site.proofs.stored.read.Goals as goal

pub returns-in-Some-clause-cells : goal.returns-in-Some-clause-cells
returns-in-Some-clause-cells g c clean s has =
    let is = c.in_ok-cell_under-in-Some.ensures in
    reads has.0 s c.args.key.now (Some c.in_ok-cell_under-in-Some.field-0) has.2 (
      is.0,
      is.1,
      read_some has.0 c.args.key.now c.in_ok-value.field-0 c.in-Some.value c.in_ok-cell_under-in-Some.field-0 c.in-Some.is (sym c.as_slice-in-Some.ensures.value ∙ is.2)
          (rw (c.kind_of.ensures, c.as_slice.ensures.value, c.in_ok-bytes.ensures) at (c.in_ok-value.ensures.value clean has.0 has.1)),
    )

pub returns-clause-cells : goal.returns-clause-cells
returns-clause-cells g c clean s has =
    reads has.0 s c.args.key.now None has.2
    (read_none has.0 c.args.key.now c.in_ok-value.field-0 c.in-None.is (rw (c.kind_of.ensures, c.as_slice.ensures.value, c.in_ok-bytes.ensures) at (c.in_ok-value.ensures.value clean has.0 has.1)))
