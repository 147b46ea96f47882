use Rattle.std.proofs.Common.{ap, ◌∙◌, subst}
use Rattle.sqlite_site.specs.Entries.{ArePageOf, first_key}
use Rattle.sqlite_site.proofs.StoreNext.{nexts}
use Rattle.sqlite_site.proofs.stored.next_key.Goals as goal

pub returns-clause-cells : goal.returns-clause-cells
returns-clause-cells g c clean s has =
    let page = c.in_ok-found.found.items in
    nexts has.0 s c.args.map.now c.args.from.now c.args.past c.first_key.result has.2 has.1.apart c.known.ensures (
      page,
      subst (λ bytes. ArePageOf has.0 10 bytes 1 page) (c.as_slice.ensures.value ∙ c.in_ok-bytes.ensures) (c.in_ok-found.ensures.found clean has.0 has.1),
      c.first_key.ensures ∙ ap (first_key c.args.map.now) c.as_slice-2.ensures.value,
    )
