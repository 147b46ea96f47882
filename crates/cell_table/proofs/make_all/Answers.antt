use Rattle.std.proofs.Common.{◌≡◌, arith, ◌∙◌}
use Rattle.sqlite.specs.Held.{state}
use Rattle.sqlite.proofs.StateLemmas.{survives_then}
use Rattle.cell_table.proofs.ChangeLemmas.{keeps_then, made_more}
use Rattle.cell_table.proofs.make_all.Goals as goal

pub each-preserved : goal.each-preserved
each-preserved g c =
    let old = state g.S.Store c.args.tx.now.conn.now in
    let mid = state g.S.Store c.each.tx.conn.now in
    let new = state g.S.Store c.make.new.tx.conn.now in (
      c.make.ensures.same_reference ∙ c.each.invariant.0,
      survives_then old mid new _ _ (λ _. ⊥) (λ _ db none. none) (λ _ db none. none) c.each.invariant.1 c.make.ensures.survives,
      λ clean.
          let was = c.each.invariant.2 (omega (arith, c.make.ensures.survives.clean)) in (
            keeps_then old mid new was.0 (c.make.ensures.kept clean),
            λ began. c.in_ok-make.ensures.inside clean (was.1 began),
            λ all has.
                let before = was.2 all has in
                let step = c.in_ok-make.ensures.made clean before.0 before.2 in
                (step.0, made_more c.args.ops.now c.each.op-index c.op-item.result all before.0 step.0 c.each-test.true c.op-item.is before.1 step.1, step.2),
          ),
    )
