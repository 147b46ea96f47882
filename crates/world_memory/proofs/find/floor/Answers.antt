use Rattle.std.proofs.Common.{sym, subst, Some}
use Rattle.cell_world.specs.Finding.{IsFloor}
use Rattle.world_memory.proofs.Found.{none_last, other_last, is_last, refused}
use Rattle.world_memory.proofs.find.floor.Goals as goal

pub returns-in_default : goal.returns-in_default
returns-in_default c stores holds keyed = none_last c.args.cells.now stores (record { site = c.args.site.0; key = c.args.key.now }) c.range-range.result (c.range-range.ensures.in_range tt) holds keyed c.in_default.ensures.steps.0

pub returns-then-not-same_part : goal.returns-then-not-same_part
returns-then-not-same_part c stores holds keyed = other_last c.args.cells.now stores (record { site = c.args.site.0; key = c.args.key.now }) c.range-range.result (c.range-range.ensures.in_range tt) holds keyed
    c.in-Some.at.now c.in-Some.cell.now _ c.in-Some.ensures.steps (refused c.same_part.result c.same_part.ensures.1 c.if-not-same_part.true)

pub returns : goal.returns
returns c stores holds keyed = subst (λ x. IsFloor (stores c.args.site.0) c.args.key.now (Some x)) (sym c.in_ok-cell_copied.ensures)
    (is_last c.args.cells.now stores (record { site = c.args.site.0; key = c.args.key.now }) c.range-range.result (c.range-range.ensures.in_range tt) holds keyed
    c.in-Some.at.now c.in-Some.cell.now _ c.in-Some.ensures.steps (c.same_part.ensures.0 c.if-not-same_part.false))
