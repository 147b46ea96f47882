use Rattle.world_memory.proofs.Found.{none_first, other_first, is_first, refused}
use Rattle.world_memory.proofs.find.first.Goals as goal

pub returns-in_default : goal.returns-in_default
returns-in_default c stores holds keyed = none_first c.args.cells.now stores c.args.from.now c.args.past c.begin_at.result c.begin_at.ensures c.range-range.result (c.range-range.ensures.in_range tt) holds keyed c.in_default.ensures.steps.0

pub returns-then-not-same_kind : goal.returns-then-not-same_kind
returns-then-not-same_kind c stores holds keyed = other_first c.args.cells.now stores c.args.from.now c.args.past c.begin_at.result c.begin_at.ensures c.range-range.result (c.range-range.ensures.in_range tt) holds keyed
    c.in-Some.at.now c.in-Some.cell.now _ c.in-Some.ensures.steps (refused c.same_kind.result c.same_kind.ensures.1 c.if-not-same_kind.true)

pub returns : goal.returns
returns c stores holds keyed = is_first c.args.cells.now stores c.args.from.now c.args.past c.begin_at.result c.begin_at.ensures c.range-range.result (c.range-range.ensures.in_range tt) holds keyed
    c.in-Some.at.now c.in-Some.cell.now _ c.in-Some.ensures.steps (c.same_kind.ensures.0 c.if-not-same_kind.false)
