use Rattle.std.proofs.Common.{◌+◌, sym, subst}
use Rattle.world_memory.specs.declared.contents.Contents.{Contents}
use Rattle.world_memory.specs.Kept.{IsAt}
use Rattle.world_memory.proofs.Following.{part_made, all_made, no_edits, not_commit}
use Rattle.world_memory.proofs.contents.Contents.step.Goals as goal
use Rattle.world_memory.proofs.contents.Contents.step.Goals.{in-Committed+in_ok-finish, in_default}

pub returns-in_err-finish-clause-at : goal.returns-in_err-finish-clause-at
returns-in_err-finish-clause-at c =
    subst (λ d. IsAt c.args.happened.now c.finish.new.self.cells d c.finish.new.self.part) (sym c.in_err-finish.ensures.done)
    (part_made c.args.happened.now c.args.self.now.cells c.finish.new.self.cells c.args.self.now.done c.args.self.now.part c.finish.new.self.part c.index-happened-self.result c.in-Committed.site c.in-Committed.change c.as_slice.result.now
    c.index-happened-self.is c.requires.more c.in-Committed.is c.as_slice.ensures c.in_err-finish.ensures.holds c.requires.at c.in_err-finish.ensures.part)

pub returns-clause-at : goal.returns-clause-at
returns-clause-at c = elim c.match-happened-self.branch [
  | in-Committed+in_ok-finish w ↦
      subst (λ (x : Contents). IsAt c.args.happened.now x.cells (x.done + 1) 0) (sym w.self-is)
      (subst (λ d. IsAt c.args.happened.now w.finish.new.self.cells (d + 1) 0) (sym w.in_ok-finish.ensures.done)
      (all_made c.args.happened.now c.args.self.now.cells w.finish.new.self.cells c.args.self.now.done c.args.self.now.part w.finish.new.self.part c.index-happened-self.result w.in-Committed.site w.in-Committed.change w.as_slice.result.now
      c.index-happened-self.is c.requires.more w.in-Committed.is w.as_slice.ensures w.in_ok-finish.ensures.holds c.requires.at w.in_ok-finish.ensures.ok))
  | in_default w ↦
      subst (λ (x : Contents). IsAt c.args.happened.now x.cells (x.done + 1) 0) (sym w.self-is)
      (no_edits c.args.happened.now c.args.self.now.cells c.args.self.now.done c.args.self.now.part c.index-happened-self.result c.index-happened-self.is c.requires.more
      (not_commit c.index-happened-self.result w.in_default.not-Committed) c.requires.at)
]
