use Rattle.std.proofs.Common.{subst, sym, ap}
use Rattle.std.specs.Prelude.{Err}
use Rattle.manager_core.specs.Answering.{CommitsChange}
use Rattle.manager_core.specs.Asking.{MakesChange}
use Rattle.manager_core.proofs.ShortAnswers.{makes_done, makes_maybe, makes_none}
use Rattle.manager_core.proofs.answers.commit_change.Goals as goal

pub returns-in-Ok-clause-makes : goal.returns-in-Ok-clause-makes
returns-in-Ok-clause-makes g c = makes_done c.args.change.now c.requires.no_log c.args.known.now (g.W.World.outside c.args.world.now) (g.W.World.outside c.commit.new.world) _
    (g.W.World.laws c.args.world.now).cells c.requires.known c.in-Ok.ensures.commits

pub returns-in-Err-Failed-clause-makes : goal.returns-in-Err-Failed-clause-makes
returns-in-Err-Failed-clause-makes g c =
    let commits = subst (λ e. CommitsChange (g.W.World.outside c.args.world.now).told (g.W.World.outside c.commit.new.world).told c.args.change.now (Err e)) c.in-Err-Failed.field-0-is c.in-Err-Failed.ensures.commits in
    makes_maybe c.args.change.now c.requires.no_log c.args.known.now (g.W.World.outside c.args.world.now) (g.W.World.outside c.commit.new.world) commits.0 commits.1 c.commit.ensures.later (c.in-Err-Failed.ensures.cause (ap Err c.in-Err-Failed.field-0-is))

pub returns-in-Err-Memory-clause-makes : goal.returns-in-Err-Memory-clause-makes
returns-in-Err-Memory-clause-makes g c =
    let commits = subst (λ e. CommitsChange (g.W.World.outside c.args.world.now).told (g.W.World.outside c.commit.new.world).told c.args.change.now (Err e)) c.in-Err-Memory.field-0-is c.in-Err-Memory.ensures.commits in
    subst (λ s. MakesChange c.args.change.now s c.args.known.now c.args.known.now (g.W.World.outside c.args.world.now) (g.W.World.outside c.commit.new.world)) (sym c.no_memory.ensures.reply)
    (makes_none c.args.change.now c.requires.no_log c.args.known.now (g.W.World.outside c.args.world.now) (g.W.World.outside c.commit.new.world) commits)

pub returns-in-Err-Memory-clause-lines : goal.returns-in-Err-Memory-clause-lines
returns-in-Err-Memory-clause-lines g c = λ tag done fault. c.no_memory.ensures.lines tag
