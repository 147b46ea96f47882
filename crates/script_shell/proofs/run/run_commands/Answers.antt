use Rattle.std.proofs.Common.{sym, ◌∙◌, subst}
use Rattle.std.specs.List.{AllByRecursion}
use Rattle.std.specs.Vec.Iter.{into_iter_items}
use Rattle.script_shell.specs.Ran.{IsAskedAlone}
use Rattle.script_shell.proofs.LoopLaws.{asked_left, ends_all, ends_stopped, no_length, so_far_is, so_far_more, so_far_none}
use Rattle.script_shell.proofs.run.run_commands.Goals as goal

pub loop-asked-init : goal.loop-asked-init
loop-asked-init g c = record {
  can = tt;
  finite = tt;
  so_far = so_far_none c.args.script.items (into_iter_items c.into_iter-asked-iterator.result) _ c.requires.first c.requires.goes c.requires.rests c.into_iter-asked-iterator.ensures.into_iter_gives.0;
  room = c.requires.room;
  one_session = c.requires.one_session;
  asked = subst (AllByRecursion IsAskedAlone) (sym c.into_iter-asked-iterator.ensures.into_iter_gives.0) c.requires.asked;
}

pub returns-in-Some-stopped : goal.returns-in-Some-stopped
returns-in-Some-stopped g c = record {
  ran = ends_stopped _ c.in-Some.asked _ _ _ _ _ _ _ c.loop-asked.invariant.so_far c.in-Some.ensures.steps.0 (asked_left _ _ _ c.in-Some.ensures.steps.0 c.loop-asked.invariant.asked).0.1 c.run_command-outcome.ensures.later
      c.run_command-outcome.result c.in-Some-stopped.status (sym c.stopped.ensures ∙ c.in-Some-stopped.is) c.run_command-outcome.ensures.serves;
}

pub loop-asked-preserved : goal.loop-asked-preserved
loop-asked-preserved g c =
    let left = asked_left _ _ _ c.in-Some.ensures.steps.0 c.loop-asked.invariant.asked in
    let more = so_far_more _ c.in-Some.asked _ _ _ _ _ _ _ c.loop-asked.invariant.so_far c.in-Some.ensures.steps.0 left.0.1 c.run_command-outcome.ensures.later
    c.run_command-outcome.result (sym c.stopped.ensures ∙ c.in_default.is) c.run_command-outcome.ensures.serves in
    record {
      can = tt;
      finite = tt;
      so_far = so_far_is _ _ _ _ _ _ _ _ c.noting-replied.ensures.faulted c.noting-replied.ensures.refused more;
      room = c.run_command-outcome.ensures.room;
      one_session = c.run_command-outcome.ensures.sessions ∙ c.loop-asked.invariant.one_session;
      asked = left.1;
    }

pub returns : goal.returns
returns g c = record {
  ran = ends_all _ _ _ _ _ _ _ c.loop-asked.invariant.so_far (no_length _ _ c.in-None.ensures.steps.0 c.loop-asked.asked-iterator.rest.ok.0) c.status.ensures;
}
