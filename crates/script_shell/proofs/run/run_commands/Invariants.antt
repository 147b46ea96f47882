use Rattle.std.specs.Prelude.{length}
use Rattle.std.specs.Vec.Iter.{into_iter_items}
use Rattle.std.specs.List.{AllByRecursion}
use Rattle.std.proofs.Common.{◌≡◌}
use Rattle.manager_core.specs.Cores.{HasRoom, parts}
use Rattle.script_shell.specs.Ran.{IsAskedAlone}
use Rattle.script_shell.proofs.LoopLaws.{SoFar}
use Rattle.script_shell.proofs.run.run_commands.Given as goal

abbrev pub invariant-loop-asked : goal.invariant-loop-asked
invariant-loop-asked g l =
    record {
      can : (goal.iterator-loop-asked g).can_next l.asked-iterator;
      finite : (goal.iterator-loop-asked g).is_finite l.asked-iterator;
      so_far : SoFar l.fn.script.items (into_iter_items l.asked-iterator)
          (parts (g.W.World.outside l.fn.core.world) l.fn.core.journal.entries l.fn.core.doings l.fn.core.known l.fn.core.stop)
          (parts (g.W.World.outside l.core.world) l.core.journal.entries l.core.doings l.core.known l.core.stop) l.replied.faulted l.replied.refused;
      room : HasRoom l.core.journal l.core.stop;
      one_session : length l.core.doings ≡ 1;
      asked : AllByRecursion IsAskedAlone (into_iter_items l.asked-iterator);
    }
