use Rattle.std.proofs.Common.{map, subst}
use Rattle.std.specs.Prelude.{min}
use Rattle.std.specs.String.{string_bytes}
use Rattle.cell_world.specs.Counts.{last_count}
use Rattle.script_shell.specs.Promises.{RunsScript, Completes}
use Rattle.shardctl_program.proofs.program.run_over.Goals as goal

-- the source is a new one over the input, in which no reading failed
pub returns : goal.returns
returns g c = record {
  after = g.I.Read.remaining c.run_script-finish.new.source.input;
  faults = min c.run_script-finish.new.source.faults last_count;
  new = g.W.World.outside c.run_script-finish.result.1;
  history = c.run_script-finish.result.0.history;
  promises = subst (λ source. RunsScript (map string_bytes c.args.words.now.items) (g.I.Read.remaining source.input) (g.I.Read.remaining c.run_script-finish.new.source.input) (min source.faults last_count) (min c.run_script-finish.new.source.faults last_count)
      (g.W.World.outside c.args.world) (g.W.World.outside c.run_script-finish.result.1) c.run_script-finish.result.0.history c.run_script-finish.result.0.status) c.new-source.ensures c.run_script-finish.ensures.promises;
  completes = subst (λ source. Completes (map string_bytes c.args.words.now.items) (g.I.Read.remaining source.input) (min source.faults last_count) (min c.run_script-finish.new.source.faults last_count)
      (g.W.World.outside c.args.world) (g.W.World.outside c.run_script-finish.result.1) c.run_script-finish.result.0.status) c.new-source.ensures c.run_script-finish.ensures.completes;
}
