use Rattle.std.proofs.Common.{map, subst, sym, ◌∙◌}
use Rattle.std.specs.String.{string_bytes}
use Rattle.std.specs.List.{AllByRecursion}
use Rattle.manager_core.specs.Cores.{Parts, parts}
use Rattle.script_shell.specs.Promises.{Runs}
use Rattle.script_shell.specs.Ran.{IsAskedAlone}
use Rattle.script_shell.proofs.CallLaws.{stops_reading, stops_opening, commands_run, completes}
use Rattle.script_shell.proofs.ScriptLaws.{script_is_asked}
use Rattle.script_shell.proofs.shell.run_script.Goals as goal

pub returns-in-Err-clause-promises : goal.returns-in-Err-clause-promises
returns-in-Err-clause-promises g c = stops_reading _ _ _ _ _ _ _ _ c.in-Err.status c.unstarted.ensures.status c.unstarted.ensures.history c.in-Err.ensures.err

pub returns-in-Err-clause-completes : goal.returns-in-Err-clause-completes
returns-in-Err-clause-completes g c = completes _ _ _ _ _ _ _ _ _ (returns-in-Err-clause-promises g c)

pub returns-in-Err-start-clause-promises : goal.returns-in-Err-start-clause-promises
returns-in-Err-start-clause-promises g c =
    stops_opening _ _ _ _ _ c.in-Ok.script.lines c.in-Ok.ensures.ok _ _ _ c.in-Err-start.fault _ (c.unstarted-in-Err-start.ensures.status ∙ c.unopened.ensures) c.unstarted-in-Err-start.ensures.history
    c.in-Err-start.ensures.fault c.in-Err-start.ensures.fault_opens c.in-Err-start.ensures.untouched c.in-Err-start.ensures.fault_later

pub returns-in-Err-start-clause-completes : goal.returns-in-Err-start-clause-completes
returns-in-Err-start-clause-completes g c = completes _ _ _ _ _ _ _ _ _ (returns-in-Err-start-clause-promises g c)

pub run_core-requires-clause-asked : goal.run_core-requires-clause-asked
run_core-requires-clause-asked g c = subst (AllByRecursion IsAskedAlone) (sym c.into_vec.ensures) (script_is_asked c.in-Ok.ensures.ok.bytes c.in-Ok.script.lines c.in-Ok.ensures.ok.grammar)

pub returns-clause-promises : goal.returns-clause-promises
returns-clause-promises g c =
    let core = c.in-Ok-start.core in
    let old : Parts = parts (g.W.World.outside core.world) core.journal.entries core.doings core.known core.stop in
    commands_run (map string_bytes c.args.words.now.items) _ _ _ _ c.in-Ok.script.lines c.in-Ok.ensures.ok (g.W.World.outside c.args.world) old (g.W.World.outside c.run_core.result.1) c.run_core.result.0.history c.run_core.result.0.status
    c.in-Ok-start.ensures.opens c.in-Ok-start.ensures.ready c.in-Ok-start.ensures.later c.in-Ok-start.ensures.all_known
    (subst (λ script. Runs script old (g.W.World.outside c.run_core.result.1) c.run_core.result.0.history c.run_core.result.0.status) c.into_vec.ensures c.run_core.ensures.runs) c.run_core.ensures.cause c.run_core.ensures.of_commands

pub returns-clause-completes : goal.returns-clause-completes
returns-clause-completes g c = completes _ _ _ _ _ _ _ _ _ (returns-clause-promises g c)
