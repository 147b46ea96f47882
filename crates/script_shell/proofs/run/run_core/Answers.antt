use Rattle.manager_core.specs.Cores.{Parts, parts}
use Rattle.script_shell.proofs.EndLaws.{run_ends}
use Rattle.script_shell.proofs.LoopLaws.{began_at_rest}
use Rattle.script_shell.proofs.run.run_core.Goals as goal

pub returns-clause-runs : goal.returns-clause-runs
returns-clause-runs g c =
    let old : Parts = parts (g.W.World.outside c.args.core.world) c.args.core.journal.entries c.args.core.doings c.args.core.known c.args.core.stop in
    let core = c.run_commands-status.new.core in
    let mid : Parts = parts (g.W.World.outside core.world) core.journal.entries core.doings core.known core.stop in
    (run_ends c.args.script.items old mid (g.W.World.outside c.finish-history.result.2) c.run_commands-status.result c.finish-history.result.1 (began_at_rest old c.requires.first c.requires.rests) c.run_commands-status.ensures.ran c.finish-history.ensures.finishes
    c.finish-history.ensures.later c.finish-history.result.0 c.status_after.result c.finish-history.ensures.history c.status_after.ensures).0

pub returns-clause-cause : goal.returns-clause-cause
returns-clause-cause g c =
    let old : Parts = parts (g.W.World.outside c.args.core.world) c.args.core.journal.entries c.args.core.doings c.args.core.known c.args.core.stop in
    let core = c.run_commands-status.new.core in
    let mid : Parts = parts (g.W.World.outside core.world) core.journal.entries core.doings core.known core.stop in
    (run_ends c.args.script.items old mid (g.W.World.outside c.finish-history.result.2) c.run_commands-status.result c.finish-history.result.1 (began_at_rest old c.requires.first c.requires.rests) c.run_commands-status.ensures.ran c.finish-history.ensures.finishes
    c.finish-history.ensures.later c.finish-history.result.0 c.status_after.result c.finish-history.ensures.history c.status_after.ensures).1
