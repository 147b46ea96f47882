use Rattle.std.proofs.Common.{rules, map}
use Rattle.script_lang.proofs.WorkloadLaws.{fault_alone}
use Rattle.script_lang.proofs.command_line.read_rest.Goals as goal

pub returns-in-Err-clause-err : goal.returns-in-Err-clause-err
returns-in-Err-clause-err c = fault_alone c.args.in_force (map (λ w. w.now) c.args.words.now) c.in-Err.fault (search rules) c.in-Err.ensures.err
