use Rattle.std.proofs.Common.{rules, map, subst}
use Rattle.script_lang.specs.CommandLine.{IsAcceptedRest, IsWordsFault}
use Rattle.script_lang.proofs.StoreLaws.{fault_without}
use Rattle.script_lang.proofs.command_line.read_with.Goals as goal

pub returns-in-Err-clause-err : goal.returns-in-Err-clause-err
returns-in-Err-clause-err c = fault_without c.args.program c.args.options (map (λ w. w.now) c.args.words.now) c.in-Err.fault (search rules)
    (subst (λ b. IsWordsFault (IsAcceptedRest b) (map (λ w. w.now) c.args.words.now) c.in-Err.fault) c.has_workloads.ensures c.in-Err.ensures.err)
