use Rattle.std.proofs.Common.{rules, map}
use Rattle.script_lang.proofs.WorkloadLaws.{bad_seed, bad_mark, bad_count}
use Rattle.script_lang.proofs.command_line.read_workload.Goals as goal

pub returns-in_default-clause-err : goal.returns-in_default-clause-err
returns-in_default-clause-err c = bad_seed (map (λ w. w.now) c.args.words.now) c.requires (search rules)

pub returns-then-not-first_is-clause-err : goal.returns-then-not-first_is-clause-err
returns-then-not-first_is-clause-err c = bad_mark (map (λ w. w.now) c.args.words.now) c.in-Some.seed c.requires (search rules) (search rules)

pub returns-in_default-first_number-clause-err : goal.returns-in_default-first_number-clause-err
returns-in_default-first_number-clause-err c = bad_count (map (λ w. w.now) c.args.words.now) c.in-Some.seed c.requires (search rules) (search rules) (search rules)
