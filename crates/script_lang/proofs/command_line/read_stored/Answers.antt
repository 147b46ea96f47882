use Rattle.std.proofs.Common.{rules, map, sym, subst}
use Rattle.script_lang.specs.CommandLine.{IsAccepted, IsAcceptedRest, IsWordsFault}
use Rattle.script_lang.proofs.StoreLaws.{at_both, bad_folder, begins_stored, fault_rest}
use Rattle.script_lang.proofs.command_line.read_stored.Goals as goal

pub returns-in_default-clause-err : goal.returns-in_default-clause-err
returns-in_default-clause-err c = bad_folder c.args.program c.args.options (map (λ w. w.now) c.args.words.now) c.requires.allowed c.requires.first (search rules)

pub returns-in-Err-clause-err : goal.returns-in-Err-clause-err
returns-in-Err-clause-err c =
    let words = map (λ w. w.now) c.args.words.now in
    subst (IsWordsFault (IsAccepted c.args.program c.args.options) words) (sym c.moved_by.ensures)
    (fault_rest c.args.program c.args.options words c.in-Some.folder.now c.in-Err.fault c.requires.allowed (begins_stored words c.in-Some.folder.now c.requires.first (search rules))
    (at_both (λ b w. IsWordsFault (IsAcceptedRest b) w c.in-Err.fault) c.has_workloads.ensures c.behind-2.ensures c.in-Err.ensures.err))
