use Rattle.std.proofs.Common.{true, map, sym, subst}
use Rattle.script_lang.specs.CommandLine.{AreLocations, IsAcceptedRest, IsWordsFault}
use Rattle.script_lang.proofs.WorkloadLaws.{fault_behind}
use Rattle.script_lang.proofs.command_line.read_worked.Goals as goal

pub returns-in-Err-read_locations-clause-err : goal.returns-in-Err-read_locations-clause-err
returns-in-Err-read_locations-clause-err c =
    let words = map (λ w. w.now) c.args.words.now in
    subst (IsWordsFault (IsAcceptedRest true) words) (sym c.moved_by.ensures)
    (fault_behind words c.in-Ok.workload c.in-Err-read_locations.fault c.in-Ok.ensures.ok (subst (λ w. IsWordsFault (AreLocations 2) w c.in-Err-read_locations.fault) c.behind.ensures c.in-Err-read_locations.ensures.err))
