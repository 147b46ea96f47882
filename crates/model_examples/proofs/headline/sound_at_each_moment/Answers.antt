use Rattle.std.proofs.Common.{◌≤◌, arith, refl}
use Rattle.plain_model.proofs.RunsAtMoments.{sound_by_moments}
use Rattle.model_examples.specs.Values.{map_trail}
use Rattle.model_examples.proofs.ListRun.{runs}
use Rattle.model_examples.proofs.LegalRuns.{one_map, map_sound}
use Rattle.model_examples.proofs.headline.sound_at_each_moment.Goals as goal

pub returns-clause-of_empty_stores : goal.returns-clause-of_empty_stores
returns-clause-of_empty_stores c = record { sound = runs.sound }

pub returns-clause-never_unsound_between : goal.returns-clause-never_unsound_between
returns-clause-never_unsound_between c h = let from : 0 ≤ 1 = omega arith in let to : 1 ≤ 2 = omega arith in let e : 1 ≤ 0 = (h.sound 1 from to).globals.operations.0 in omega arith

pub returns-clause-never_unsound_at_the_end : goal.returns-clause-never_unsound_at_the_end
returns-clause-never_unsound_at_the_end c h = let from : 1 ≤ 1 = omega arith in let e : 1 ≤ 0 = (h.sound 1 from from).globals.operations.0 in omega arith

pub returns-clause-of_one_map : goal.returns-clause-of_one_map
returns-clause-of_one_map c = record { sound = sound_by_moments map_trail 0 one_map.timeline (omega arith) refl map_sound }
