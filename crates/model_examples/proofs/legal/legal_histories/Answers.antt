use Rattle.std.proofs.Common.{arith, [], ◌∷◌}
use Rattle.cell_world.specs.Images.{Wrote}
use Rattle.plain_model.proofs.LegalAtMoments.{legal_by_moments}
use Rattle.model_examples.specs.Values.{map_trail, map_entry, closing, trail_of, nothing_going}
use Rattle.model_examples.proofs.LegalRuns.{no_history, one_map, two_refusals, later_start}
use Rattle.model_examples.proofs.legal.legal_histories.Goals as goal

pub returns-clause-empty : goal.returns-clause-empty
returns-clause-empty c = legal_by_moments (trail_of []) 0 nothing_going [] (omega arith) no_history

pub returns-clause-one_map : goal.returns-clause-one_map
returns-clause-one_map c = legal_by_moments map_trail 0 nothing_going (map_entry ∷ []) (omega arith) one_map

pub returns-clause-two_refusals : goal.returns-clause-two_refusals
returns-clause-two_refusals c = legal_by_moments (trail_of (Wrote [] ∷ [])) 0 nothing_going (closing 0 ∷ closing 1 ∷ []) (omega arith) two_refusals

pub returns-clause-later_start : goal.returns-clause-later_start
returns-clause-later_start c = legal_by_moments (trail_of (Wrote [] ∷ [])) 1 nothing_going (closing 1 ∷ []) (omega arith) later_start
