use Rattle.std.proofs.Common.{◌≤◌, arith, refl, subst, None, [], ◌∷◌}
use Rattle.plain_model.specs.Legal.{IsAtOperation}
use Rattle.plain_model.proofs.LegalAtMoments.{legal_by_moments}
use Rattle.model_examples.specs.Values.{map_trail, map_entry, nothing_going}
use Rattle.model_examples.proofs.ListRun.{is_legal}
use Rattle.model_examples.proofs.LegalRuns.{one_map}
use Rattle.model_examples.proofs.headline.legal_history.Goals as goal

pub returns-clause-one_refused : goal.returns-clause-one_refused
returns-clause-one_refused c = is_legal

pub returns-clause-never_past_the_end : goal.returns-clause-never_past_the_end
returns-clause-never_past_the_end c h = let e : 1 ≤ 0 = h.legal.ends in omega arith

pub returns-clause-never_waiting_for_nobody : goal.returns-clause-never_waiting_for_nobody
returns-clause-never_waiting_for_nobody c h = subst (λ g. IsAtOperation 1 g None) ((h.left h.legal.promises.0.other).none refl) h.legal.promises.0.at_operation

pub returns-clause-one_map : goal.returns-clause-one_map
returns-clause-one_map c = record { going = nothing_going; left = λ session. record { none = λ ran. refl; next = tt }; legal = legal_by_moments map_trail 0 nothing_going (map_entry ∷ []) (omega arith) one_map }
