use Rattle.std.proofs.Common.{◌≡◌, ◌<◌, arith, true, false, true≢false, refl, sym, [], ◌∷◌}
use Rattle.plain_model.specs.declared.finish.RunStatus.TheVariants as status
use Rattle.plain_model.specs.declared.replies.Reply.TheVariants as reply
use Rattle.model_examples.specs.Values.{make_map, map_entry, second_entry}
use Rattle.world_examples.specs.Examples.{map_m, map_n}
use Rattle.model_examples.specs.Runs.{asks, two_asked, map_answered}
use Rattle.model_examples.proofs.Served.{serves, in_order}
use Rattle.model_examples.proofs.headline.each_once_in_order.Goals as goal

pub returns-clause-done : goal.returns-clause-done
returns-clause-done c = serves (map_entry ∷ second_entry ∷ []) status.Done (refl, (refl, tt))

pub returns-clause-stopped_at_a_write : goal.returns-clause-stopped_at_a_write
returns-clause-stopped_at_a_write c = record { in_order = in_order true (map_entry ∷ []) (asks 1 (make_map map_n) ∷ []) (refl, tt); all = λ done. absurd (true≢false (sym done)); all_after_fault = λ failed. absurd (true≢false (sym failed)) }

pub returns-clause-opening_failed : goal.returns-clause-opening_failed
returns-clause-opening_failed c = record { in_order = in_order false [] two_asked tt; all = λ done. absurd (true≢false (sym done)); all_after_fault = λ failed fault. absurd (let e : 0 < 0 = fault in omega arith) }

pub returns-clause-never_done_before_the_end : goal.returns-clause-never_done_before_the_end
returns-clause-never_done_before_the_end c o = let e : make_map map_m ∷ [] ≡ make_map map_m ∷ make_map map_n ∷ [] = o.all refl 1 in cc

pub returns-clause-never_refused_before_the_end : goal.returns-clause-never_refused_before_the_end
returns-clause-never_refused_before_the_end c o = let e : make_map map_m ∷ [] ≡ make_map map_m ∷ make_map map_n ∷ [] = o.all refl 1 in cc

pub returns-clause-never_a_fault_before_the_end : goal.returns-clause-never_a_fault_before_the_end
returns-clause-never_a_fault_before_the_end c o = let one : 0 < 1 = omega arith in let e : make_map map_m ∷ [] ≡ make_map map_m ∷ make_map map_n ∷ [] = o.all_after_fault refl one 1 in cc

pub returns-clause-all_after_a_fault : goal.returns-clause-all_after_a_fault
returns-clause-all_after_a_fault c = serves (map_answered reply.Fault ∷ second_entry ∷ []) status.StoreFault (refl, (refl, tt))
