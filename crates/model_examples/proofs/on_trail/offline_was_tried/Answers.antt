use Rattle.std.proofs.Common.{true, false, refl, subst, Some, ◌∷◌, [], inl}
use Rattle.cell_world.specs.Plain.{Connections, Connection}
use Rattle.cell_world.specs.declared.cells.Status.TheVariants.{Online}
use Rattle.plain_model.specs.declared.replies.Reply.TheVariants as reply
use Rattle.plain_model.specs.OnTrail.{EndsIfTried}
use Rattle.plain_model.specs.Refusing.{if_there}
use Rattle.plain_model.specs.Timelines.{Happened}
use Rattle.plain_model.specs.Worked.{small_range, mapping_over}
use Rattle.model_examples.specs.Values.{two_sites, answered, naming, connected_state, offline_op, tried, offline_5}
use Rattle.model_examples.proofs.Lookups.{differ}
use Rattle.model_examples.proofs.Faults.{owner_of_5}
use Rattle.model_examples.proofs.on_trail.offline_was_tried.Goals as goal

pub returns-clause-never_left_open : goal.returns-clause-never_left_open
returns-clause-never_left_open c f =
    let g : EndsIfTried two_sites (Happened (tried (offline_op 1) false) ∷ []) (naming (answered 1 offline_5 reply.Fault) 1) (connected_state true) (connected_state true) (Some (mapping_over (small_range 0 10) Online))
    = subst (EndsIfTried two_sites (Happened (tried (offline_op 1) false) ∷ []) (naming (answered 1 offline_5 reply.Fault) 1) (connected_state true) (connected_state true)) (owner_of_5 true) f in
    differ (λ (connections : Connections). if_there (λ (x : Connection). x.live) (connections 1 1)) _ _ (g (inl (inl (record { numbered = refl; old = refl; new = refl })))) refl refl
