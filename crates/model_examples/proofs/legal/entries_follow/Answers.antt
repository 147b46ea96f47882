use Rattle.std.proofs.Common.{refl, sym, ap, ◌∙◌, []}
use Rattle.std.specs.FinMap as fin
use Rattle.cell_world.specs.ByteOrder.{byte_cmp}
use Rattle.cell_world.specs.declared.cells.KeyType.{KeyType}
use Rattle.cell_world.specs.declared.cells.MapKind.{MapKind}
use Rattle.plain_model.specs.ByMoments.{standing}
use Rattle.model_examples.specs.Values.{map_trail, trail_of}
use Rattle.world_examples.specs.Examples.{map_m}
use Rattle.model_examples.proofs.Lookups.{differ}
use Rattle.model_examples.proofs.Maps.{has_map, has_it, has_none}
use Rattle.model_examples.proofs.Closing.{makes_first}
use Rattle.model_examples.proofs.legal.entries_follow.Goals as goal

pub returns-clause-never_without_a_commit : goal.returns-clause-never_without_a_commit
returns-clause-never_without_a_commit c legal =
    let f = (legal.follows 0 _ refl).follows in
    differ (has_map map_m) _ _ (ap (λ r. r.0) (sym (makes_first f.held (standing (trail_of []) 0 (legal.connections 0)) (fin.get-empty byte_cmp map_m) (fin.len-empty byte_cmp (MapKind × KeyType))) ∙ f.step)) (has_it (standing (trail_of []) 0 (legal.connections 0)) map_m) (has_none map_m)

pub returns-clause-never_before_its_commit : goal.returns-clause-never_before_its_commit
returns-clause-never_before_its_commit c legal =
    let f = (legal.follows 0 _ refl).follows in
    differ (has_map map_m) _ _ (ap (λ r. r.0) (sym (makes_first f.held (standing map_trail 0 (legal.connections 0)) (fin.get-empty byte_cmp map_m) (fin.len-empty byte_cmp (MapKind × KeyType))) ∙ f.step)) (has_it (standing map_trail 0 (legal.connections 0)) map_m) (has_none map_m)
