use Rattle.std.proofs.Common.{◌≡◌, true≢false, refl, sym, ap, subst, List, [], ◌∷◌}
use Rattle.std.specs.Prelude.{IfSome}
use Rattle.cell_world.specs.Texts.{Text}
use Rattle.cell_world.specs.Orders.{pair_cmp}
use Rattle.cell_world.specs.Keys.{same}
use Rattle.cell_world.specs.Stores.{piece_key}
use Rattle.cell_world.specs.declared.cells.Status.TheVariants.{Online}
use Rattle.cell_world.specs.declared.operations.Piece.{Piece}
use Rattle.cell_world.proofs.MappingLaws.{sound_mappings}
use Rattle.world_examples.proofs.Accepting.{b_not_a}
use Rattle.world_examples.specs.Examples.{int_key, range, map_m, site_a, site_b, free_piece}
use Rattle.world_examples.specs.Sounds.{image_at_rest}
use Rattle.world_examples.proofs.Tables.{get_of}
use Rattle.world_examples.proofs.AtRest.{rest_sound}
use Rattle.world_examples.proofs.ShortTables.{piece_in, span_of_m}
use Rattle.world_examples.proofs.sound.mappings_in_order.Goals as goal

pub returns-clause-accepted : goal.returns-clause-accepted
returns-clause-accepted c = sound_mappings image_at_rest rest_sound

pub returns-clause-of_sound_images : goal.returns-clause-of_sound_images
returns-clause-of_sound_images c = sound_mappings

pub returns-clause-misplaced : goal.returns-clause-misplaced
returns-clause-misplaced c = λ h. true≢false (ap (λ (k : Text × Text). same k.1 (int_key 0)) (subst (λ o. IfSome o (λ p. piece_key p ≡ (map_m, int_key 1))) (get_of pair_cmp (((map_m, int_key 1), free_piece 0 5 site_a Online) ∷ []) tt (map_m, int_key 1)) (h.placed (map_m, int_key 1))))

pub returns-clause-empty_span : goal.returns-clause-empty_span
returns-clause-empty_span c = λ h. true≢false (sym (span_of_m (range 5 5) (h.spans (free_piece 5 5 site_a Online) (piece_in (free_piece 5 5 site_a Online ∷ []) tt (free_piece 5 5 site_a Online) refl))))

pub returns-clause-disjoint : goal.returns-clause-disjoint
returns-clause-disjoint c = λ h.
    let pieces : List Piece = free_piece 0 6 site_a Online ∷ free_piece 5 10 site_b Online ∷ [] in
    let same = h.disjoint (free_piece 0 6 site_a Online) (free_piece 5 10 site_b Online) (piece_in pieces tt (free_piece 0 6 site_a Online) refl) (piece_in pieces tt (free_piece 5 10 site_b Online) refl) refl refl in
    b_not_a (sym (ap (λ (p : Piece). p.location) same))
