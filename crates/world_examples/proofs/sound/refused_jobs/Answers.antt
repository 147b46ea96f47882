use Rattle.std.proofs.Common.{◌<◌, Bool, true, false, true≢false, refl, sym, ap, ◌∙◌, subst, Some, Option, [], ◌∷◌, arith, is_some}
use Rattle.std.specs.Prelude.{IsTrue}
use Rattle.cell_world.specs.ByteOrder.{byte_cmp}
use Rattle.cell_world.specs.KeyForms.{is_normal_end, is_span_of}
use Rattle.cell_world.specs.declared.cells.KeyType.{KeyType}
use Rattle.cell_world.specs.declared.cells.KeyType.TheVariants.{Int}
use Rattle.cell_world.specs.declared.cells.MapKind.{MapKind}
use Rattle.cell_world.specs.declared.cells.MapKind.TheVariants as kind
use Rattle.cell_world.specs.declared.spans.High.TheVariants.{At}
use Rattle.world_examples.specs.Examples.{range, map_m, site_a, site_b}
use Rattle.world_examples.specs.Sounds.{long_key}
use Rattle.world_examples.proofs.Tables.{get_of}
use Rattle.world_examples.proofs.Standing.{not_both, is_int}
use Rattle.world_examples.proofs.ShortTables.{set_has}
use Rattle.world_examples.proofs.sound.refused_jobs.Goals as goal

abbrev is_range : Option (MapKind × KeyType) → Bool
is_range (Some (kind.Range, type)) = true
is_range other = false

pub returns-clause-no_map : goal.returns-clause-no_map
returns-clause-no_map c = λ h. true≢false (sym (ap is_some h.range_map) ∙ ap is_some (get_of byte_cmp [] tt map_m))

pub returns-clause-list_map : goal.returns-clause-list_map
returns-clause-list_map c = λ h. true≢false (sym (ap is_range h.range_map) ∙ ap is_range (get_of byte_cmp ((map_m, (kind.List, Int)) ∷ []) tt map_m))

pub returns-clause-empty_range : goal.returns-clause-empty_range
returns-clause-empty_range c = λ h. true≢false (sym (subst (λ type. IsTrue (is_span_of kind.Range type (range 10 10))) (is_int kind.Range h.type h.range_map) h.range))

pub returns-clause-cursor_form : goal.returns-clause-cursor_form
returns-clause-cursor_form c = λ h. true≢false (sym (subst (λ type. IsTrue (is_normal_end type (At long_key))) (is_int kind.Range h.type h.range_map) h.cursor_form))

pub returns-clause-target : goal.returns-clause-target
returns-clause-target c = λ h. not_both _ (set_has ((map_m, site_a) ∷ []) (map_m, site_b) false refl) h.target

pub returns-clause-one_site : goal.returns-clause-one_site
returns-clause-one_site c = λ h. h.source refl

pub returns-clause-cursor_below : goal.returns-clause-cursor_below
returns-clause-cursor_below c = λ h. true≢false (sym h.from_low)

pub returns-clause-cursor_above : goal.returns-clause-cursor_above
returns-clause-cursor_above c = λ h. true≢false (sym h.to_high)

pub returns-clause-numbered : goal.returns-clause-numbered
returns-clause-numbered c = λ h. let below : 1 < 1 = h.numbered in omega arith
