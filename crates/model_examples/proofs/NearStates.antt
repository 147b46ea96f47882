-- States that are near, and what near states have in common.
use Rattle.std.proofs.Common.{◌≡◌, Bool, true, false, cond, not, ◌&&◌, refl, sym, ap, ◌∙◌, Some, None, [], ◌∷◌}
use Rattle.std.specs.Prelude.{option_map}
use Rattle.std.specs.Ordering.{is_lt, is_gt, ordering_reverse}
use Rattle.std.specs.declared.cmp.Ordering.{Ordering}
use Rattle.std.specs.declared.cmp.Ordering.TheVariants.{Less, Equal, Greater}
use Rattle.std.proofs.lemmas.Cmp.{nat_list_cmp_total}
use Rattle.std.specs.FinMap as fin
use Rattle.cell_world.specs.Texts.{Text}
use Rattle.cell_world.specs.ByteOrder.{byte_cmp}
use Rattle.cell_world.specs.Keys.{same, below, at_most}
use Rattle.cell_world.specs.Orders.{local_cmp}
use Rattle.cell_world.specs.Plain.{PlainState, Held, holds_nothing}
use Rattle.cell_world.specs.declared.cells.Away.{Away}
use Rattle.cell_world.specs.declared.cells.Away.TheVariants.{Detached, Suspect}
use Rattle.cell_world.specs.declared.cells.LocalRow.{LocalRow}
use Rattle.cell_world.specs.declared.cells.Status.{Status}
use Rattle.cell_world.specs.declared.cells.Status.TheVariants.{Online}
use Rattle.cell_world.proofs.SpanLaws.{same_is, at_most_below, at_most_trans}
use Rattle.plain_model.specs.Differing.{local_status, local_rows_of}
use Rattle.plain_model.specs.Near.{Near}
use Rattle.plain_model.specs.Worked.{small_key, small_range, local_row_over}
use Rattle.model_examples.specs.Values.{away_state, holding, keyed_locals, local_rows}
use Rattle.world_examples.specs.Examples.{map_m, site_a, away_of}
use Rattle.model_examples.proofs.Lookups.{get_of, entries_of}
use Rattle.model_examples.proofs.Maps.{has_map}

-- near states have the same maps
pub near_maps : (name : Text) (a b : PlainState) → Near a b → has_map name a ≡ has_map name b
near_maps name a b near = ap (has_map name) near.same

module _ (state : Away) where
  pub is_away : fin.get (away_of ((site_a, state) ∷ [])) site_a ≡ Some state
  is_away = get_of byte_cmp ((site_a, state) ∷ []) tt site_a

  -- no other site is away
  pub only_away : (location : Text) (other : Away) → fin.get (away_of ((site_a, state) ∷ [])) location ≡ Some other → (site_a ≡ location) × (state ≡ other)
  only_away location other e = by (same location site_a) refl (sym (get_of byte_cmp ((site_a, state) ∷ []) tt location) ∙ e)
    where
      by : (b : Bool) → same location site_a ≡ b → cond b (Some state) None ≡ Some other → (site_a ≡ location) × (state ≡ other)
      by true is e = (sym (same_is location site_a is), cc)
      by false is e = absurd cc

  -- where no site is away it isn't `s/a`
  pub holds_elsewhere : (h : Held) (location : Text) → fin.get (away_of ((site_a, state) ∷ [])) location ≡ None → cond (same site_a location) h holds_nothing ≡ holds_nothing
  holds_elsewhere h location stays = by (same site_a location) refl
    where
      by : (b : Bool) → same site_a location ≡ b → cond b h holds_nothing ≡ holds_nothing
      by true is = let e : Some state ≡ None = sym is_away ∙ ap (fin.get (away_of ((site_a, state) ∷ []))) (same_is site_a location is) ∙ stays in absurd cc
      by false is = refl

not_both : Detached ≡ Suspect → ⊥
not_both e = cc

-- a detached site may hold anything
pub detached_holds : (h : Held) → Near (holding (away_state Detached) h) (away_state Detached)
detached_holds h = record {
  same = refl;
  here = holds_elsewhere Detached h;
  rows = λ location suspect. absurd (not_both (only_away Detached location Suspect suspect).1);
  status = λ location name key suspect. absurd (not_both (only_away Detached location Suspect suspect).1);
}

-- ---- a suspect site whose local rows are cut otherwise

-- a key is before 5, or at 5 or after it
at_or_after : (key : Text) → at_most (small_key 5) key ≡ not (below key (small_key 5))
at_or_after key = by (byte_cmp (small_key 5) key) refl
  where
    by : (r : Ordering) → byte_cmp (small_key 5) key ≡ r → at_most (small_key 5) key ≡ not (below key (small_key 5))
    by r e = ap (λ r. not (is_gt r)) e ∙ turned r ∙ ap (λ r. not (is_lt r)) (sym (nat_list_cmp_total.antisymm key (small_key 5) ∙ ap ordering_reverse e))
      where
        turned : (r : Ordering) → not (is_gt r) ≡ not (is_lt (ordering_reverse r))
        turned Less = refl
        turned Equal = refl
        turned Greater = refl

below_is_at_most : (a b : Text) → below a b ≡ true → at_most a b ≡ true
below_is_at_most a b h = by (byte_cmp a b) h
  where
    by : (r : Ordering) → is_lt r ≡ true → not (is_gt r) ≡ true
    by Less h = refl
    by Equal h = refl
    by Greater h = absurd cc

-- the status over a key is the same where [0, 10) is cut at 5
pub cut_status : (status : Status) (key : Text) → local_status (local_row_over (small_range 0 10) status ∷ []) key ≡ local_status (local_row_over (small_range 0 5) status ∷ local_row_over (small_range 5 10) status ∷ []) key
cut_status status key = by (at_most (small_key 0) key) (below key (small_key 10)) (below key (small_key 5)) (at_most (small_key 5) key)
    (λ early. at_most_below key (small_key 5) (small_key 10) (below_is_at_most key (small_key 5) early) refl)
    (λ late. at_most_trans (small_key 0) (small_key 5) key refl late)
    (at_or_after key)
  where
    by : (l h m n : Bool) → (m ≡ true → h ≡ true) → (n ≡ true → l ≡ true) → n ≡ not m
        → option_map (λ (row : LocalRow). row.status) (cond (l && h) (Some (local_row_over (small_range 0 10) status)) None) ≡ option_map (λ (row : LocalRow). row.status) (cond (l && m) (Some (local_row_over (small_range 0 5) status)) (cond (n && h) (Some (local_row_over (small_range 5 10) status)) None))
    by true true true n f g e = refl
    by true true false true f g e = refl
    by true true false false f g e = absurd cc
    by true false true n f g e = absurd (let x : false ≡ true = f refl in cc)
    by true false false true f g e = refl
    by true false false false f g e = refl
    by false h m true f g e = absurd (let x : false ≡ true = g refl in cc)
    by false h m false f g e = refl

-- and so of each map
pub cut_everywhere : (name key : Text) → local_status (local_rows_of (local_rows (local_row_over (small_range 0 10) Online ∷ [])).locals name) key
    ≡ local_status (local_rows_of (local_rows (local_row_over (small_range 0 5) Online ∷ local_row_over (small_range 5 10) Online ∷ [])).locals name) key
cut_everywhere name key = rw (entries_of local_cmp (keyed_locals (local_row_over (small_range 0 10) Online ∷ [])) tt, entries_of local_cmp (keyed_locals (local_row_over (small_range 0 5) Online ∷ local_row_over (small_range 5 10) Online ∷ [])) tt) (by (same name map_m))
  where
    by : (b : Bool) → local_status (cond b (local_row_over (small_range 0 10) Online ∷ []) []) key
        ≡ local_status (cond b (local_row_over (small_range 0 5) Online ∷ cond b (local_row_over (small_range 5 10) Online ∷ []) []) (cond b (local_row_over (small_range 5 10) Online ∷ []) [])) key
    by true = cut_status Online key
    by false = refl

pub suspect_cuts : Near (holding (away_state Suspect) (local_rows (local_row_over (small_range 0 10) Online ∷ [])))
    (holding (away_state Suspect) (local_rows (local_row_over (small_range 0 5) Online ∷ local_row_over (small_range 5 10) Online ∷ [])))
suspect_cuts = record {
  same = refl;
  here = λ location stays. holds_elsewhere Suspect _ location stays ∙ sym (holds_elsewhere Suspect _ location stays);
  rows = λ location suspect. either (same site_a location);
  status = λ location name key suspect. either_status (same site_a location) name key;
}
  where
    either : (b : Bool) → (cond b (local_rows (local_row_over (small_range 0 10) Online ∷ [])) holds_nothing).rows
        ≡ (cond b (local_rows (local_row_over (small_range 0 5) Online ∷ local_row_over (small_range 5 10) Online ∷ [])) holds_nothing).rows
    either true = refl
    either false = refl

    either_status : (b : Bool) (name key : Text) → local_status (local_rows_of (cond b (local_rows (local_row_over (small_range 0 10) Online ∷ [])) holds_nothing).locals name) key
        ≡ local_status (local_rows_of (cond b (local_rows (local_row_over (small_range 0 5) Online ∷ local_row_over (small_range 5 10) Online ∷ [])) holds_nothing).locals name) key
    either_status true name key = cut_everywhere name key
    either_status false name key = refl
