-- A run in which the local row of a suspect site is cut: the stores then stand near the state before, and not exactly for it.
use Rattle.std.proofs.Common.{◌≡◌, ℕ, inl, Bool, true, false, cond, ◌&&◌, not, is_some, refl, sym, ap, ◌∙◌, Some, None, [], ◌∷◌}
use Rattle.std.specs.Ordering.{eq_by_cmp}
use Rattle.std.specs.FinMap as fin
use Rattle.cell_world.specs.Texts.{Text}
use Rattle.cell_world.specs.Keys.{same, is_among}
use Rattle.cell_world.specs.Images.{Image, Shard, global}
use Rattle.cell_world.specs.Meaning.{meaning, is_away_at}
use Rattle.cell_world.specs.Orders.{local_cmp}
use Rattle.cell_world.specs.Plain.{PlainState, Held, Connections, holds_nothing, is_attached, nobody, with_connections}
use Rattle.cell_world.specs.Stores.{Store, empty_store, local_key}
use Rattle.cell_world.specs.declared.cells.Away.TheVariants.{Suspect, Detached}
use Rattle.cell_world.proofs.OrderLaws.{tied_is, locals_total, exact_locals}
use Rattle.plain_model.specs.Differing.{local_status, local_rows_of}
use Rattle.plain_model.specs.Legal.{Legal, Unfolds, MayEnter}
use Rattle.plain_model.specs.Near.{Near}
use Rattle.plain_model.specs.Timelines.{Happened, Entered, image_of}
use Rattle.plain_model.proofs.NearLaws.{near_itself}
use Rattle.plain_model.proofs.OwedLaws.{none_at_first}
use Rattle.model_examples.specs.Values.{nothing_going, keyed_locals}
use Rattle.world_examples.specs.Examples.{site_a, locals_of}
use Rattle.model_examples.specs.Runs.{row_over, suspect_image, suspect_trail, cut_commit, clearing}
use Rattle.model_examples.proofs.Lookups.{get_of, differ}
use Rattle.model_examples.proofs.NearStates.{is_away, cut_everywhere}

abbrev low_key : Text × (Text × ℕ)
low_key = local_key (row_over 0 5)

abbrev high_key : Text × (Text × ℕ)
high_key = local_key (row_over 5 10)

abbrev cut_image : Image
cut_image = image_of suspect_image (Happened cut_commit ∷ [])

-- ---- the local rows

-- the two halves take the place of the row
halves : fin.insert (fin.insert (locals_of (row_over 0 10 ∷ [])) low_key (row_over 0 5)) high_key (row_over 5 10) ≡ locals_of (row_over 0 5 ∷ row_over 5 10 ∷ [])
halves = fin.same_map locals_total exact_locals _ _ (λ q.
    fin.get-insert locals_total (fin.insert (locals_of (row_over 0 10 ∷ [])) low_key (row_over 0 5)) high_key (row_over 5 10) q
    ∙ ap (λ found. cond (eq_by_cmp local_cmp q high_key) (Some (row_over 5 10)) found)
    (fin.get-insert locals_total (locals_of (row_over 0 10 ∷ [])) low_key (row_over 0 5) q
    ∙ ap (λ found. cond (eq_by_cmp local_cmp q low_key) (Some (row_over 0 5)) found) (get_of local_cmp (keyed_locals (row_over 0 10 ∷ [])) tt q))
    ∙ by q (eq_by_cmp local_cmp q low_key) (eq_by_cmp local_cmp q high_key) refl refl
    ∙ sym (get_of local_cmp (keyed_locals (row_over 0 5 ∷ row_over 5 10 ∷ [])) tt q))
  where
    apart : low_key ≡ high_key → ⊥
    apart e = let f : true ≡ false = ap (λ k. eq_by_cmp local_cmp low_key k) e in cc

    by : (q : Text × (Text × ℕ)) (l h : Bool) → eq_by_cmp local_cmp q low_key ≡ l → eq_by_cmp local_cmp q high_key ≡ h
        → cond h (Some (row_over 5 10)) (cond l (Some (row_over 0 5)) (cond l (Some (row_over 0 10)) None)) ≡ cond l (Some (row_over 0 5)) (cond h (Some (row_over 5 10)) None)
    by q true true at_low at_high = absurd (apart (sym (tied_is exact_locals q low_key at_low) ∙ tied_is exact_locals q high_key at_high))
    by q true false at_low at_high = refl
    by q false true at_low at_high = refl
    by q false false at_low at_high = refl

-- a row that begins at 5
has_high : PlainState → Bool
has_high s = is_some (fin.get (s.held site_a).locals high_key)

cut_has : has_high (meaning cut_image) ≡ true
unfolding has_high
cut_has = rw (is_away Suspect, halves, get_of local_cmp (keyed_locals (row_over 0 5 ∷ row_over 5 10 ∷ [])) tt high_key) refl

whole_has_not : has_high (meaning suspect_image) ≡ false
unfolding has_high
whole_has_not = rw (is_away Suspect, get_of local_cmp (keyed_locals (row_over 0 10 ∷ [])) tt high_key) refl

-- so the stores don't stand exactly for the state before
pub not_exact : (connections others : Connections) → with_connections (meaning cut_image) connections ≡ with_connections (meaning suspect_image) others → ⊥
unfolding has_high
not_exact connections others e = differ has_high (meaning cut_image) (meaning suspect_image) (ap (λ (s : PlainState). with_connections s nobody) e) cut_has whole_has_not

-- ---- but near it

-- the site's cells before and after, and those of other shards
abbrev whole_cells : Bool → Store
whole_cells here = cond here (suspect_image.at (Shard site_a)) empty_store

abbrev cut_cells : Bool → Store
cut_cells here = cond here (cut_image.at (Shard site_a)) (whole_cells here)

-- what a site holds that is away
abbrev held_where : Bool → Store → Held
held_where away cells = cond away (record { locals = cells.locals; rows = cells.rows }) holds_nothing

is_away_from : Text → Bool
is_away_from location = is_away_at suspect_image.locations (global suspect_image).away location

not_away : (location : Text) → fin.get (global suspect_image).away location ≡ None → is_away_from location ≡ false
unfolding is_away_from
not_away location stays = ap (λ state. is_among suspect_image.locations location && not (is_attached state)) stays ∙ and_false (is_among suspect_image.locations location)
  where
    and_false : (b : Bool) → (b && false) ≡ false
    and_false true = refl
    and_false false = refl

same_rows : (away here : Bool) → (held_where away (cut_cells here)).rows ≡ (held_where away (whole_cells here)).rows
same_rows true true = refl
same_rows true false = refl
same_rows false here = refl

same_status : (away here : Bool) (name key : Text) → local_status (local_rows_of (held_where away (cut_cells here)).locals name) key ≡ local_status (local_rows_of (held_where away (whole_cells here)).locals name) key
same_status true true name key = ap (λ locals. local_status (local_rows_of locals name) key) halves ∙ sym (cut_everywhere name key)
same_status true false name key = refl
same_status false here name key = refl

pub cut_near : Near (meaning cut_image) (meaning suspect_image)
unfolding is_away_from
cut_near = record {
  same = refl;
  here = λ location stays. ap (λ away. held_where away (cut_cells (same site_a location))) (not_away location stays) ∙ sym (ap (λ away. held_where away (whole_cells (same site_a location))) (not_away location stays));
  rows = λ location suspect. same_rows (is_away_from location) (same site_a location);
  status = λ location name key suspect. same_status (is_away_from location) (same site_a location) name key;
}

-- ---- the run

not_detached : fin.get (global suspect_image).away site_a ≡ Some Detached → ⊥
not_detached detached = let e : Some Suspect ≡ Some Detached = sym (is_away Suspect) ∙ detached in cc

pub cut_unfolds : Unfolds 0 suspect_image (Happened cut_commit ∷ []) nobody
cut_unfolds = (refl, near_itself (meaning suspect_image), (refl, λ detached. absurd (not_detached detached)), none_at_first suspect_image)

enters_clearing : MayEnter 0 suspect_image (Happened cut_commit ∷ []) (clearing 1) nobody nobody
enters_clearing = record {
  moment = refl;
  follows = cut_near;
  on_trail = tt;
  planned = tt;
  own = inl refl;
  none_owed = λ number is. absurd cc;
}

-- the `clear` says that the site has changed
pub cleared_run : Legal 0 (suspect_trail (cut_commit ∷ [])) nothing_going (clearing 1 ∷ [])
cleared_run = record {
  timeline = Entered (clearing 1) ∷ Happened cut_commit ∷ [];
  happened = refl;
  entries = refl;
  connections = nobody;
  unfolds = (nobody, cut_unfolds, enters_clearing);
  stands = refl;
  none_owed = λ number is. absurd cc;
  promises = (tt, tt);
  named = (tt, tt);
}
