-- Which locations the cells of small stores name.
use Rattle.std.proofs.Common.{◌≡◌, ◌⊎◌, Bool, true, false, true≢false, cond, refl, sym, ap, ◌∙◌, Some, None, Option, option_map, is_some, List, [], ◌∷◌, inl, inr, ⊎_elim}
use Rattle.std.specs.Prelude.{IsSome}
use Rattle.std.specs.Ordering.{is_gt, nat_cmp}
use Rattle.std.specs.FinMap as fin
use Rattle.std.specs.FinSet as set
use Rattle.cell_world.specs.Texts.{Text}
use Rattle.cell_world.specs.ByteOrder.{byte_cmp}
use Rattle.cell_world.specs.Orders.{pair_cmp}
use Rattle.cell_world.specs.Keys.{same}
use Rattle.cell_world.specs.Stores.{AwaySites, Stands, empty_store, own_key, piece_key}
use Rattle.cell_world.specs.Orders.{cell_cmp}
use Rattle.cell_world.specs.declared.cells.Away.{Away}
use Rattle.cell_world.specs.declared.cells.Away.TheVariants.{Suspect}
use Rattle.cell_world.specs.declared.cells.Cell.{Cell}
use Rattle.cell_world.specs.declared.cells.Cell.TheVariants as cell
use Rattle.cell_world.proofs.SpanLaws.{same_is}
use Rattle.plain_model.specs.Headline.{first_unknown, named_locations, IsFirstUnknown}
use Rattle.world_examples.specs.Examples.{site_a, site_b, away_of}
use Rattle.model_examples.specs.Runs.{unknown_store, site_c, site_d}
use Rattle.model_examples.proofs.Lookups.{get_of}

-- Where nothing but site states stands, a cell that names a location is one of these.
pub only_sites : (away : AwaySites) (known : List Text) (c : Cell) → Stands (record empty_store { away = away }) c → IsSome (first_unknown known (named_locations c)) → (location : Text) × (state : Away) × (c ≡ cell.SiteState location state) × (fin.get away location ≡ Some state)
only_sites away known (cell.Map name kind type) stands names = absurd (true≢false (sym names))
only_sites away known (cell.Shard name location) stands names =
    let e : None ≡ Some (cell.Shard name location) = sym (ap (λ b. cond b (Some (cell.Shard name location)) None) (set.contains-empty pair_cmp (name, location))) ∙ stands in absurd cc
only_sites away known (cell.Table name table) stands names = absurd (true≢false (sym names))
only_sites away known (cell.Piece p) stands names = let e : None ≡ Some (cell.Piece p) = sym (ap (option_map cell.Piece) (fin.get-empty pair_cmp (piece_key p))) ∙ stands in absurd cc
only_sites away known (cell.Log op) stands names = let e : None ≡ Some (cell.Log op) = sym (ap (option_map cell.Log) (fin.get-empty nat_cmp op.number)) ∙ stands in absurd cc
only_sites away known (cell.Job job) stands names = let e : None ≡ Some (cell.Job job) = sym (ap (option_map cell.Job) (fin.get-empty nat_cmp job.number)) ∙ stands in absurd cc
only_sites away known (cell.Counter counters) stands names = absurd (true≢false (sym names))
only_sites away known (cell.SiteState location state) stands names = (location, state, refl, by (fin.get away location) stands)
  where
    by : (found : Option Away) → option_map (cell.SiteState location) found ≡ Some (cell.SiteState location state) → found ≡ Some state
    by None e = absurd cc
    by (Some s) e = cc
only_sites away known (cell.Local row) stands names = absurd (true≢false (sym names))
only_sites away known (cell.Row row bytes) stands names = absurd (true≢false (sym names))

-- empty stores name none
pub none_unknown : (known : List Text) (location : Text) → IsFirstUnknown empty_store known location → ⊥
none_unknown known location f =
    let w = only_sites fin.empty known f.cell f.stands (ap is_some f.names) in
    let e : None ≡ Some w.1 = sym (fin.get-empty byte_cmp w.0) ∙ w.3 in cc

-- ---- the two site states

abbrev two : List (Text × Away)
two = (site_c, Suspect) ∷ (site_d, Suspect) ∷ []

one_of_two : (location : Text) (state : Away) → fin.get (away_of two) location ≡ Some state → (location ≡ site_c) ⊎ (location ≡ site_d)
one_of_two location state e = by (same location site_c) (same location site_d) refl refl (sym (get_of byte_cmp two tt location) ∙ e)
  where
    by : (c d : Bool) → same location site_c ≡ c → same location site_d ≡ d → cond c (Some Suspect) (cond d (Some Suspect) None) ≡ Some state → (location ≡ site_c) ⊎ (location ≡ site_d)
    by true d is other e = inl (same_is location site_c is)
    by false true is other e = inr (same_is location site_d other)
    by false false is other e = absurd cc

-- a cell that names a location that isn't known is one of them
of_two : (known : List Text) (c : Cell) → Stands unknown_store c → IsSome (first_unknown known (named_locations c)) → (state : Away) × ((c ≡ cell.SiteState site_c state) ⊎ (c ≡ cell.SiteState site_d state))
of_two known c stands names =
    let w = only_sites (away_of two) known c stands names in
    (w.1, ⊎_elim (λ e. inl (w.2 ∙ ap (λ l. cell.SiteState l w.1) e)) (λ e. inr (w.2 ∙ ap (λ l. cell.SiteState l w.1) e)) (one_of_two w.0 w.1 w.3))

pub c_stands : Stands unknown_store (cell.SiteState site_c Suspect)
c_stands = ap (option_map (cell.SiteState site_c)) (get_of byte_cmp two tt site_c)

d_stands : Stands unknown_store (cell.SiteState site_d Suspect)
d_stands = ap (option_map (cell.SiteState site_d)) (get_of byte_cmp two tt site_d)

-- the first is `s/c`
pub c_is_first : IsFirstUnknown unknown_store (site_a ∷ site_b ∷ []) site_c
c_is_first = record {
  cell = cell.SiteState site_c Suspect;
  stands = c_stands;
  names = refl;
  first = λ other stands names. let w = of_two (site_a ∷ site_b ∷ []) other stands names in
      ⊎_elim (λ e. ap (λ c. is_gt (cell_cmp (own_key (cell.SiteState site_c Suspect)) (own_key c))) e) (λ e. ap (λ c. is_gt (cell_cmp (own_key (cell.SiteState site_c Suspect)) (own_key c))) e) w.1;
}

-- where that is known it is `s/d`
pub d_is_first : IsFirstUnknown unknown_store (site_a ∷ site_c ∷ []) site_d
d_is_first = record {
  cell = cell.SiteState site_d Suspect;
  stands = d_stands;
  names = refl;
  first = λ other stands names. let w = of_two (site_a ∷ site_c ∷ []) other stands names in
      ⊎_elim
      (λ e. absurd (true≢false (sym names ∙ ap (λ c. is_some (first_unknown (site_a ∷ site_c ∷ []) (named_locations c))) e)))
      (λ e. ap (λ c. is_gt (cell_cmp (own_key (cell.SiteState site_d Suspect)) (own_key c))) e)
      w.1;
}

-- and no other is the first
pub first_is_c : (location : Text) → IsFirstUnknown unknown_store (site_a ∷ site_b ∷ []) location → location ≡ site_c
first_is_c location f =
    let w = of_two (site_a ∷ site_b ∷ []) f.cell f.stands (ap is_some f.names) in
    ⊎_elim
    (λ e. let n : Some location ≡ Some site_c = sym f.names ∙ ap (λ c. first_unknown (site_a ∷ site_b ∷ []) (named_locations c)) e in cc)
    (λ e. absurd (true≢false (sym (ap (λ c. is_gt (cell_cmp (own_key c) (own_key (cell.SiteState site_c Suspect)))) e) ∙ f.first (cell.SiteState site_c Suspect) c_stands refl)))
    w.1

pub c_is_known : IsFirstUnknown unknown_store (site_a ∷ site_c ∷ []) site_c → ⊥
c_is_known f =
    let w = of_two (site_a ∷ site_c ∷ []) f.cell f.stands (ap is_some f.names) in
    ⊎_elim
    (λ e. let n : None ≡ Some site_c = sym (ap (λ c. first_unknown (site_a ∷ site_c ∷ []) (named_locations c)) e) ∙ f.names in cc)
    (λ e. let n : Some site_d ≡ Some site_c = sym (ap (λ c. first_unknown (site_a ∷ site_c ∷ []) (named_locations c)) e) ∙ f.names in c_is_not_d (sym n))
    w.1
  where
    c_is_not_d : Some site_c ≡ Some site_d → ⊥
    c_is_not_d e = true≢false (ap (λ o. names_c o) e)
      where
        names_c : Option Text → Bool
        names_c None = false
        names_c (Some l) = same site_c l
