-- The rows of the meaning, read off an image.
use Rattle.std.proofs.Common.{◌≡◌, Bool, true, false, cond, refl, sym, ap, ◌∙◌, subst, Some, None, Option, List, [], ◌∷◌, ◌++◌, ◌&&◌, ◌||◌}
use Rattle.std.specs.Prelude.{flat_map, option_and_then}
use Rattle.std.specs.Ordering.{eq_by_cmp}
use Rattle.std.specs.declared.cmp.Ordering.{Ordering}
use Rattle.std.specs.FinMap as map
use Rattle.std.specs.FinMap.{find}
use Rattle.cell_world.specs.Texts.{Text}
use Rattle.cell_world.specs.Keys.{same, is_among}
use Rattle.cell_world.specs.Orders.{row_cmp}
use Rattle.cell_world.specs.Images.{Image, Shard, global}
use Rattle.cell_world.specs.Plain.{is_attached}
use Rattle.cell_world.specs.Meaning.{meaning, row_at, owns, owner_of, is_at, owned_rows}
use Rattle.cell_world.specs.Lawful.{or_else}
use Rattle.cell_world.specs.declared.cells.RowName.{RowName}
use Rattle.cell_world.specs.declared.operations.Piece.{Piece}
use Rattle.cell_world.proofs.OrderLaws.{rows_total, exact_rows}
use Rattle.cell_world.proofs.SpanLaws.{same_is}

-- a search goes through the first list, and then through the second
find-append : {K X : Type 0} (R : K → K → Ordering) (q : K) (xs ys : List (K × X)) → find R q (xs ++ ys) ≡ or_else (find R q xs) (find R q ys)
find-append R q [] ys = refl
find-append R q (x ∷ xs) ys = choice (eq_by_cmp R q x.0) x.1 (find R q (xs ++ ys)) (find R q xs) (find R q ys) (find-append R q xs ys)
  where
    choice : {A : Type 0} (b : Bool) (v : A) (m n o : Option A) → m ≡ or_else n o → cond b (Some v) m ≡ or_else (cond b (Some v) n) o
    choice true v m n o e = refl
    choice false v m n o e = e

module _ (image : Image) (row : RowName) where
  abbrev stored : Text → Option Text
  stored location = map.get (image.at (Shard location)).rows row

  abbrev attached : Text → Bool
  attached location = is_attached (map.get (global image).away location)

  -- what one site adds
  one_site : (location : Text) → find row_cmp row (map.entries (map.retain_keys (image.at (Shard location)).rows (owns image location))) ≡ cond (owns image location row) (stored location) None
  one_site location = sym (map.get-entries (map.retain_keys (image.at (Shard location)).rows (owns image location)) row)
      ∙ map.get-retain_keys (image.at (Shard location)).rows (owns image location) row (λ x tie. ap (owns image location) (sym (exact_rows row x tie)))

  abbrev all_sites : List Text → List (RowName × Text)
  all_sites locations = flat_map (λ location. map.entries (map.retain_keys (image.at (Shard location)).rows (owns image location))) locations

  abbrev from_owner : List Text → Option Piece → Option Text
  from_owner locations o = option_and_then (λ p. cond (is_among locations p.location && attached p.location) (stored p.location) None) o

  more_sites : (location : Text) (locations : List Text) (o : Option Piece) → or_else (cond (attached location && is_at location o) (stored location) None) (from_owner locations o) ≡ from_owner (location ∷ locations) o
  more_sites location locations None = by (attached location)
    where
      by : (b : Bool) → or_else (cond (b && false) (stored location) None) None ≡ None
      by true = refl
      by false = refl
  more_sites location locations (Some p) = at_same (same p.location location) refl
    where
      at_same : (b : Bool) → same p.location location ≡ b → or_else (cond (attached location && b) (stored location) None) (from_owner locations (Some p)) ≡ cond ((b || is_among locations p.location) && attached p.location) (stored p.location) None
      at_same true e = subst (λ l. or_else (cond (attached l && true) (stored l) None) (from_owner locations (Some p)) ≡ cond (attached p.location) (stored p.location) None) (same_is p.location location e) (twice (attached p.location) (is_among locations p.location) (stored p.location))
        where
          twice : (a b : Bool) (s : Option Text) → or_else (cond (a && true) s None) (cond (b && a) s None) ≡ cond a s None
          twice true true None = refl
          twice true true (Some v) = refl
          twice true false None = refl
          twice true false (Some v) = refl
          twice false true s = refl
          twice false false s = refl
      at_same false e = none (attached location)
        where
          none : (a : Bool) → or_else (cond (a && false) (stored location) None) (from_owner locations (Some p)) ≡ from_owner locations (Some p)
          none true = refl
          none false = refl

  gathered : (locations : List Text) → find row_cmp row (all_sites locations) ≡ from_owner locations (owner_of image row.map row.key)
  gathered [] = by (owner_of image row.map row.key)
    where
      by : (o : Option Piece) → None ≡ from_owner [] o
      by None = refl
      by (Some p) = refl
  gathered (location ∷ locations) =
      find-append row_cmp row (map.entries (map.retain_keys (image.at (Shard location)).rows (owns image location))) (all_sites locations)
      ∙ (λ i. or_else (one_site location i) (gathered locations i))
      ∙ more_sites location locations (owner_of image row.map row.key)

  -- The meaning has each row as the owner of its key has it.
  pub get-rows : map.get (meaning image).rows row ≡ row_at image row
  get-rows = map.get-from_entries rows_total (owned_rows image) row ∙ gathered image.locations

-- Two images whose owners have the same rows mean the same rows.
pub same_rows : (a b : Image) → ((row : RowName) → row_at a row ≡ row_at b row) → (meaning a).rows ≡ (meaning b).rows
same_rows a b h = map.same_map rows_total exact_rows (meaning a).rows (meaning b).rows (λ row. get-rows a row ∙ h row ∙ sym (get-rows b row))
