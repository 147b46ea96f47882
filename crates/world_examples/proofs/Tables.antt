-- What a table of a few entries has: its lookups and searches compute over the list.
use Rattle.std.proofs.Common.{◌≡◌, Bool, true, false, cond, sym, ap, ◌∙◌, subst, Some, None, List, [], ◌∷◌, map, T, ◌&&◌}
use Rattle.std.specs.List.{AllByRecursion}
use Rattle.std.specs.Ordering.{eq_by_cmp}
use Rattle.std.specs.declared.cmp.Ordering.{Ordering}
use Rattle.std.specs.FinMap as fin
use Rattle.std.specs.FinMap.{is_sorted}
use Rattle.std.specs.FinMap.Entries.{where_key, find-where_key}
use Rattle.cell_world.specs.Texts.{Text}
use Rattle.cell_world.specs.Keys.{same, contains}
use Rattle.cell_world.specs.Lawful.{rows_under}
use Rattle.cell_world.specs.Orders.{row_cmp}
use Rattle.cell_world.specs.declared.cells.RowName.{RowName}
use Rattle.cell_world.specs.declared.spans.Span.{Span}
use Rattle.cell_world.proofs.OrderLaws.{rows_total, exact_rows}
use Rattle.world_examples.specs.Examples.{rows_of}

module _ {K X : Type 0} (R : K → K → Ordering) (entries : List (K × X)) (sorted : T (is_sorted R entries)) where
  -- a lookup computes
  pub get_of : (key : K) → fin.get (fin.from_sorted {R = R} entries) key ≡ fin.find R key entries
  get_of key = fin.get-from_sorted R entries key sorted

  -- and so do the entries
  pub entries_of : fin.entries (fin.from_sorted {R = R} entries) ≡ entries
  entries_of = fin.entries-from_sorted R entries sorted

-- ---- what stands is one of the list

module _ {K X : Type 0} (R : K → K → Ordering) (P : X → Type 0) where
  found_all : (entries : List (K × X)) → AllByRecursion P (map (λ e. e.1) entries) → (key : K) (v : X) → fin.find R key entries ≡ Some v → P v
  found_all [] all key v f = cc
  found_all (e ∷ es) all key v f = by (eq_by_cmp R key e.0) f (found_all es all.1 key v)
    where
      by : (b : Bool) → cond b (Some e.1) (fin.find R key es) ≡ Some v → (fin.find R key es ≡ Some v → P v) → P v
      by true f later = let is : e.1 ≡ v = cc in subst P is all.0
      by false f later = later f

  -- What holds of each value of the list holds of what stands in the table.
  pub each_of : (entries : List (K × X)) → T (is_sorted R entries) → AllByRecursion P (map (λ e. e.1) entries) → (key : K) (v : X) → fin.get (fin.from_sorted {R = R} entries) key ≡ Some v → P v
  each_of entries sorted all key v f = found_all entries all key v (sym (get_of R entries sorted key) ∙ f)

-- ---- rows under a span

module _ (name : Text) (span : Span) where
  -- the row is of the map and under the span
  abbrev pub is_under : RowName → Bool
  is_under row = same name row.map && contains span row.key

  -- among the rows under a span those of the list are found
  pub get_under : (entries : List (RowName × Text)) → T (is_sorted row_cmp entries) → (row : RowName) → fin.get (rows_under (rows_of entries) name span) row ≡ fin.find row_cmp row (where_key row_cmp is_under entries)
  get_under entries sorted row =
      fin.get-retain_keys (rows_of entries) is_under row (λ x t. ap is_under (sym (exact_rows row x t)))
      ∙ ap (λ o. cond (is_under row) o None) (get_of row_cmp entries sorted row)
      ∙ sym (find-where_key row_cmp is_under row (λ x t. ap is_under (sym (exact_rows row x t))) entries)

  -- no row of the list is under it, so there is none
  pub none_under : (entries : List (RowName × Text)) → T (is_sorted row_cmp entries) → where_key row_cmp is_under entries ≡ [] → rows_under (rows_of entries) name span ≡ fin.empty
  none_under entries sorted e = fin.same_map rows_total exact_rows _ _ (λ row. get_under entries sorted row ∙ ap (fin.find row_cmp row) e ∙ sym (fin.get-empty row_cmp row))

  -- the rows of two lists under it are the same
  pub same_under : (es fs : List (RowName × Text)) → T (is_sorted row_cmp es) → T (is_sorted row_cmp fs) → where_key row_cmp is_under es ≡ where_key row_cmp is_under fs → rows_under (rows_of es) name span ≡ rows_under (rows_of fs) name span
  same_under es fs f g e = fin.same_map rows_total exact_rows _ _ (λ row. get_under es f row ∙ ap (fin.find row_cmp row) e ∙ sym (get_under fs g row))
