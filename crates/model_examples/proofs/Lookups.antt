-- What a table of a few entries has: its lookups and searches compute over the list; and how values that differ are told apart.
use Rattle.std.proofs.Common.{◌≡◌, Bool, true, false, true≢false, sym, ap, ◌∙◌, List, T}
use Rattle.std.specs.declared.cmp.Ordering.{Ordering}
use Rattle.std.specs.FinMap as fin
use Rattle.std.specs.FinMap.{is_sorted}

module _ {K X : Type 0} (R : K → K → Ordering) (entries : List (K × X)) (sorted : T (is_sorted R entries)) where
  -- a lookup computes
  pub get_of : (key : K) → fin.get (fin.from_sorted {R = R} entries) key ≡ fin.find R key entries
  get_of key = fin.get-from_sorted R entries key sorted

  -- and so do the entries
  pub entries_of : fin.entries (fin.from_sorted {R = R} entries) ≡ entries
  entries_of = fin.entries-from_sorted R entries sorted

-- values of which one passes a test and the other doesn't are not the same
pub differ : {A : Type 0} (test : A → Bool) (a b : A) → a ≡ b → test a ≡ true → test b ≡ false → ⊥
differ test a b e t f = true≢false (sym t ∙ ap test e ∙ f)
