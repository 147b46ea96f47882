-- Mappings that replace others, one by one.
use Rattle.std.proofs.Common.{◌≡◌, ℕ, ◌+◌, ◌<◌, List, [], ◌∷◌, length, get_or, drop, sym, ap, ◌∙◌, Some, None, Result, Ok, Err, OnOk, OnErr, IfOk, true, false, add-one, suc}
use Rattle.std.proofs.Math.Seq.{drop-cons}
use Rattle.std.specs.FinMap as fin
use Rattle.std.specs.Result.{is_err}
use Rattle.std.specs.BTreeMap.{BTreeMap, IsClone, Updates}
use Rattle.std.specs.declared.cmp.Ordering.{Ordering}
use Rattle.std.proofs.lemmas.Map.Entries.{entries_from_clone}
use Rattle.cell_world.specs.Texts.{Text}
use Rattle.cell_world.specs.Keys.{low_of}
use Rattle.cell_world.specs.Orders.{pair_cmp}
use Rattle.cell_world.specs.Stores.{Mappings, piece_key, with_all}
use Rattle.cell_world.specs.declared.operations.Piece.{Piece}
use Rattle.cell_world.proofs.OrderLaws.{pairs_total, exact_text_pairs}
use Rattle.plain_tables.specs.Tables.{table}
use Rattle.plain_tables.proofs.TableLaws.{insert-table, remove-table}

-- what follows an answer that isn't an error
pub of_ok : {T E : Type 0} {P : Type 0} (r : Result T E) → false ≡ is_err r → OnOk r P → P
of_ok (Ok x) e h = h
of_ok (Err y) e h = cc

-- what follows an answer that is an error
pub of_err : {T E : Type 0} {P : Type 0} (r : Result T E) → true ≡ is_err r → OnErr r P → P
of_err (Ok x) e h = cc
of_err (Err y) e h = h

-- what holds of a value holds of the value of an answer
pub if_ok : {T E : Type 0} (P Q : T → Type 0) → ((v : T) → P v → Q v) → (r : Result T E) → IfOk r P → IfOk r Q
if_ok P Q f (Ok v) h = f v h
if_ok P Q f (Err e) h = tt

-- a copy is the same finite map
pub table-clone : {K X : Type 0} (R : K → K → Ordering) (C : K → K → Type 0) (D : X → X → Type 0) → ((x y : K) → C x y → y ≡ x) → ((x y : X) → D x y → y ≡ x) → (m n : BTreeMap K X) → IsClone C D m n → table R n ≡ table R m
unfolding table
table-clone R C D keys values m n h = ap (λ es. fin.from_entries {R = R} es) (entries_from_clone C D keys values m.entries n.entries h)

drop_here : {A : Type 0} (xs : List A) (i : ℕ) (x : A) → i < length xs → x ≡ get_or xs i x → drop i xs ≡ x ∷ drop (i + 1) xs
drop_here xs i x h e = rw add-one (drop-cons xs i x h ∙ ap (λ y. y ∷ drop (suc i) xs) (sym e))

module _ (m n : BTreeMap (Text × Text) Piece) (x : Piece) (low : Text) (own : low ≡ low_of x.span) where
  key : ◌≡◌ {A = Text × Text} (x.map, low) (piece_key x)
  key = ap (λ (t : Text). (x.map, t)) own

  -- a mapping goes
  pub one_less : Updates pair_cmp m n (x.map, low) None → table pair_cmp n ≡ fin.remove (table pair_cmp m) (piece_key x)
  one_less u = remove-table pairs_total exact_text_pairs m n (x.map, low) u ∙ ap (fin.remove (table pair_cmp m)) key

  -- a mapping comes
  pub one_more : Updates pair_cmp m n (x.map, low) (Some x) → table pair_cmp n ≡ fin.insert (table pair_cmp m) (piece_key x) x
  one_more u = insert-table pairs_total exact_text_pairs m n (x.map, low) x u ∙ ap (λ (k : Text × Text). fin.insert (table pair_cmp m) k x) key

  -- the next of a list of mappings comes
  pub put_next : (news : List Piece) (i : ℕ) → i < length news → x ≡ get_or news i x → Updates pair_cmp m n (x.map, low) (Some x) → with_all (table pair_cmp m) (drop i news) ≡ with_all (table pair_cmp n) (drop (i + 1) news)
  put_next news i within is u = ap (with_all (table pair_cmp m)) (drop_here news i x within is) ∙ ap (λ (t : Mappings). with_all t (drop (i + 1) news)) (sym (one_more u))
