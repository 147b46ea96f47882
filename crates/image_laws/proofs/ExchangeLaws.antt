-- Mappings that are taken out, and mappings that are put.
use Rattle.std.proofs.Common.{◌≡◌, ◌⊎◌, refl, sym, ap, ◌∙◌, subst, Some, None, inl, inr, List, [], ◌∷◌}
use Rattle.std.specs.FinMap as map
use Rattle.std.proofs.lemmas.Option.{same_Some, none-some}
use Rattle.cell_world.specs.Texts.{Text}
use Rattle.cell_world.specs.Lists.{IsOneOf, SomeOf}
use Rattle.cell_world.specs.Stores.{Mappings, piece_key, without, with_all, exchanged}
use Rattle.cell_world.specs.Sound.{HasPiece}
use Rattle.cell_world.specs.declared.operations.Piece.{Piece}
use Rattle.cell_world.proofs.OrderLaws.{pairs_total, exact_text_pairs}
use Rattle.cell_world.proofs.StoreLaws.{get-insert_same, get-insert_cases, get-remove_cases, get-remove_same}
use Rattle.cell_world.proofs.KeyedLaws.{keyed-insert, keyed-remove}
use Rattle.image_laws.proofs.OwnerLaws.{PlacedAlone}
use Rattle.image_laws.specs.Exchange.{IsExchanged}

-- one of the pieces stands under this key
abbrev pub IsKeyOfOne : List Piece → Text × Text → Type 0
IsKeyOfOne pieces k = SomeOf (λ p. piece_key p ≡ k) pieces

-- ---- taken out

pub placed_without : (olds : List Piece) (m : Mappings) → PlacedAlone m → PlacedAlone (without m olds)
placed_without [] m h = h
placed_without (o ∷ olds) m h = placed_without olds (map.remove m (piece_key o)) (keyed-remove pairs_total piece_key exact_text_pairs m (piece_key o) h)

pub without_back : (olds : List Piece) (m : Mappings) (k : Text × Text) (q : Piece) → map.get (without m olds) k ≡ Some q → (map.get m k ≡ Some q) × (IsKeyOfOne olds k → ⊥)
without_back [] m k q e = (e, λ h. h)
without_back (o ∷ olds) m k q e = by (without_back olds (map.remove m (piece_key o)) k q e) (get-remove_cases pairs_total exact_text_pairs m (piece_key o) k)
  where
    not_it : (map.get (map.remove m (piece_key o)) k ≡ Some q) → (IsKeyOfOne olds k → ⊥) → IsKeyOfOne (o ∷ olds) k → ⊥
    not_it g none (inl is) = none-some q (sym (get-remove_same pairs_total m (piece_key o)) ∙ ap (map.get (map.remove m (piece_key o))) is ∙ g)
    not_it g none (inr h) = none h

    by : (map.get (map.remove m (piece_key o)) k ≡ Some q) × (IsKeyOfOne olds k → ⊥) → ((k ≡ piece_key o) × (map.get (map.remove m (piece_key o)) k ≡ None)) ⊎ (map.get (map.remove m (piece_key o)) k ≡ map.get m k)
        → (map.get m k ≡ Some q) × (IsKeyOfOne (o ∷ olds) k → ⊥)
    by more (inl c) = absurd (none-some q (sym c.1 ∙ more.0))
    by more (inr same) = (sym same ∙ more.0, not_it more.0 more.1)

-- what stood under a key stands, or one of those taken out has that key
pub without_kept : (olds : List Piece) (m : Mappings) (k : Text × Text) → IsKeyOfOne olds k ⊎ (map.get (without m olds) k ≡ map.get m k)
without_kept [] m k = inr refl
without_kept (o ∷ olds) m k = by (without_kept olds (map.remove m (piece_key o)) k) (get-remove_cases pairs_total exact_text_pairs m (piece_key o) k)
  where
    by : IsKeyOfOne olds k ⊎ (map.get (without (map.remove m (piece_key o)) olds) k ≡ map.get (map.remove m (piece_key o)) k)
        → ((k ≡ piece_key o) × (map.get (map.remove m (piece_key o)) k ≡ None)) ⊎ (map.get (map.remove m (piece_key o)) k ≡ map.get m k) → IsKeyOfOne (o ∷ olds) k ⊎ (map.get (without m (o ∷ olds)) k ≡ map.get m k)
    by (inl h) r = inl (inr h)
    by (inr e) (inl c) = inl (inl (sym c.0))
    by (inr e) (inr same) = inr (e ∙ same)

-- ---- put

pub placed_with : (news : List Piece) (m : Mappings) → PlacedAlone m → PlacedAlone (with_all m news)
placed_with [] m h = h
placed_with (n ∷ news) m h = placed_with news (map.insert m (piece_key n) n) (keyed-insert pairs_total piece_key exact_text_pairs m n h)

-- what stands was put, or stood
pub with_back : (news : List Piece) (m : Mappings) (k : Text × Text) (q : Piece) → map.get (with_all m news) k ≡ Some q → (IsOneOf news q × (piece_key q ≡ k)) ⊎ (map.get m k ≡ Some q)
with_back [] m k q e = inr e
with_back (n ∷ news) m k q e = by (with_back news (map.insert m (piece_key n) n) k q e) (get-insert_cases pairs_total exact_text_pairs m (piece_key n) n k)
  where
    by : (IsOneOf news q × (piece_key q ≡ k)) ⊎ (map.get (map.insert m (piece_key n) n) k ≡ Some q)
        → ((k ≡ piece_key n) × (map.get (map.insert m (piece_key n) n) k ≡ Some n)) ⊎ (map.get (map.insert m (piece_key n) n) k ≡ map.get m k)
        → (IsOneOf (n ∷ news) q × (piece_key q ≡ k)) ⊎ (map.get m k ≡ Some q)
    by (inl h) c = inl (inr h.0, h.1)
    by (inr g) (inl c) = let is : n ≡ q = same_Some n q (sym c.1 ∙ g) in inl (inl is, ap piece_key (sym is) ∙ sym c.0)
    by (inr g) (inr c) = inr (sym c ∙ g)

-- what stood under a key stands, or one of those put has that key
pub with_kept : (news : List Piece) (m : Mappings) (k : Text × Text) → IsKeyOfOne news k ⊎ (map.get (with_all m news) k ≡ map.get m k)
with_kept [] m k = inr refl
with_kept (n ∷ news) m k = by (with_kept news (map.insert m (piece_key n) n) k) (get-insert_cases pairs_total exact_text_pairs m (piece_key n) n k)
  where
    by : IsKeyOfOne news k ⊎ (map.get (with_all (map.insert m (piece_key n) n) news) k ≡ map.get (map.insert m (piece_key n) n) k)
        → ((k ≡ piece_key n) × (map.get (map.insert m (piece_key n) n) k ≡ Some n)) ⊎ (map.get (map.insert m (piece_key n) n) k ≡ map.get m k)
        → IsKeyOfOne (n ∷ news) k ⊎ (map.get (with_all m (n ∷ news)) k ≡ map.get m k)
    by (inl h) c = inl (inr h)
    by (inr e) (inl c) = inl (inl (sym c.0))
    by (inr e) (inr same) = inr (e ∙ same)

-- of the pieces no two have one key
abbrev pub HaveOwnKeys : List Piece → Type 0
HaveOwnKeys pieces = (a : Piece) → IsOneOf pieces a → (b : Piece) → IsOneOf pieces b → piece_key a ≡ piece_key b → a ≡ b

one_with_key : (news : List Piece) (k : Text × Text) → IsKeyOfOne news k → (p : Piece) × IsOneOf news p × (piece_key p ≡ k)
one_with_key [] k h = absurd h
one_with_key (n ∷ news) k (inl e) = (n, inl refl, e)
one_with_key (n ∷ news) k (inr h) = let p = one_with_key news k h in (p.0, inr p.1, p.2)

key_of_one : (pieces : List Piece) (p : Piece) → IsOneOf pieces p → IsKeyOfOne pieces (piece_key p)
key_of_one [] p h = absurd h
key_of_one (n ∷ pieces) p (inl e) = inl (ap piece_key e)
key_of_one (n ∷ pieces) p (inr h) = inr (key_of_one pieces p h)

-- each of them stands
pub with_new : (news : List Piece) (m : Mappings) → HaveOwnKeys news → (q : Piece) → IsOneOf news q → HasPiece (with_all m news) q
with_new [] m own q h = absurd h
with_new (n ∷ news) m own q h = by (λ x. with_new news (map.insert m (piece_key n) n) (λ a i b j. own a (inr i) b (inr j)) x) (with_kept news (map.insert m (piece_key n) n) (piece_key q)) h
  where
    by : ((x : Piece) → IsOneOf news x → HasPiece (with_all m (n ∷ news)) x) → IsKeyOfOne news (piece_key q) ⊎ (map.get (with_all (map.insert m (piece_key n) n) news) (piece_key q) ≡ map.get (map.insert m (piece_key n) n) (piece_key q)) → IsOneOf (n ∷ news) q → HasPiece (with_all m (n ∷ news)) q
    by more (inl k) g =
        let p = one_with_key news (piece_key q) k in
        let is : p.0 ≡ q = own p.0 (inr p.1) q g p.2 in
        more q (subst (IsOneOf news) is p.1)
    by more (inr e) (inl is) = e ∙ ap (map.get (map.insert m (piece_key n) n)) (ap piece_key (sym is)) ∙ get-insert_same pairs_total m (piece_key n) n ∙ ap Some is
    by more (inr e) (inr g) = more q g

-- ---- exchanged

pub placed_exchanged : (olds news : List Piece) (m : Mappings) → PlacedAlone m → PlacedAlone (exchanged m olds news)
placed_exchanged olds news m h = placed_with news (without m olds) (placed_without olds m h)

-- Where each old stands, the news have keys of their own, and what has the key of a new one is an old one, the news stand for the olds.
module _ (olds news : List Piece) (before : Mappings) (stand : (o : Piece) → IsOneOf olds o → HasPiece before o) (own : HaveOwnKeys news)
    (free : (q : Piece) → HasPiece before q → (n : Piece) → IsOneOf news n → piece_key n ≡ piece_key q → IsOneOf olds q) where
  exchanged_back : (q : Piece) → HasPiece (exchanged before olds news) q → IsOneOf news q ⊎ (HasPiece before q × (IsOneOf olds q → ⊥))
  exchanged_back q h = elim (with_back news (without before olds) (piece_key q) q h) [
    | inl new ↦ inl new.0
    | inr old ↦ let w = without_back olds before (piece_key q) q old in inr (w.0, λ is. w.1 (key_of_one olds q is))
  ]

  exchanged_kept : (q : Piece) → HasPiece before q → IsOneOf olds q ⊎ HasPiece (exchanged before olds news) q
  exchanged_kept q h = by (with_kept news (without before olds) (piece_key q)) (without_kept olds before (piece_key q))
    where
      by : IsKeyOfOne news (piece_key q) ⊎ (map.get (exchanged before olds news) (piece_key q) ≡ map.get (without before olds) (piece_key q))
          → IsKeyOfOne olds (piece_key q) ⊎ (map.get (without before olds) (piece_key q) ≡ map.get before (piece_key q))
          → IsOneOf olds q ⊎ HasPiece (exchanged before olds news) q
      by (inl k) w = let n = one_with_key news (piece_key q) k in inl (free q h n.0 n.1 n.2)
      by (inr e) (inl k) =
          let o = one_with_key olds (piece_key q) k in
          let is : o.0 ≡ q = same_Some o.0 q (sym (stand o.0 o.1) ∙ ap (map.get before) o.2 ∙ h) in
          inl (subst (IsOneOf olds) is o.1)
      by (inr e) (inr w) = inr (e ∙ w ∙ h)

  pub is_exchanged : IsExchanged olds news before (exchanged before olds news)
  is_exchanged = record { back = exchanged_back; new = with_new news (without before olds) own; kept = exchanged_kept }
