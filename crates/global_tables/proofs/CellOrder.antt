-- Cell order is a strict order, and a scan is in it.
use Rattle.std.proofs.Common.{◌≡◌, inl, inr, ℕ, false, List, [], ◌∷◌, refl, sym, ap, ◌∙◌, subst}
use Rattle.std.specs.Ordering.{is_lt, nat_cmp, ordering_then}
use Rattle.std.specs.Cmp.{IsTotalOrder}
use Rattle.std.specs.declared.cmp.Ordering.{Ordering}
use Rattle.std.specs.declared.cmp.Ordering.TheVariants.{Less, Equal, Greater}
use Rattle.std.proofs.lemmas.Cmp.{tied_itself}
use Rattle.cell_world.specs.Texts.{Text}
use Rattle.cell_world.specs.ByteOrder.{byte_cmp}
use Rattle.cell_world.specs.Lists.{IsOneOf}
use Rattle.cell_world.specs.KeyOrder.{same_order}
use Rattle.cell_world.specs.Orders.{pair_cmp}
use Rattle.cell_world.specs.Stores.{own_key}
use Rattle.cell_world.specs.Finding.{Rises}
use Rattle.cell_world.specs.Orders.{cell_cmp}
use Rattle.cell_world.specs.contracts.cells.CellKeyOrd.TheImpl.Laws.{total-law}
use Rattle.cell_world.specs.declared.cells.Cell.{Cell}
use Rattle.cell_world.specs.declared.cells.CellKey.{CellKey}
use Rattle.global_tables.proofs.Rising.{Rising}

pub cell_total : IsTotalOrder cell_cmp
cell_total = subst IsTotalOrder (λ i a b. same_order a b i) total-law

-- the cell comes before the other
abbrev pub Before : Cell → Cell → Type 0
Before c d = cell_cmp (own_key c) (own_key d) ≡ Less

pub key_not_itself : (k : CellKey) → cell_cmp k k ≡ Less → ⊥
key_not_itself k h = let e : Equal ≡ Less = sym (tied_itself cell_total k) ∙ h in absurd (cc)

pub not_itself : (c : Cell) → Before c c → ⊥
not_itself c h = key_not_itself (own_key c) h

pub before_trans : (a b c : Cell) → Before a b → Before b c → Before a c
before_trans a b c = cell_total.trans (own_key a) (own_key b) (own_key c)

-- the first is before each later one
pub rises_all : (c : Cell) (cs : List Cell) → Rises (c ∷ cs) → (d : Cell) → IsOneOf cs d → Before c d
rises_all c [] r d h = absurd h
rises_all c (x ∷ cs) r d (inl is) = subst (λ y. cell_cmp (own_key c) (own_key y) ≡ Less) is r.0
rises_all c (x ∷ cs) r d (inr h) = cell_total.trans (own_key c) (own_key x) (own_key d) r.0 (rises_all x cs r.1 d h)

rises_rest : (c : Cell) (cs : List Cell) → Rises (c ∷ cs) → Rises cs
rises_rest c [] r = tt
rises_rest c (x ∷ cs) r = r.1

pub as_rising : (cs : List Cell) → Rises cs → Rising Before cs
as_rising [] r = tt
as_rising (c ∷ cs) r = (λ d h. rises_all c cs r d h, as_rising cs (rises_rest c cs r))

-- ---- orders of the kinds are cell order

pub then_equal : (r : Ordering) → ordering_then r Equal ≡ r
then_equal Less = refl
then_equal Equal = refl
then_equal Greater = refl

pub by_text : (a b : Text) → ordering_then (byte_cmp a b) Equal ≡ byte_cmp a b
by_text a b = then_equal (byte_cmp a b)

pub by_pair : (a b : Text × Text) → ordering_then (byte_cmp a.0 b.0) (ordering_then (byte_cmp a.1 b.1) Equal) ≡ pair_cmp a b
by_pair a b = ap (ordering_then (byte_cmp a.0 b.0)) (then_equal (byte_cmp a.1 b.1))

pub by_number : (m n : ℕ) → ordering_then (ordering_then (nat_cmp m n) Equal) Equal ≡ nat_cmp m n
by_number m n = then_equal (ordering_then (nat_cmp m n) Equal) ∙ then_equal (nat_cmp m n)

-- ---- comparisons one after the other

pub not_less : (r s : Ordering) → (r ≡ Less → ⊥) → is_lt s ≡ false → is_lt (ordering_then r s) ≡ false
not_less Less s h e = absurd (h refl)
not_less Equal s h e = e
not_less Greater s h e = refl

pub never_less : (r : Ordering) → is_lt r ≡ false → r ≡ Less → ⊥
never_less Less e h = cc
never_less Equal e h = cc
never_less Greater e h = cc

pub is_not_lt : (r : Ordering) → (r ≡ Less → ⊥) → is_lt r ≡ false
is_not_lt Less h = absurd (h refl)
is_not_lt Equal h = refl
is_not_lt Greater h = refl
