-- What callers know of a turnstile and of its passes.
use Rattle.std.specs.Prelude.{◌≡◌, ℕ, suc, Bool, false, List, [], ◌∷◌}
use Rattle.atomic_table.specs.Seated.{TableId}
use Rattle.turnstile.specs.declared.view.View.{View}

pub record TurnstileState (E : Type 0) : Type 0 where
  -- which turnstile it is
  pub table : TableId
  -- the list of the value that it was made with
  pub first : List E
  -- how many passes it has
  pub seats : ℕ

pub record PassState (E : Type 0) : Type 0 where
  -- which turnstile it is of
  pub table : TableId
  -- its number there, counted from 0
  pub number : ℕ
  -- it has taken the value out and not yet put it back
  pub holds : Bool
  -- the entries that it left, oldest first
  pub mine : List E
  -- the whole list as it saw it last
  pub list : List E

-- the state of a pass of this table with this view
abbrev pub pass_state : {E : Type 0} → TableId → View E → PassState E
pass_state t v = record { table = t; number = v.number; holds = v.holds; mine = v.mine; list = v.list }

-- a pass of this turnstile with this number, which doesn't hold the value
abbrev pub IsIdle : {E : Type 0} → TableId → ℕ → PassState E → Type 0
IsIdle t k p = (p.table ≡ t) × (p.number ≡ k) × (p.holds ≡ false)

-- and which has left nothing, and seen the first list alone
abbrev pub IsNew : {E : Type 0} → TableId → List E → ℕ → PassState E → Type 0
IsNew t first k p = (p.table ≡ t) × (p.number ≡ k) × (p.holds ≡ false) × (p.mine ≡ []) × (p.list ≡ first)

-- The fact holds of each element, with its place counted from n on.
abbrev pub EachAt : {P : Type 0} → (ℕ → P → Type 0) → ℕ → List P → Type 0
EachAt F n [] = Unit {0}
EachAt F n (p ∷ ps) = F n p × EachAt F (suc n) ps
