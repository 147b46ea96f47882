-- The statements within a transaction.
use Rattle.std.proofs.Common.{◌≡◌, ◌⊎◌, inl, inr, ℕ, ℤ, ◌+◌, ◌<◌, true, false, List, [], ◌∷◌, ◌++◌, length, get_or, take, Some, None, Ok, Err, Result, OnOk, OnErr, IfErr, IsTrue, true≢false, Vec, Global, refl, sym, subst, ◌∙◌}
use Rattle.std.proofs.lemmas.Bool.{cases_Bool}
use Rattle.std.proofs.lemmas.List.{take_more}
use Rattle.sqlite.specs.Order.{Row}
use Rattle.sqlite.specs.Store.{Ghosts}
use Rattle.sqlite.specs.declared.error.Error.{Error}
use Rattle.sqlite.specs.Held.{Held, state}
use Rattle.sqlite.specs.State.{State, KeepsCommit, IsUnchanged, IsRolledBack, Executes, ExecutesInside}
use Rattle.sqlite.specs.Steps.{FailsToCommit}
use Rattle.cell_table.specs.declared.Op.{Op}
use Rattle.cell_table.specs.Cells.{Entry, others, IsMade, AreMade}

from_unchanged : (old new : State) → IsUnchanged old new → KeepsCommit old new
from_unchanged old new h = record { was_open = λ _. h.0.was_open; committed = λ _. h.0.committed_is }

from_undone : (old new : State) → IsRolledBack old new → KeepsCommit old new
from_undone old new h = record { was_open = h.was_open; committed = λ is_open. (h.undone is_open).1 }

inside_keeps : (sql : List ℕ) (params : Row) (old new : State) (r : Result ℕ Error) → ExecutesInside 0 sql params old new r → KeepsCommit old new
inside_keeps sql params old new (Ok count) h = record { was_open = λ _. h.1.was_open; committed = λ _. h.1.committed_is }
inside_keeps sql params old new (Err e) (inl h) = elim h.1 [ inl same ↦ from_unchanged old new same | inr undone ↦ from_undone old new undone ]
inside_keeps sql params old new (Err e) (inr h) = from_unchanged old new h.2

inside_ran : (sql : List ℕ) (params : Row) (old new : State) (r : Result ℕ Error) (P : Type 0) → ((n : ℕ) → Executes sql params old new (Ok n) → P) → ExecutesInside 0 sql params old new r → OnOk r P
inside_ran sql params old new (Ok count) P f h = f count h.0
inside_ran sql params old new (Err e) P f h = tt

pub inside_stays : (sql : List ℕ) (params : Row) (old new : State) (r : Result ℕ Error) → ExecutesInside 0 sql params old new r → OnOk r (IsTrue new.in_transaction)
inside_stays sql params old new (Ok count) h = h.1.mode
inside_stays sql params old new (Err e) h = tt

module _ {S : Type 0} (g : Ghosts S) (sql : List ℕ) (params : Row) (old new : Held S) (r : Result ℕ Error) (late : Error)
    (ended : old.in_transaction ≡ false → (r ≡ Err late) × (new ≡ old)) (runs : IsTrue old.in_transaction → ExecutesInside 0 sql params (state g old) (state g new) r) where
  pub call_keeps : KeepsCommit (state g old) (state g new)
  call_keeps = elim (cases_Bool old.in_transaction) [
    | inl begun ↦ inside_keeps sql params (state g old) (state g new) r (runs begun)
    | inr none ↦ subst (λ h. KeepsCommit (state g old) (state g h)) (sym (ended none).1) (record { was_open = λ is_open. is_open; committed = λ _. refl })
  ]

  pub call_ran : (P : Type 0) → ((n : ℕ) → Executes sql params (state g old) (state g new) (Ok n) → P) → OnOk r P
  call_ran P f = elim (cases_Bool old.in_transaction) [ inl begun ↦ inside_ran sql params (state g old) (state g new) r P f (runs begun) | inr none ↦ subst (λ x. OnOk x P) (sym (ended none).0) tt ]

pub keeps_then : (a b c : State) → KeepsCommit a b → KeepsCommit b c → KeepsCommit a c
keeps_then a b c p q = record { was_open = λ is_open. p.was_open (q.was_open is_open); committed = λ is_open. q.committed is_open ∙ p.committed (q.was_open is_open) }

pub made_none : (op : Op) (all : List Entry) → op.value ≡ None → IsMade op all (others op.kind op.key.items all)
made_none op all is = rw is refl

pub made_some : (op : Op) (all : List Entry) (v : Vec ℕ Global) (id : ℤ) → op.value ≡ Some v → IsMade op all (others op.kind op.key.items all ++ record { id = id; kind = op.kind; key = op.key.items; value = v.items } ∷ [])
made_some op all v id is = rw is (id, refl)

made_push : (ops : List Op) (op : Op) (a b n : List Entry) → AreMade ops a b → IsMade op b n → AreMade (ops ++ op ∷ []) a n
made_push [] op a b n h s = (n, subst (λ x. IsMade op x n) h s, refl)
made_push (o ∷ os) op a b n h s = (h.0, h.1, made_push os op h.0 b n h.2 s)

pub made_more : (ops : List Op) (i : ℕ) (op : Op) (a b n : List Entry) → i < length ops → op ≡ get_or ops i op → AreMade (take i ops) a b → IsMade op b n → AreMade (take (i + 1) ops) a n
made_more ops i op a b n within is h s =
    subst (λ os. AreMade os a n) (sym (take_more ops i op within)) (made_push (take i ops) (get_or ops i op) a b n h (subst (λ o. IsMade o b n) is s))

-- what is undone, or not committed, leaves what there was before the transaction
pub undone_is : (old first last end : State) → (IsTrue old.is_open → old.now ≡ old.committed) → first.committed ≡ old.committed → (IsTrue first.is_open → IsTrue old.is_open) → KeepsCommit first last → IsRolledBack last end
    → IsTrue end.is_open → (end.now ≡ old.now) × (end.committed ≡ old.committed)
undone_is old first last end settled same was kept undone is_open =
    let last_open = undone.was_open is_open in
    let first_open = kept.was_open last_open in
    let back : last.committed ≡ old.committed = kept.committed last_open ∙ same in
    ((undone.undone is_open).0 ∙ back ∙ sym (settled (was first_open)), (undone.undone is_open).1 ∙ back)

pub failed_is : (old first last end : State) (e : Error) → (IsTrue old.is_open → old.now ≡ old.committed) → first.committed ≡ old.committed → (IsTrue first.is_open → IsTrue old.is_open) → KeepsCommit first last
    → IsTrue last.in_transaction → FailsToCommit last end e → IsTrue end.is_open → (end.now ≡ old.now) × (end.committed ≡ old.committed)
failed_is old first last end e settled same was kept begun (inl fails) is_open = undone_is old first last end settled same was kept fails.3 is_open
failed_is old first last end e settled same was kept begun (inr late) is_open = absurd (true≢false (sym begun ∙ late.1))

pub always : {T E P : Type 0} (r : Result T E) → P → OnErr r P
always (Ok x) p = tt
always (Err e) p = p

pub on_failure : {T E P : Type 0} (Q : E → Type 0) (r : Result T E) → IfErr r Q → ((e : E) → Q e → P) → OnErr r P
on_failure Q (Ok x) h f = tt
on_failure Q (Err e) h f = f e h
