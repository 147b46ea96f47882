-- Connections that are ended one after another, by an index.
use Rattle.std.proofs.Common.{◌≡◌, ◌≢◌, ℕ, ◌+◌, ◌≤◌, inl, inr, nat_lt, ◌==◌, Bool, true, false, if◌then◌else◌, refl, ap, sym, ◌∙◌, Option, None, arith}
use Rattle.std.proofs.lemmas.Bool.Decides.{eqb_tells, nat_tests}
use Rattle.cell_world.specs.Plain.{Connection}
use Rattle.connections.specs.Links.{ended_if}

pub choice_of_false : (b : Bool) (x y : Option Connection) → b ≡ false → y ≡ (if b then x else y)
choice_of_false true x y h = cc
choice_of_false false x y h = refl

pub choice_of_true : (b : Bool) (x y : Option Connection) → b ≡ true → x ≡ (if b then x else y)
choice_of_true true x y h = refl
choice_of_true false x y h = cc

-- by index
abbrev pub Indexed : Type 0
Indexed = ℕ → Option Connection

-- those before an index are ended where the test finds them, and the others are as they were
abbrev pub EndedUpTo : (Connection → Bool) → ℕ → Indexed → Indexed → Type 0
EndedUpTo test i old new = (k : ℕ) → new k ≡ (if nat_lt k i then ended_if test (old k) else old k)

pub one_more_ended : (test : Connection → Bool) (i : ℕ) (old new next : Indexed) (y : Option Connection) → ((k : ℕ) → next k ≡ (if k == i then y else new k)) → y ≡ ended_if test (new i) → EndedUpTo test i old new → EndedUpTo test (i + 1) old next
one_more_ended test i old new next y put ended before k = elim (eqb_tells k i) [ inl e ↦ here e.0 e.1 | inr e ↦ others e.0 e.1 ]
  where
    stood : new i ≡ old i
    stood = before i ∙ sym (choice_of_false (nat_lt i i) (ended_if test (old i)) (old i) (grind (arith, nat_tests)))

    here : (k == i) ≡ true → k ≡ i → next k ≡ (if nat_lt k (i + 1) then ended_if test (old k) else old k)
    here t e =
        put k
        ∙ sym (choice_of_true (k == i) y (new k) t)
        ∙ ended
        ∙ ap (ended_if test) (stood ∙ ap old (sym e))
        ∙ choice_of_true (nat_lt k (i + 1)) (ended_if test (old k)) (old k) (grind (arith, nat_tests))

    same_side : k ≢ i → nat_lt k i ≡ nat_lt k (i + 1)
    same_side e = grind (arith, nat_tests)

    others : (k == i) ≡ false → k ≢ i → next k ≡ (if nat_lt k (i + 1) then ended_if test (old k) else old k)
    others f e =
        put k
        ∙ sym (choice_of_false (k == i) y (new k) f)
        ∙ before k
        ∙ ap (λ b. if b then ended_if test (old k) else old k) (same_side e)

-- from the index on there were none, so all are ended
pub all_ended : (test : Connection → Bool) (i : ℕ) (old new : Indexed) → ((k : ℕ) → i ≤ k → old k ≡ None) → EndedUpTo test i old new → (k : ℕ) → new k ≡ ended_if test (old k)
all_ended test i old new none before k = before k ∙ of (nat_lt k i) refl
  where
    of : (b : Bool) → nat_lt k i ≡ b → (if b then ended_if test (old k) else old k) ≡ ended_if test (old k)
    of true h = refl
    of false h =
        let e : old k ≡ None = none k (grind (arith, nat_tests)) in
        e ∙ sym (ap (ended_if test) e)
