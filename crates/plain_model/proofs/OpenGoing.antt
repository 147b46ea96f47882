-- Each open number is one that a session has going.
use Rattle.std.proofs.Common.{◌≡◌, ◌⊎◌, inl, inr, ⊎_elim, ℕ, Bool, true, false, cond, ◌||◌, ◌&&◌, not, refl, ap, subst, Some, None, Option, List, [], ◌∷◌, eqb, eq-eqb}
use Rattle.std.specs.Prelude.{◌==◌}
use Rattle.std.specs.List.{list_any}
use Rattle.std.proofs.lemmas.Bool.{eqb-true}
use Rattle.cell_world.specs.Images.{Image, Committed, Wrote, Reopened}
use Rattle.cell_world.specs.declared.operations.Op.{Op}
use Rattle.plain_model.specs.declared.history.Entry.{Entry}
use Rattle.plain_model.specs.Timelines.{Timeline, Happened, Entered}
use Rattle.plain_model.specs.OnTrail.{logs_put, logs, is_open, NoneOwed}
use Rattle.plain_model.specs.Legal.{Going, AllGoing, IsAtOperation, next_of, AllNamedNext, AreNamed}
use Rattle.plain_model.specs.RunSoFar.{Looks, nothing_going}

-- none of the entries names it
abbrev NoneNames : ℕ → List Entry → Type 0
NoneNames number [] = Unit {0}
NoneNames number (e ∷ later) = (e.operation ≡ number → ⊥) × NoneNames number later

not_found : (going : AllGoing) (number session : ℕ) (later : List Entry) → NoneNames number later → IsAtOperation number (going session) (next_of session later) → IsAtOperation number (going session) None
not_found going number session [] none h = h
not_found going number session (e ∷ later) none h = by (e.session == session) h (not_found going number session later none.1)
  where
    by : (b : Bool) → IsAtOperation number (going session) (cond b (Some e) (next_of session later)) → (IsAtOperation number (going session) (next_of session later) → IsAtOperation number (going session) None)
        → IsAtOperation number (going session) None
    by true h more = absurd (none.0 h)
    by false h more = more h

either : (a b : Bool) → (a || b) ≡ true → (a ≡ true) ⊎ (b ≡ true)
either true b is = inl refl
either false b is = inr is

both : (a b : Bool) → (a && b) ≡ true → (a ≡ true) × (b ≡ true)
both true true is = (refl, refl)
both true false is = absurd cc
both false b is = absurd cc

not_same : (a b : ℕ) → not (eqb a b) ≡ true → a ≡ b → ⊥
not_same a b is same = let e : eqb a b ≡ true = eq-eqb a b same in let f : not (eqb a b) ≡ false = ap not e in absurd cc

-- a session has the operation of the number going
pub record IsGoing (going : AllGoing) (number : ℕ) : Type 0 where
  pub session : ℕ
  pub going_now : Going
  pub here : going session ≡ Some going_now
  pub operation : going_now.operation ≡ number

going_is : (number : ℕ) (G : Option Going) → IsAtOperation number G None → (g : Going) × (G ≡ Some g) × (g.operation ≡ number)
going_is number None h = absurd h
going_is number (Some g) h = (g, refl, h)

of_tried : (going : AllGoing) (number : ℕ) (later : List Entry) (ops : List Op) → NoneNames number later → AllNamedNext going later ops → list_any (λ (op : Op). op.number == number) ops ≡ true → IsGoing going number
of_tried going number later [] none named is = absurd cc
of_tried going number later (op ∷ ops) none named is = ⊎_elim
    (λ this. let same : op.number ≡ number = eqb-true op.number number this in
    let at : IsAtOperation number (going named.0.session) (next_of named.0.session later) = subst (λ n. IsAtOperation n (going named.0.session) (next_of named.0.session later)) same named.0.at_operation in
    let g = going_is number (going named.0.session) (not_found going number named.0.session later none at) in
    record { session = named.0.session; going_now = g.0; here = g.1; operation = g.2 })
    (λ that. of_tried going number later ops none named.1 that)
    (either (op.number == number) (list_any (λ (op : Op). op.number == number) ops) is)

open_going_later : (going : AllGoing) (number : ℕ) (past : Timeline) (later : List Entry) → NoneNames number later → AreNamed going past later → is_open number past ≡ true → IsGoing going number
open_going_later going number [] later none named is = absurd cc
open_going_later going number (Happened (Committed place change took) ∷ past) later none named is = ⊎_elim
    (λ this. of_tried going number later (logs_put change) none named.0 this)
    (λ before. open_going_later going number past later none named.1 before)
    (either (logs number change) (is_open number past) is)
open_going_later going number (Happened (Wrote bytes) ∷ past) later none named is = open_going_later going number past later none named is
open_going_later going number (Happened (Reopened place cells) ∷ past) later none named is = open_going_later going number past later none named is
open_going_later going number (Entered e ∷ past) later none named is =
    let b : (is_open number past ≡ true) × (not (e.operation == number) ≡ true) = both _ _ is in
    open_going_later going number past (e ∷ later) (not_same e.operation number b.1, none) named b.0

pub open_going : (going : AllGoing) (number : ℕ) (past : Timeline) → Looks going past → is_open number past ≡ true → IsGoing going number
open_going going number past looks is = open_going_later going number past [] tt looks.named is

-- so where nothing is going no entry is owed
pub none_owed_at_rest : (start : Image) (past : Timeline) → Looks nothing_going past → NoneOwed start past
none_owed_at_rest start past looks number is = let g = open_going nothing_going number past looks is in let no : None ≡ Some g.going_now = g.here in absurd cc
