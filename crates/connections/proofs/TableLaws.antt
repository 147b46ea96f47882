-- What a table of connections answers after a change of its places.
use Rattle.std.proofs.Common.{◌≡◌, ℕ, zero, suc, ◌+◌, ◌-◌, ◌<◌, ◌≤◌, Bool, true, false, ◌==◌, nat_lt, if◌then◌else◌, List, [], ◌∷◌, length, set, get_or, replicate, is_none, refl, ap, sym, ◌∙◌, Option, Some, None, option_map, option_and_then, slice_get, arith}
use Rattle.std.proofs.lemmas.Option.{slice_get_read, slice_get_past}
use Rattle.std.proofs.lemmas.Bool.Decides.{nat_tests}
use Rattle.std.proofs.Math.Dec.{eqb-suc-suc, eqb-suc-zero, eqb-zero-suc}
use Rattle.cell_world.specs.Plain.{Connection}
use Rattle.connections.specs.Links.{connection, connection_at, ended_if, with_number}
use Rattle.connections.specs.declared.links.Link.{Link}
use Rattle.connections.proofs.EndedInTurn.{EndedUpTo, one_more_ended, all_ended}

-- ---- a place by its index

at_first : (x y : Option Link) (b : Bool) → b ≡ false → Some x ≡ (if b then Some y else Some x)
at_first x y true h = cc
at_first x y false h = refl

at_later : (y : Option Link) (o : Option (Option Link)) (b : Bool) → b ≡ false → o ≡ (if b then Some y else o)
at_later y o true h = cc
at_later y o false h = refl

pub slice_get-set : (xs : List (Option Link)) (i j : ℕ) (y : Option Link) → i < length xs → slice_get (set xs i y) j ≡ (if j == i then Some y else slice_get xs j)
slice_get-set [] i j y h = absurd (grind arith)
slice_get-set (x ∷ xs) zero zero y h = refl
slice_get-set (x ∷ xs) zero (suc j) y h = at_later y (slice_get xs j) (suc j == zero) (eqb-suc-zero j)
slice_get-set (x ∷ xs) (suc i) zero y h = at_first x y (zero == suc i) (eqb-zero-suc i)
slice_get-set (x ∷ xs) (suc i) (suc j) y h = slice_get-set xs i j y (omega arith) ∙ ap (λ b. if b then Some y else slice_get xs j) (sym (eqb-suc-suc j i))

-- ---- one number

chosen : (b : Bool) (y : Option Link) (o : Option (Option Link)) → option_and_then (option_map connection) (if b then Some y else o) ≡ (if b then option_map connection y else option_and_then (option_map connection) o)
chosen true y o = refl
chosen false y o = refl

not_chosen : (b : Bool) (c : Option Connection) → b ≡ false → None ≡ (if b then c else None)
not_chosen true c h = cc
not_chosen false c h = refl

pub set_at : (places : List (Option Link)) (i : ℕ) (place : Option Link) → i < length places → (n : ℕ) → connection_at (set places i place) n ≡ with_number (connection_at places) (suc i) (option_map connection place) n
set_at places i place h zero = not_chosen (zero == suc i) (option_map connection place) (eqb-zero-suc i)
set_at places i place h (suc n) =
    ap (option_and_then (option_map connection)) (slice_get-set places i n place h)
    ∙ chosen (n == i) place (slice_get places n)
    ∙ ap (λ b. if b then option_map connection place else connection_at places (suc n)) (sym (eqb-suc-suc n i))

-- a place is changed: its number, one more than its index, has another connection
pub place-set : (places : List (Option Link)) (number : ℕ) (place : Option Link) → 1 ≤ number → number ≤ length places → (n : ℕ) → connection_at (set places (number - 1) place) n ≡ with_number (connection_at places) number (option_map connection place) n
place-set places zero place least most n = absurd (omega arith)
place-set places (suc i) place least most n = let e : suc i - 1 ≡ i = omega arith in rw e (set_at places i place (omega arith) n)

-- past the last place there is none
pub past_places : (places : List (Option Link)) (number : ℕ) → length places < number → connection_at places number ≡ None
past_places places zero h = refl
past_places places (suc number) h = ap (option_and_then (option_map connection)) (slice_get_past places number (omega arith))

-- where a number has a connection there is a place for it
pub place_within : (places : List (Option Link)) (number : ℕ) (o : Option Link) → option_map connection o ≡ connection_at places number → is_none o ≡ false → (1 ≤ number) × (number ≤ length places)
place_within places zero None e h = cc
place_within places zero (Some link) e h = cc
place_within places (suc number) None e h = cc
place_within places (suc number) (Some link) e h = (omega arith, within (nat_lt number (length places)) refl)
  where
    within : (b : Bool) → nat_lt number (length places) ≡ b → suc number ≤ length places
    within true t = grind (arith, nat_tests)
    within false t =
        let none : connection_at places (suc number) ≡ None = past_places places (suc number) (grind (arith, nat_tests)) in
        cc

-- ---- no connections

none_get : (k n : ℕ) → option_and_then (option_map connection) (slice_get (replicate k None) n) ≡ None
none_get zero n = refl
none_get (suc k) zero = refl
none_get (suc k) (suc n) = none_get k n

pub no_places : (k n : ℕ) → connection_at (replicate k None) n ≡ None
no_places k zero = refl
no_places k (suc n) = none_get k n

-- ---- place after place ended

-- the connections of the places before an index are ended where the test finds them, and the others are as they were
abbrev pub EndedBefore : (Connection → Bool) → ℕ → List (Option Link) → List (Option Link) → Type 0
EndedBefore test i old new = EndedUpTo test i (λ k. connection_at old (suc k)) (λ k. connection_at new (suc k))

pub one_more_place : (test : Connection → Bool) (i : ℕ) (old new : List (Option Link)) (x y : Option Link) → i < length new → x ≡ get_or new i x → option_map connection y ≡ ended_if test (option_map connection (get_or new i x)) → EndedBefore test i old new → EndedBefore test (i + 1) old (set new i y)
one_more_place test i old new x y within read ended =
    one_more_ended test i (λ k. connection_at old (suc k)) (λ k. connection_at new (suc k)) (λ k. connection_at (set new i y) (suc k)) (option_map connection y)
    (λ k. set_at new i y within (suc k) ∙ ap (λ b. if b then option_map connection y else connection_at new (suc k)) (eqb-suc-suc k i))
    (ended ∙ ap (ended_if test) (ap (option_map connection) (sym read) ∙ ap (option_and_then (option_map connection)) (sym (slice_get_read new (length new) i x refl within read))))

pub all_places : (test : Connection → Bool) (i : ℕ) (old new : List (Option Link)) → length old ≤ i → EndedBefore test i old new → (number : ℕ) → connection_at new number ≡ ended_if test (connection_at old number)
all_places test i old new most before zero = refl
all_places test i old new most before (suc k) = all_ended test i (λ k. connection_at old (suc k)) (λ k. connection_at new (suc k)) (λ k past. past_places old (suc k) (omega arith)) before k
