-- Lists of locations: what may follow, and what keeps a list from going on.
use Rattle.std.proofs.Common.{◌≡◌, ℕ, ◌+◌, ◌≤◌, ◌<◌, true, false, ◌&&◌, not, List, [], ◌∷◌, ◌++◌, length, map, take, drop, get_or, Option, Some, None, Bor, if◌then◌else◌, refl, sym, ap, subst, ◌∙◌, arith, inl, inr, true≢false, add-one, drop-cons}
use Rattle.std.specs.Prelude.{codes, IsTrue}
use Rattle.std.specs.List.{IsDistinct, AllByRecursion}
use Rattle.std.proofs.lemmas.Bool.{cases_Bool, cases_lt, lt-ltb, le-ltb}
use Rattle.std.proofs.lemmas.List.{append-nil, length-append, take_more, take_all, take-append-drop, map-append}
use Rattle.std.proofs.lemmas.Cmp.{eq_by_cmp_equiv, nat_list_cmp_total}
use Rattle.std.proofs.lemmas.Map.Keys.{IsDistinct-head, IsDistinct-tail, IsDistinct-push}
use Rattle.cell_world.specs.Texts.{Text, is_location}
use Rattle.cell_world.specs.Keys.{same, is_among}
use Rattle.cell_world.specs.declared.limits.TheConstants.{MOST_LOCATIONS}
use Rattle.script_lang.specs.CommandLine.{AreLocations, can_follow, IsBadAt}

-- ---- what holds of each

all_append : (P : Text → Type 0) (xs ys : List Text) → AllByRecursion P xs → AllByRecursion P ys → AllByRecursion P (xs ++ ys)
all_append P [] ys hs h = h
all_append P (x ∷ xs) ys hs h = (hs.0, all_append P xs ys hs.1 h)

all_at : (P : Text → Type 0) (xs : List Text) (y : Text) (ys : List Text) → AllByRecursion P (xs ++ y ∷ ys) → P y
all_at P [] y ys h = h.0
all_at P (x ∷ xs) y ys h = all_at P xs y ys h.1

-- no word of a list without doubles is among those before it
not_among : (xs : List Text) (y : Text) (ys : List Text) → IsDistinct same (xs ++ y ∷ ys) → is_among xs y ≡ false
not_among [] y ys h = refl
not_among (x ∷ xs) y ys h =
    let other : same x y ≡ false = all_at (λ z. same x z ≡ false) xs y ys (IsDistinct-head same x (xs ++ y ∷ ys) h) in
    let turned : same y x ≡ false = (eq_by_cmp_equiv nat_list_cmp_total).symm y x ∙ other in
    rw turned (not_among xs y ys (IsDistinct-tail same x (xs ++ y ∷ ys) h))

-- ---- one more

pub record CanFollow (taken : List Text) (word : Text) : Type 0 where
  pub few : length taken < MOST_LOCATIONS
  pub spelled : is_location word ≡ true
  pub new : is_among taken word ≡ false

pub follows : (taken : List Text) (word : Text) → can_follow taken word ≡ true → CanFollow taken word
follows taken word h = elim (cases_lt (length taken) MOST_LOCATIONS) [
  | inl few ↦
      let rest : (is_location word && not (is_among taken word)) ≡ true = rw (lt-ltb (length taken) MOST_LOCATIONS few) at h in
      elim (cases_Bool (is_location word)) [
        | inl spelled ↦
            elim (cases_Bool (is_among taken word)) [
              | inl double ↦ absurd (true≢false (sym (rw (spelled, double) at rest)))
              | inr new ↦ record { few = few; spelled = spelled; new = new }
            ]
        | inr other ↦ absurd (true≢false (sym (rw other at rest)))
      ]
  | inr full ↦ absurd (true≢false (sym (rw (le-ltb (length taken) MOST_LOCATIONS full) at h)))
]

-- where nothing of it fails, the test passes
passes : (taken : List Text) (word : Text) → CanFollow taken word → can_follow taken word ≡ true
passes taken word can = rw (lt-ltb (length taken) MOST_LOCATIONS can.few, can.spelled, can.new) refl

pub one_more : (taken : List Text) (word : Text) → AreLocations 0 taken → can_follow taken word ≡ true → AreLocations 0 (taken ++ word ∷ [])
one_more taken word are h =
    let can = follows taken word h in
    record {
      spelled = all_append (λ w. IsTrue (is_location w)) taken (word ∷ []) are.spelled (can.spelled, tt);
      distinct = IsDistinct-push (eq_by_cmp_equiv nat_list_cmp_total) taken word are.distinct can.new;
      enough = omega arith;
      few = let few = can.few in omega (arith, length-append taken (word ∷ []));
    }

pub nothing : AreLocations 0 []
unfolding IsDistinct
nothing = record { spelled = tt; distinct = tt; enough = omega arith; few = omega arith }

pub enough_are : (least : ℕ) (taken : List Text) → AreLocations 0 taken → least ≤ length taken → AreLocations least taken
enough_are least taken are enough = record { spelled = are.spelled; distinct = are.distinct; enough = enough; few = are.few }

pub fewer : (least most : ℕ) (taken : List Text) → least ≤ most → AreLocations most taken → AreLocations least taken
fewer least most taken few are = record { spelled = are.spelled; distinct = are.distinct; enough = let enough = are.enough in omega arith; few = are.few }

-- ---- a list can grow

pub record CanGrow (least : ℕ) (taken : List Text) : Type 0 where
  pub rest : List Text
  pub are : AreLocations least (taken ++ rest)

abbrev pub first_made : Text
first_made = codes "a/a"

abbrev pub second_made : Text
second_made = codes "a/b"

pub two_made : AreLocations 2 (first_made ∷ second_made ∷ [])
two_made = enough_are 2 (first_made ∷ second_made ∷ []) (one_more (first_made ∷ []) second_made (one_more [] first_made nothing refl) refl) (omega arith)

-- one of two made locations is always new
one_behind : (x : Text) → AreLocations 0 (x ∷ []) → CanGrow 2 (x ∷ [])
one_behind x are =
    elim (cases_Bool (same first_made x)) [
      | inl first ↦
          let other : same second_made x ≡ false = sym ((eq_by_cmp_equiv nat_list_cmp_total).congr first_made x second_made first ∙ (eq_by_cmp_equiv nat_list_cmp_total).symm x second_made) in
          record { rest = second_made ∷ []; are = enough_are 2 (x ∷ second_made ∷ []) (one_more (x ∷ []) second_made are (rw other refl)) (omega arith) }
      | inr other ↦ record { rest = first_made ∷ []; are = enough_are 2 (x ∷ first_made ∷ []) (one_more (x ∷ []) first_made are (rw other refl)) (omega arith) }
    ]

pub goes_on : (least : ℕ) (taken : List Text) → least ≤ 2 → AreLocations 0 taken → CanGrow least taken
goes_on least [] few are = record { rest = first_made ∷ second_made ∷ []; are = fewer least 2 (first_made ∷ second_made ∷ []) few two_made }
goes_on least (x ∷ []) few are = let more = one_behind x are in record { rest = more.rest; are = fewer least 2 (x ∷ more.rest) few more.are }
goes_on least (x ∷ y ∷ taken) few are = record { rest = []; are = subst (AreLocations least) (sym (append-nil (x ∷ y ∷ taken))) (enough_are least (x ∷ y ∷ taken) are (omega arith)) }

-- ---- or it doesn't

-- the next word can't follow
pub bad_location : (least : ℕ) (taken : List Text) (word : Text) (more : List Text) → least ≤ 2 → AreLocations 0 taken → can_follow taken word ≡ false → IsBadAt (AreLocations least) (taken ++ word ∷ more) (length taken + 1)
bad_location least taken word more few are h =
    let on = goes_on least taken few are in
    record {
      before = taken;
      behind = word ∷ more;
      split = refl;
      count = refl;
      rest = on.rest;
      accepted = on.are;
      stops = λ rest all. true≢false (sym (passes taken word (record {
        few = let short = all.few in omega (arith, length-append taken (word ∷ rest));
        spelled = all_at (λ w. IsTrue (is_location w)) taken word rest all.spelled;
        new = not_among taken word rest all.distinct;
      })) ∙ h);
    }

-- the list ends too early
pub too_few : (least : ℕ) (taken : List Text) → least ≤ 2 → AreLocations 0 taken → length taken < least → IsBadAt (AreLocations least) taken (length taken + 1)
too_few least taken few are short =
    let on = goes_on least taken few are in
    record {
      before = taken;
      behind = [];
      split = sym (append-nil taken);
      count = refl;
      rest = on.rest;
      accepted = on.are;
      stops = λ all. let enough = all.enough in absurd (omega arith);
    }

-- ---- words as they are read, of which the first so many were taken

all_but_one : (words : List (Bor (List ℕ))) (index : ℕ) (d : Bor (List ℕ)) → index < length words → map (λ w. w.now) (take (index + 1) words) ≡ map (λ w. w.now) (take index words) ++ (get_or words index d).now ∷ []
all_but_one words index d within = ap (map (λ w. w.now)) (take_more words index d within) ∙ map-append (λ w. w.now) (take index words) (get_or words index d ∷ [])

in_parts : (words : List (Bor (List ℕ))) (index : ℕ) (d : Bor (List ℕ)) → index < length words
    → map (λ w. w.now) words ≡ map (λ w. w.now) (take index words) ++ (get_or words index d).now ∷ map (λ w. w.now) (drop (index + 1) words)
in_parts words index d within =
    ap (map (λ w. w.now)) (sym (take-append-drop index words) ∙ ap (λ r. take index words ++ r) (rw (add-one, drop-cons words index d) refl))
    ∙ map-append (λ w. w.now) (take index words) (get_or words index d ∷ drop (index + 1) words)

-- what was answered about a word
abbrev answered : List Text → Text → Option Text
answered taken word = if can_follow taken word then Some word else None

is_it : (taken : List Text) (word location : Text) → Some location ≡ answered taken word → (location ≡ word) × (can_follow taken word ≡ true)
is_it taken word location h =
    elim (cases_Bool (can_follow taken word)) [
      | inl can ↦ (let same : Some location ≡ Some word = rw can at h in cc, can)
      | inr cannot ↦ absurd (let none : Some location ≡ None = rw cannot at h in cc)
    ]

cannot_be : (taken : List Text) (word : Text) → None ≡ answered taken word → can_follow taken word ≡ false
cannot_be taken word h =
    elim (cases_Bool (can_follow taken word)) [
      | inl can ↦ absurd (let some : None ≡ Some word = rw can at h in cc)
      | inr cannot ↦ cannot
    ]

pub record Taken (words : List (Bor (List ℕ))) (index : ℕ) (found : List Text) : Type 0 where
  pub these : found ≡ map (λ w. w.now) (take index words)
  pub are : AreLocations 0 found

pub taken_more : (words : List (Bor (List ℕ))) (index : ℕ) (d : Bor (List ℕ)) (found tested more : List Text) (location : Text) → Taken words index found → index < length words → tested ≡ found
    → Some location ≡ answered tested (get_or words index d).now → more ≡ found ++ location ∷ [] → Taken words (index + 1) more
taken_more words index d found tested more location taken within same h is =
    let it = is_it found (get_or words index d).now location (subst (λ t. Some location ≡ answered t (get_or words index d).now) same h) in
    let whole : more ≡ found ++ (get_or words index d).now ∷ [] = is ∙ ap (λ l. found ++ l ∷ []) it.0 in
    record {
      these = whole ∙ (ap (λ f. f ++ (get_or words index d).now ∷ []) taken.these ∙ sym (all_but_one words index d within));
      are = subst (AreLocations 0) (sym whole) (one_more found (get_or words index d).now taken.are it.1);
    }

pub taken_stops : (least : ℕ) (words : List (Bor (List ℕ))) (index : ℕ) (d : Bor (List ℕ)) (found tested : List Text) → least ≤ 2 → Taken words index found → index < length words → tested ≡ found
    → None ≡ answered tested (get_or words index d).now → IsBadAt (AreLocations least) (map (λ w. w.now) words) (length found + 1)
taken_stops least words index d found tested few taken within same h =
    let cannot = cannot_be found (get_or words index d).now (subst (λ t. None ≡ answered t (get_or words index d).now) same h) in
    subst (λ w. IsBadAt (AreLocations least) w (length found + 1))
    (ap (λ f. f ++ (get_or words index d).now ∷ map (λ w. w.now) (drop (index + 1) words)) taken.these ∙ sym (in_parts words index d within))
    (bad_location least found (get_or words index d).now (map (λ w. w.now) (drop (index + 1) words)) few taken.are cannot)

pub taken_all : (words : List (Bor (List ℕ))) (index : ℕ) (found : List Text) → Taken words index found → length words ≤ index → found ≡ map (λ w. w.now) words
taken_all words index found taken all = taken.these ∙ ap (map (λ w. w.now)) (take_all index words all)

pub taken_few : (least : ℕ) (words : List (Bor (List ℕ))) (index : ℕ) (found : List Text) → least ≤ 2 → Taken words index found → length words ≤ index → length found < least
    → IsBadAt (AreLocations least) (map (λ w. w.now) words) (length found + 1)
taken_few least words index found few taken all short = subst (λ w. IsBadAt (AreLocations least) w (length found + 1)) (taken_all words index found taken all) (too_few least found few taken.are short)
