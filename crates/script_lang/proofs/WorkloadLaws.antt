-- Words that begin with a workload.
use Rattle.std.proofs.Common.{◌≡◌, ℕ, ◌+◌, Bool, true, false, ◌&&◌, List, [], ◌∷◌, ◌++◌, take, drop, Some, None, refl, sym, ap, subst, ◌∙◌, rules, true≢false}
use Rattle.std.specs.Prelude.{codes}
use Rattle.std.proofs.lemmas.List.{take-append-drop}
use Rattle.cell_world.specs.Texts.{Text, is_location}
use Rattle.cell_world.specs.ByteOrder.{byte_eq}
use Rattle.script_lang.specs.declared.command_line.Workload.{Workload}
use Rattle.script_lang.specs.declared.command_line.WordsFault.{WordsFault}
use Rattle.script_lang.specs.declared.command_line.WordsFault.TheVariants as fault
use Rattle.script_lang.specs.Spelling.{number_within, last_64}
use Rattle.script_lang.specs.CommandLine.{IsWorkload, AreLocations, SaysRest, IsAcceptedRest, Stops, IsBadAt, IsWordsFault, first_is, first_number, moved_by}
use Rattle.script_lang.proofs.LocationLaws.{two_made, first_made, second_made}
use Rattle.script_lang.proofs.PlaceLaws.{behind_front, without_front, first_passes}

abbrev pub workload_mark : Text
workload_mark = codes "--workload"

abbrev pub count_mark : Text
count_mark = codes "--count"

pub same_bytes : (a b : Text) → byte_eq a b ≡ true → a ≡ b
same_bytes a b h = search rules

pub same_self : (a : Text) → byte_eq a a ≡ true
same_self a = search rules

-- what stands behind the first word
pub record Worked (rest : List Text) : Type 0 where
  pub workload : Workload
  pub seed : Text
  pub count : Text
  pub locations : List Text
  pub parts : rest ≡ seed ∷ count_mark ∷ count ∷ locations
  pub seed_is : number_within 0 last_64 seed ≡ Some workload.seed
  pub count_is : number_within 1 2000 count ≡ Some workload.count
  pub are : AreLocations 2 locations

no_location : (in_force : Bool) (words rest : List Text) → words ≡ workload_mark ∷ rest → AreLocations 0 words → ⊥
no_location in_force [] rest words are = cc
no_location in_force (a ∷ more) rest words are =
    let first : a ≡ workload_mark = cc in
    true≢false (sym are.spelled.0 ∙ ap is_location first)

pub worked_of : (in_force : Bool) (rest : List Text) → IsAcceptedRest in_force (workload_mark ∷ rest) → Worked rest
worked_of in_force rest (None, (locations, says)) =
    let front : says.front ≡ [] = says.front_says in
    absurd (no_location in_force locations rest (sym (says.parts ∙ ap (λ f. f ++ locations) front)) says.are)
worked_of in_force rest (Some workload, (locations, says)) =
    let is = says.front_says in
    let words : workload_mark ∷ rest ≡ workload_mark ∷ is.seed ∷ count_mark ∷ is.count ∷ locations = says.parts ∙ ap (λ f. f ++ locations) is.parts in
    record { workload = workload; seed = is.seed; count = is.count; locations = locations; parts = cc; seed_is = is.seed_is; count_is = is.count_is; are = says.are }

pub worked_to : (rest : List Text) → Worked rest → IsAcceptedRest true (workload_mark ∷ rest)
worked_to rest w = (
  Some w.workload,
  (
    w.locations,
    record {
      front = workload_mark ∷ w.seed ∷ count_mark ∷ w.count ∷ [];
      parts = ap (λ r. workload_mark ∷ r) w.parts;
      front_says = record { allowed = refl; seed = w.seed; count = w.count; parts = refl; seed_is = w.seed_is; count_is = w.count_is };
      are = w.are;
    },
  ),
)

-- ---- what was read

pub is_workload : (words : List Text) (seed count : ℕ) → first_is workload_mark words ≡ true → first_number 0 last_64 (drop 1 words) ≡ Some seed → first_is count_mark (drop 2 words) ≡ true
    → first_number 1 2000 (drop 3 words) ≡ Some count → IsWorkload true (take 4 words) (record { seed = seed; count = count })
is_workload [] seed count first seed_is mark count_is = absurd (true≢false (sym first))
is_workload (a ∷ []) seed count first seed_is mark count_is = absurd cc
is_workload (a ∷ b ∷ []) seed count first seed_is mark count_is = absurd (true≢false (sym mark))
is_workload (a ∷ b ∷ c ∷ []) seed count first seed_is mark count_is = absurd cc
is_workload (a ∷ b ∷ c ∷ d ∷ more) seed count first seed_is mark count_is =
    let one = same_bytes a workload_mark first in
    let three = same_bytes c count_mark mark in
    record { allowed = refl; seed = b; count = d; parts = rw (one, three) refl; seed_is = seed_is; count_is = count_is }

-- ---- where the words of a workload stop

-- numbers and locations with which any list goes on
abbrev made_workload : Workload
made_workload = record { seed = 0; count = 1 }

abbrev made_locations : List Text
made_locations = first_made ∷ second_made ∷ []

bad_seed_behind : (more : List Text) → first_number 0 last_64 more ≡ None → IsBadAt (IsAcceptedRest true) (workload_mark ∷ more) 2
bad_seed_behind more none = record {
  before = workload_mark ∷ [];
  behind = more;
  split = refl;
  count = refl;
  rest = codes "0" ∷ count_mark ∷ codes "1" ∷ made_locations;
  accepted = worked_to _ (record { workload = made_workload; seed = codes "0"; count = codes "1"; locations = made_locations; parts = refl; seed_is = refl; count_is = refl; are = two_made });
  stops = stops_seed more none;
}
  where
    stops_seed : (more : List Text) → first_number 0 last_64 more ≡ None → Stops (IsAcceptedRest true) (workload_mark ∷ []) more
    stops_seed [] none = λ h. let w = worked_of true [] h in let parts = w.parts in cc
    stops_seed (word ∷ more) none = λ rest h.
        let w = worked_of true (word ∷ rest) h in
        let parts = w.parts in
        let same : word ≡ w.seed = cc in
        let is = w.seed_is in
        let some : None ≡ Some w.workload.seed = sym none ∙ (ap (number_within 0 last_64) same ∙ is) in
        cc

pub bad_seed : (words : List Text) → first_is workload_mark words ≡ true → first_number 0 last_64 (drop 1 words) ≡ None → IsBadAt (IsAcceptedRest true) words 2
bad_seed [] first none = absurd (true≢false (sym first))
bad_seed (a ∷ more) first none = subst (λ m. IsBadAt (IsAcceptedRest true) (m ∷ more) 2) (sym (same_bytes a workload_mark first)) (bad_seed_behind more none)

bad_mark_behind : (seed : ℕ) (word : Text) (more : List Text) → number_within 0 last_64 word ≡ Some seed → first_is count_mark more ≡ false → IsBadAt (IsAcceptedRest true) (workload_mark ∷ word ∷ more) 3
bad_mark_behind seed word more seed_is other = record {
  before = workload_mark ∷ word ∷ [];
  behind = more;
  split = refl;
  count = refl;
  rest = count_mark ∷ codes "1" ∷ made_locations;
  accepted = worked_to _ (record { workload = record { seed = seed; count = 1 }; seed = word; count = codes "1"; locations = made_locations; parts = refl; seed_is = seed_is; count_is = refl; are = two_made });
  stops = stops_mark more other;
}
  where
    stops_mark : (more : List Text) → first_is count_mark more ≡ false → Stops (IsAcceptedRest true) (workload_mark ∷ word ∷ []) more
    stops_mark [] other = λ h. let w = worked_of true (word ∷ []) h in let parts = w.parts in cc
    stops_mark (c ∷ more) other = λ rest h.
        let w = worked_of true (word ∷ c ∷ rest) h in
        let parts = w.parts in
        let same : c ≡ count_mark = cc in
        true≢false (sym (ap (λ t. byte_eq t count_mark) same ∙ same_self count_mark) ∙ other)

pub bad_mark : (words : List Text) (seed : ℕ) → first_is workload_mark words ≡ true → first_number 0 last_64 (drop 1 words) ≡ Some seed → first_is count_mark (drop 2 words) ≡ false → IsBadAt (IsAcceptedRest true) words 3
bad_mark [] seed first seed_is other = absurd (true≢false (sym first))
bad_mark (a ∷ []) seed first seed_is other = absurd cc
bad_mark (a ∷ b ∷ more) seed first seed_is other = subst (λ m. IsBadAt (IsAcceptedRest true) (m ∷ b ∷ more) 3) (sym (same_bytes a workload_mark first)) (bad_mark_behind seed b more seed_is other)

bad_count_behind : (seed : ℕ) (word : Text) (more : List Text) → number_within 0 last_64 word ≡ Some seed → first_number 1 2000 more ≡ None → IsBadAt (IsAcceptedRest true) (workload_mark ∷ word ∷ count_mark ∷ more) 4
bad_count_behind seed word more seed_is none = record {
  before = workload_mark ∷ word ∷ count_mark ∷ [];
  behind = more;
  split = refl;
  count = refl;
  rest = codes "1" ∷ made_locations;
  accepted = worked_to _ (record { workload = record { seed = seed; count = 1 }; seed = word; count = codes "1"; locations = made_locations; parts = refl; seed_is = seed_is; count_is = refl; are = two_made });
  stops = stops_count more none;
}
  where
    stops_count : (more : List Text) → first_number 1 2000 more ≡ None → Stops (IsAcceptedRest true) (workload_mark ∷ word ∷ count_mark ∷ []) more
    stops_count [] none = λ h. let w = worked_of true (word ∷ count_mark ∷ []) h in let parts = w.parts in cc
    stops_count (c ∷ more) none = λ rest h.
        let w = worked_of true (word ∷ count_mark ∷ c ∷ rest) h in
        let parts = w.parts in
        let same : c ≡ w.count = cc in
        let is = w.count_is in
        let some : None ≡ Some w.workload.count = sym none ∙ (ap (number_within 1 2000) same ∙ is) in
        cc

pub bad_count : (words : List Text) (seed : ℕ) → first_is workload_mark words ≡ true → first_number 0 last_64 (drop 1 words) ≡ Some seed → first_is count_mark (drop 2 words) ≡ true → first_number 1 2000 (drop 3 words) ≡ None
    → IsBadAt (IsAcceptedRest true) words 4
bad_count [] seed first seed_is mark none = absurd (true≢false (sym first))
bad_count (a ∷ []) seed first seed_is mark none = absurd cc
bad_count (a ∷ b ∷ []) seed first seed_is mark none = absurd (true≢false (sym mark))
bad_count (a ∷ b ∷ c ∷ more) seed first seed_is mark none =
    subst (λ m. IsBadAt (IsAcceptedRest true) (m ∷ b ∷ c ∷ more) 4) (sym (same_bytes a workload_mark first))
    (subst (λ m. IsBadAt (IsAcceptedRest true) (workload_mark ∷ b ∷ m ∷ more) 4) (sym (same_bytes c count_mark mark)) (bad_count_behind seed b more seed_is none))

-- ---- the locations behind it

-- four words
abbrev four : Text → Text → List Text
four seed count = workload_mark ∷ seed ∷ count_mark ∷ count ∷ []

pub with_locations : (words : List Text) (workload : Workload) → IsWorkload true (take 4 words) workload → AreLocations 2 (drop 4 words) → SaysRest true words (Some workload) (drop 4 words)
with_locations words workload is are = record { front = take 4 words; parts = sym (take-append-drop 4 words); front_says = is; are = are }

pub bad_behind : (words : List Text) (workload : Workload) (place : ℕ) → IsWorkload true (take 4 words) workload → IsBadAt (AreLocations 2) (drop 4 words) place → IsBadAt (IsAcceptedRest true) words (4 + place)
bad_behind words workload place is bad =
    subst (λ w. IsBadAt (IsAcceptedRest true) w (4 + place)) (ap (λ f. f ++ drop 4 words) (sym is.parts) ∙ take-append-drop 4 words)
    (behind_front (IsAcceptedRest true) (AreLocations 2) (four is.seed is.count) (drop 4 words) place
    (λ rest are. worked_to _ (record { workload = workload; seed = is.seed; count = is.count; locations = rest; parts = refl; seed_is = is.seed_is; count_is = is.count_is; are = are }))
    (λ rest h.
    let w = worked_of true (is.seed ∷ count_mark ∷ is.count ∷ rest) h in
    let parts = w.parts in
    let same : w.locations ≡ rest = cc in
    subst (AreLocations 2) same w.are)
    bad)

pub fault_behind : (words : List Text) (workload : Workload) (fault : WordsFault) → IsWorkload true (take 4 words) workload → IsWordsFault (AreLocations 2) (drop 4 words) fault → IsWordsFault (IsAcceptedRest true) words (moved_by 4 fault)
fault_behind words workload (fault.At place) is bad = bad_behind words workload place is bad
fault_behind words workload fault.Memory is bad = tt

-- ---- without a workload

-- where the option isn't in force, or the first word is another
abbrev pub begins : Bool → Text → Bool
begins in_force word = in_force && byte_eq word workload_mark

pub only_locations : (in_force : Bool) (words : List Text) → AreLocations 0 words → IsAcceptedRest in_force words
only_locations in_force words are = (None, (words, record { front = []; parts = refl; front_says = refl; are = are }))

locations_alone : (in_force : Bool) (words : List Text) → first_passes (begins in_force) words ≡ false → IsAcceptedRest in_force words → AreLocations 0 words
locations_alone in_force words first (None, (locations, says)) =
    let front : says.front ≡ [] = says.front_says in
    subst (AreLocations 0) (sym (says.parts ∙ ap (λ f. f ++ locations) front)) says.are
locations_alone in_force words first (Some workload, (locations, says)) =
    let is = says.front_says in
    let whole : words ≡ workload_mark ∷ is.seed ∷ count_mark ∷ is.count ∷ locations = says.parts ∙ ap (λ f. f ++ locations) is.parts in
    let at : first_passes (begins in_force) (workload_mark ∷ is.seed ∷ count_mark ∷ is.count ∷ locations) ≡ false = subst (λ w. first_passes (begins in_force) w ≡ false) whole first in
    absurd (true≢false (sym (rw (is.allowed, same_self workload_mark) refl) ∙ at))

pub bad_alone : (in_force : Bool) (words : List Text) (place : ℕ) → (in_force && first_is workload_mark words) ≡ false → IsBadAt (AreLocations 0) words place → IsBadAt (IsAcceptedRest in_force) words place
bad_alone in_force words place first bad =
    without_front (IsAcceptedRest in_force) (AreLocations 0) (begins in_force) words place (only_locations in_force) (locations_alone in_force) (first_fails in_force words first) bad
  where
    first_fails : (in_force : Bool) (words : List Text) → (in_force && first_is workload_mark words) ≡ false → first_passes (begins in_force) words ≡ false
    first_fails in_force [] first = refl
    first_fails in_force (word ∷ more) first = first

pub fault_alone : (in_force : Bool) (words : List Text) (fault : WordsFault) → (in_force && first_is workload_mark words) ≡ false → IsWordsFault (AreLocations 0) words fault → IsWordsFault (IsAcceptedRest in_force) words fault
fault_alone in_force words (fault.At place) first bad = bad_alone in_force words place first bad
fault_alone in_force words fault.Memory first bad = tt
