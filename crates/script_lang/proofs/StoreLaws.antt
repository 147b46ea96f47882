-- Words that begin with a store, and those that don't.
use Rattle.std.proofs.Common.{◌≡◌, ℕ, ◌+◌, Bool, true, false, ◌&&◌, List, [], ◌∷◌, ◌++◌, drop, Option, Some, None, refl, sym, ap, subst, ◌∙◌, true≢false, inl, inr}
use Rattle.std.specs.Prelude.{codes, IsTrue}
use Rattle.std.proofs.lemmas.Bool.{cases_Bool}
use Rattle.cell_world.specs.Texts.{Text, is_location}
use Rattle.cell_world.specs.ByteOrder.{byte_eq}
use Rattle.script_lang.specs.declared.programs.Program.{Program}
use Rattle.script_lang.specs.declared.command_line.Options.{Options}
use Rattle.script_lang.specs.declared.command_line.Workload.{Workload}
use Rattle.script_lang.specs.declared.command_line.WordsFault.{WordsFault}
use Rattle.script_lang.specs.declared.command_line.WordsFault.TheVariants as fault
use Rattle.script_lang.specs.CommandLine.{is_folder, store_words, store_fits, has_workloads, AreLocations, SaysRest, SaysWords, Stops, IsBadAt, IsAccepted, IsAcceptedRest, IsWordsFault, first_is, first_folder, moved_by}
use Rattle.script_lang.proofs.LocationLaws.{nothing}
use Rattle.script_lang.proofs.PlaceLaws.{behind_front, without_front, first_passes}
use Rattle.script_lang.proofs.WorkloadLaws.{workload_mark, same_bytes, same_self, only_locations}

abbrev pub store_mark : Text
store_mark = codes "--store"

-- a fact of two values is one of those that they equal
pub at_both : {A B : Type 0} {a b : A} {x y : B} → (P : A → B → Type 0) → a ≡ b → x ≡ y → P a x → P b y
at_both {b = b} {x = x} P ab xy p = subst (P b) xy (subst (λ z. P z x) ab p)

-- what stands behind the first word
pub record Stored (in_force : Bool) (behind : List Text) : Type 0 where
  pub folder : Text
  pub rest : List Text
  pub parts : behind ≡ folder ∷ rest
  pub fits : is_folder folder ≡ true
  pub accepted : IsAcceptedRest in_force rest

-- no rest begins with the word
no_rest : (in_force : Bool) (words behind : List Text) → words ≡ store_mark ∷ behind → IsAcceptedRest in_force words → ⊥
no_rest in_force words behind same (None, (locations, says)) =
    let front : says.front ≡ [] = says.front_says in
    let whole : locations ≡ store_mark ∷ behind = sym (says.parts ∙ ap (λ f. f ++ locations) front) ∙ same in
    no_location locations whole says.are
  where
    no_location : (locations : List Text) → locations ≡ store_mark ∷ behind → AreLocations 0 locations → ⊥
    no_location [] whole are = cc
    no_location (a ∷ more) whole are =
        let first : a ≡ store_mark = cc in
        true≢false (sym are.spelled.0 ∙ ap is_location first)
no_rest in_force words behind same (Some workload, (locations, says)) =
    let is = says.front_says in
    let whole : store_mark ∷ behind ≡ workload_mark ∷ is.seed ∷ codes "--count" ∷ is.count ∷ locations = sym same ∙ (says.parts ∙ ap (λ f. f ++ locations) is.parts) in
    let marks : store_mark ≡ workload_mark = cc in
    true≢false (sym (same_self store_mark) ∙ ap (byte_eq store_mark) marks)

stored_by : (program : Program) (options : Options) (behind rest : List Text) (folder : Option Text) → store_mark ∷ behind ≡ store_words folder ++ rest → IsTrue (store_fits options.store folder)
    → IsAcceptedRest (has_workloads program options) rest → Stored (has_workloads program options) behind
stored_by program options behind rest None words fits accepted = absurd (no_rest (has_workloads program options) rest behind (sym words) accepted)
stored_by program options behind rest (Some folder) words fits accepted =
    record { folder = folder; rest = rest; parts = cc; fits = second options.store (is_folder folder) fits; accepted = accepted }
  where
    second : (a b : Bool) → (a && b) ≡ true → b ≡ true
    second true b h = h
    second false b h = absurd (true≢false (sym h))

pub stored_of : (program : Program) (options : Options) (behind : List Text) → IsAccepted program options (store_mark ∷ behind) → Stored (has_workloads program options) behind
stored_of program options behind (says, is) = stored_by program options behind is.rest says.folder is.parts is.store (says.workload, (says.locations, is.rest_says))

pub stored_to : (program : Program) (options : Options) (behind : List Text) → options.store ≡ true → Stored (has_workloads program options) behind → IsAccepted program options (store_mark ∷ behind)
stored_to program options behind allowed s = (
  record { folder = Some s.folder; workload = s.accepted.0; locations = s.accepted.1.0 },
  record { rest = s.rest; parts = ap (λ b. store_mark ∷ b) s.parts; store = rw (allowed, s.fits) refl; rest_says = s.accepted.1.1 },
)

-- ---- where such words stop

bad_folder_behind : (program : Program) (options : Options) (behind : List Text) → options.store ≡ true → first_folder behind ≡ None → IsBadAt (IsAccepted program options) (store_mark ∷ behind) 2
bad_folder_behind program options behind allowed none = record {
  before = store_mark ∷ [];
  behind = behind;
  split = refl;
  count = refl;
  rest = codes "a" ∷ [];
  accepted = stored_to program options (codes "a" ∷ []) allowed (record { folder = codes "a"; rest = []; parts = refl; fits = refl; accepted = only_locations (has_workloads program options) [] nothing });
  stops = stops_folder behind none;
}
  where
    stops_folder : (behind : List Text) → first_folder behind ≡ None → Stops (IsAccepted program options) (store_mark ∷ []) behind
    stops_folder [] none = λ h. let s = stored_of program options [] h in let parts = s.parts in cc
    stops_folder (word ∷ more) none = λ rest h.
        let s = stored_of program options (word ∷ rest) h in
        let parts = s.parts in
        let same : word ≡ s.folder = cc in
        let fits : is_folder word ≡ true = ap is_folder same ∙ s.fits in
        let some : Some word ≡ None = rw fits at none in
        cc

pub bad_folder : (program : Program) (options : Options) (words : List Text) → options.store ≡ true → first_is store_mark words ≡ true → first_folder (drop 1 words) ≡ None → IsBadAt (IsAccepted program options) words 2
bad_folder program options [] allowed first none = absurd (true≢false (sym first))
bad_folder program options (a ∷ more) allowed first none = subst (λ m. IsBadAt (IsAccepted program options) (m ∷ more) 2) (sym (same_bytes a store_mark first)) (bad_folder_behind program options more allowed none)

-- the words, where they begin with a store
pub record BeginsStored (words : List Text) (folder : Text) : Type 0 where
  pub whole : words ≡ store_mark ∷ folder ∷ drop 2 words
  pub fits : is_folder folder ≡ true

pub begins_stored : (words : List Text) (folder : Text) → first_is store_mark words ≡ true → first_folder (drop 1 words) ≡ Some folder → BeginsStored words folder
begins_stored [] folder first some = absurd (true≢false (sym first))
begins_stored (a ∷ []) folder first some = absurd cc
begins_stored (a ∷ b ∷ more) folder first some =
    let one = same_bytes a store_mark first in
    elim (cases_Bool (is_folder b)) [
      | inl fits ↦
          let same : Some b ≡ Some folder = rw fits at some in
          let two : b ≡ folder = cc in
          record { whole = rw (one, two) refl; fits = sym (ap is_folder two) ∙ fits }
      | inr other ↦ absurd (let none : None ≡ Some folder = rw other at some in cc)
    ]

pub bad_rest : (program : Program) (options : Options) (words : List Text) (folder : Text) (place : ℕ) → options.store ≡ true → BeginsStored words folder
    → IsBadAt (IsAcceptedRest (has_workloads program options)) (drop 2 words) place → IsBadAt (IsAccepted program options) words (2 + place)
bad_rest program options words folder place allowed begins bad =
    subst (λ w. IsBadAt (IsAccepted program options) w (2 + place)) (sym begins.whole)
    (behind_front (IsAccepted program options) (IsAcceptedRest (has_workloads program options)) (store_mark ∷ folder ∷ []) (drop 2 words) place
    (λ rest h. stored_to program options (folder ∷ rest) allowed (record { folder = folder; rest = rest; parts = refl; fits = begins.fits; accepted = h }))
    (λ rest h.
    let s = stored_of program options (folder ∷ rest) h in
    let parts = s.parts in
    let same : s.rest ≡ rest = cc in
    subst (IsAcceptedRest (has_workloads program options)) same s.accepted)
    bad)

pub fault_rest : (program : Program) (options : Options) (words : List Text) (folder : Text) (fault : WordsFault) → options.store ≡ true → BeginsStored words folder
    → IsWordsFault (IsAcceptedRest (has_workloads program options)) (drop 2 words) fault → IsWordsFault (IsAccepted program options) words (moved_by 2 fault)
fault_rest program options words folder (fault.At place) allowed begins bad = bad_rest program options words folder place allowed begins bad
fault_rest program options words folder fault.Memory allowed begins bad = tt

pub with_store : (program : Program) (options : Options) (words : List Text) (folder : Text) (workload : Option Workload) (locations : List Text) → options.store ≡ true → BeginsStored words folder
    → SaysRest (has_workloads program options) (drop 2 words) workload locations → SaysWords program options words (record { folder = Some folder; workload = workload; locations = locations })
with_store program options words folder workload locations allowed begins says = record { rest = drop 2 words; parts = begins.whole; store = rw (allowed, begins.fits) refl; rest_says = says }

-- ---- without a store

-- where the option is in force, and the first word is it
abbrev pub begins : Bool → Text → Bool
begins in_force word = in_force && byte_eq word store_mark

pub rest_alone : (program : Program) (options : Options) (words : List Text) → IsAcceptedRest (has_workloads program options) words → IsAccepted program options words
rest_alone program options words (workload, (locations, says)) = (record { folder = None; workload = workload; locations = locations }, record { rest = words; parts = refl; store = refl; rest_says = says })

alone_by : (program : Program) (options : Options) (words rest : List Text) (folder : Option Text) → first_passes (begins options.store) words ≡ false → words ≡ store_words folder ++ rest → IsTrue (store_fits options.store folder)
    → IsAcceptedRest (has_workloads program options) rest → IsAcceptedRest (has_workloads program options) words
alone_by program options words rest None first whole fits accepted = subst (IsAcceptedRest (has_workloads program options)) (sym whole) accepted
alone_by program options words rest (Some folder) first whole fits accepted =
    let at : first_passes (begins options.store) (store_mark ∷ folder ∷ rest) ≡ false = subst (λ w. first_passes (begins options.store) w ≡ false) whole first in
    absurd (true≢false (sym (rw (first_of options.store (is_folder folder) fits, same_self store_mark) refl) ∙ at))
  where
    first_of : (a b : Bool) → (a && b) ≡ true → a ≡ true
    first_of true b h = refl
    first_of false b h = absurd (true≢false (sym h))

alone_of : (program : Program) (options : Options) (words : List Text) → first_passes (begins options.store) words ≡ false → IsAccepted program options words → IsAcceptedRest (has_workloads program options) words
alone_of program options words first (says, is) = alone_by program options words is.rest says.folder first is.parts is.store (says.workload, (says.locations, is.rest_says))

pub bad_without : (program : Program) (options : Options) (words : List Text) (place : ℕ) → (options.store && first_is store_mark words) ≡ false → IsBadAt (IsAcceptedRest (has_workloads program options)) words place
    → IsBadAt (IsAccepted program options) words place
bad_without program options words place first bad =
    without_front (IsAccepted program options) (IsAcceptedRest (has_workloads program options)) (begins options.store) words place (rest_alone program options) (alone_of program options) (first_fails options.store words first) bad
  where
    first_fails : (in_force : Bool) (words : List Text) → (in_force && first_is store_mark words) ≡ false → first_passes (begins in_force) words ≡ false
    first_fails in_force [] first = refl
    first_fails in_force (word ∷ more) first = first

pub fault_without : (program : Program) (options : Options) (words : List Text) (fault : WordsFault) → (options.store && first_is store_mark words) ≡ false → IsWordsFault (IsAcceptedRest (has_workloads program options)) words fault
    → IsWordsFault (IsAccepted program options) words fault
fault_without program options words (fault.At place) first bad = bad_without program options words place first bad
fault_without program options words fault.Memory first bad = tt
