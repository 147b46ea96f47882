-- The words of the command line: what they say, and the place of the first that is bad.
use Rattle.std.specs.Prelude.{◌≡◌, ℕ, ◌+◌, ◌≤◌, Bool, true, false, not, ◌&&◌, ◌==◌, nat_lt, List, [], ◌∷◌, ◌++◌, length, Option, Some, None, if◌then◌else◌, codes, IsTrue}
use Rattle.std.specs.List.{IsDistinct, AllByRecursion}
use Rattle.cell_world.specs.Texts.{Text, is_location}
use Rattle.cell_world.specs.ByteOrder.{byte_eq}
use Rattle.cell_world.specs.Keys.{same, is_among}
use Rattle.cell_world.specs.declared.limits.TheConstants.{MOST_LOCATIONS}
use Rattle.script_lang.specs.declared.programs.Program.{Program}
use Rattle.script_lang.specs.declared.programs.Program.TheVariants.{Ctl, Mux}
use Rattle.script_lang.specs.declared.command_line.Options.{Options}
use Rattle.script_lang.specs.declared.command_line.Workload.{Workload}
use Rattle.script_lang.specs.declared.command_line.Words.{Words}
use Rattle.script_lang.specs.declared.command_line.WordsFault.{WordsFault}
use Rattle.script_lang.specs.declared.command_line.WordsFault.TheVariants as fault
use Rattle.script_lang.specs.Spelling.{number_within, last_64}

-- the options that are built so far: that of a store
abbrev pub options_built : Options
options_built = record { store = true; workload = false }

-- ---- the store: `--store FOLDER`

-- 1 to 255 bytes, the first of them not `-`
abbrev pub is_folder : Text → Bool
is_folder [] = false
is_folder (b ∷ bs) = not (b == 45) && nat_lt (length bs) 255

abbrev pub store_words : Option Text → List Text
store_words None = []
store_words (Some folder) = codes "--store" ∷ folder ∷ []

-- none may stand; one may where the option is in force
abbrev pub store_fits : Bool → Option Text → Bool
store_fits in_force None = true
store_fits in_force (Some folder) = in_force && is_folder folder

-- ---- the workload: `--workload SEED --count COUNT`, in `shardctl` alone

abbrev pub has_workloads : Program → Options → Bool
has_workloads Ctl options = options.workload
has_workloads Mux options = false

-- the words of a workload
pub record IsWorkload (in_force : Bool) (words : List Text) (workload : Workload) : Type 0 where
  -- the option is in force
  pub allowed : IsTrue in_force
  -- the words of its numbers
  pub seed : Text
  pub count : Text
  pub parts : words ≡ codes "--workload" ∷ seed ∷ codes "--count" ∷ count ∷ []
  -- SEED is a number up to 2^64 - 1
  pub seed_is : number_within 0 last_64 seed ≡ Some workload.seed
  -- COUNT is one from 1 to 2,000
  pub count_is : number_within 1 2000 count ≡ Some workload.count

-- the words of a workload, or no words
abbrev pub SaysWorkload : Bool → List Text → Option Workload → Type 0
SaysWorkload in_force words None = words ≡ []
SaysWorkload in_force words (Some workload) = IsWorkload in_force words workload

-- ---- the locations

-- the words are locations, at least so many
pub record AreLocations (least : ℕ) (locations : List Text) : Type 0 where
  -- each is one by its grammar
  pub spelled : AllByRecursion (λ location. IsTrue (is_location location)) locations
  -- none is there twice
  pub distinct : IsDistinct same locations
  -- there are neither too few nor too many
  pub enough : least ≤ length locations
  pub few : length locations ≤ MOST_LOCATIONS

-- a workload moves rows from one location to another
abbrev pub least_locations : Option Workload → ℕ
least_locations None = 0
least_locations (Some workload) = 2

-- the word may stand as a location behind these
abbrev pub can_follow : List Text → Text → Bool
can_follow locations word = nat_lt (length locations) MOST_LOCATIONS && (is_location word && not (is_among locations word))

-- ---- all words

-- what stands behind the store: a workload or none, and then locations
pub record SaysRest (in_force : Bool) (words : List Text) (workload : Option Workload) (locations : List Text) : Type 0 where
  -- the words before the locations
  pub front : List Text
  pub parts : words ≡ front ++ locations
  pub front_says : SaysWorkload in_force front workload
  -- and the locations
  pub are : AreLocations (least_locations workload) locations

-- The words are accepted where these options are in force, and this is what they say.
pub record SaysWords (program : Program) (options : Options) (words : List Text) (says : Words) : Type 0 where
  -- the words behind the store
  pub rest : List Text
  pub parts : words ≡ store_words says.folder ++ rest
  pub store : IsTrue (store_fits options.store says.folder)
  pub rest_says : SaysRest (has_workloads program options) rest says.workload says.locations

-- ---- places

-- No accepted list begins with the first words and the next one behind them. Where none is behind them they are no accepted list.
abbrev pub Stops : (List Text → Type 0) → List Text → List Text → Type 0
Stops Accepted before [] = Accepted before → ⊥
Stops Accepted before (word ∷ more) = (rest : List Text) → Accepted (before ++ word ∷ rest) → ⊥

-- The word of this number, counted from 1, is the first at which no accepted list goes on; or it is one more than there are, and the list ends too early.
pub record IsBadAt (Accepted : List Text → Type 0) (words : List Text) (place : ℕ) : Type 0 where
  -- the words before it, and those from it on
  pub before : List Text
  pub behind : List Text
  pub split : words ≡ before ++ behind
  pub count : place ≡ length before + 1
  -- an accepted list begins with the words before it
  pub rest : List Text
  pub accepted : Accepted (before ++ rest)
  -- none begins with these and the word at the place
  pub stops : Stops Accepted before behind

-- the lists that are accepted: whole, and what may stand behind a store
abbrev pub IsAccepted : Program → Options → List Text → Type 0
IsAccepted program options words = (says : Words) × SaysWords program options words says

abbrev pub IsAcceptedRest : Bool → List Text → Type 0
IsAcceptedRest in_force words = (workload : Option Workload) × ((locations : List Text) × SaysRest in_force words workload locations)

-- why words weren't read
abbrev pub IsWordsFault : (List Text → Type 0) → List Text → WordsFault → Type 0
IsWordsFault Accepted words (fault.At place) = IsBadAt Accepted words place
IsWordsFault Accepted words fault.Memory = Unit {0}

-- the place is among the first so many, or isn't told
abbrev pub IsNear : ℕ → WordsFault → Type 0
IsNear most (fault.At place) = place ≤ most
IsNear most fault.Memory = Unit {0}

-- ---- reading from the front

-- the first word is this one
abbrev pub first_is : Text → List Text → Bool
first_is wanted [] = false
first_is wanted (word ∷ more) = byte_eq word wanted

-- the number that the first word is
abbrev pub first_number : ℕ → ℕ → List Text → Option ℕ
first_number least most [] = None
first_number least most (word ∷ more) = number_within least most word

-- the folder that the first word is
abbrev pub first_folder : List Text → Option Text
first_folder [] = None
first_folder (word ∷ more) = if is_folder word then Some word else None

-- the fault of a list that begins so many words earlier
abbrev pub moved_by : ℕ → WordsFault → WordsFault
moved_by count (fault.At place) = fault.At (count + place)
moved_by count fault.Memory = fault.Memory
