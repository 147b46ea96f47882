-- The mapping that a command's words name, and the checks that all mapping commands begin with.
use Rattle.std.specs.Prelude.{◌≡◌, ℕ, Bool, true, false, not, List, [], ◌∷◌, ◌++◌, Option, Some, None, Result, Ok, Err}
use Rattle.cell_world.specs.Texts.{Text}
use Rattle.cell_world.specs.Images.{Image, global}
use Rattle.cell_world.specs.Meaning.{meaning}
use Rattle.cell_world.specs.Plain.{PlainState, Connections}
use Rattle.cell_world.specs.Sound.{Sound}
use Rattle.cell_world.specs.declared.cells.MapKind.{MapKind}
use Rattle.cell_world.specs.declared.operations.Piece.{Piece}
use Rattle.global_tables.specs.Known.{Known, known_of}
use Rattle.plain_model.specs.declared.commands.Command.{Command}
use Rattle.plain_model.specs.declared.plans.PlanStop.{PlanStop}
use Rattle.plain_model.specs.declared.plans.PlanStop.TheVariants as stop
use Rattle.plain_model.specs.declared.replies.Refusal.{Refusal}
use Rattle.plain_model.specs.Refusing.{Check, refusal, first_refusal, no_map, wrong_kind, bad_key, no_mapping, detached, unresolved, key_in, mapping_of, location_of_mapping, same_kind}
use Rattle.plain_model.specs.ShortCommands.{standing_with, is_short_refusal}
use Rattle.mapping_plans.specs.declared.finding.Owned.{Owned}

-- ---- checks

-- the map stands, and is of the kind that is wanted, if one is
abbrev pub kind_checks : PlainState → Text → Option MapKind → List Check
kind_checks s name None = no_map s name ∷ []
kind_checks s name (Some wanted) = no_map s name ∷ wrong_kind s name wanted ∷ []

-- the word is a key, which has an owner, at an attached site
abbrev pub owner_checks : PlainState → Option Text → Option Piece → List Check
owner_checks s key piece = bad_key key ∷ no_mapping piece ∷ detached s (location_of_mapping piece) ∷ unresolved s (location_of_mapping piece) ∷ []

-- what each mapping command checks first
abbrev pub first_checks : PlainState → Option MapKind → Text → Text → List Check
first_checks s wanted name text = kind_checks s name wanted ++ owner_checks s (key_in s name text) (mapping_of s name text)

-- a kind is wanted, and this is the other one
abbrev pub is_other_kind : Option MapKind → MapKind → Bool
is_other_kind None kind = false
is_other_kind (Some wanted) kind = not (same_kind wanted kind)

-- the site is Detached or Suspect
abbrev pub away_checks : PlainState → Text → List Check
away_checks s location = detached s (Some location) ∷ unresolved s (Some location) ∷ []

-- ---- the key that the word is

-- The key, where the map stands and is of the kind that is wanted; or the refusal, whatever is checked after these.
abbrev pub ReadsKey : Option MapKind → Text → Text → Result Text Refusal → PlainState → Type 0
ReadsKey wanted name text (Ok key) s = (first_refusal (kind_checks s name wanted) ≡ None) × (key_in s name text ≡ Some key)
ReadsKey wanted name text (Err r) s = (piece : Option Piece) → first_refusal (kind_checks s name wanted ++ owner_checks s (key_in s name text) piece) ≡ Some r

-- ---- the mapping of the key

-- The key is what the word is, the mapping is its owner, and none of the first checks holds.
pub record IsNamed (wanted : Option MapKind) (name text : Text) (key : Text) (piece : Piece) (s : PlainState) : Type 0 where
  pub read : key_in s name text ≡ Some key
  pub owned : mapping_of s name text ≡ Some piece
  pub passes : first_refusal (first_checks s wanted name text) ≡ None

-- It was found; or the first check that holds refuses.
abbrev pub FindsIn : Option MapKind → Text → Text → Result Owned PlanStop → PlainState → Type 0
FindsIn wanted name text (Ok owned) s = IsNamed wanted name text owned.key owned.piece s
FindsIn wanted name text (Err (stop.Refused r)) s = first_refusal (first_checks s wanted name text) ≡ Some r
FindsIn wanted name text (Err stop.Store) s = Unit {0}
FindsIn wanted name text (Err stop.Memory) s = Unit {0}

-- It is so where the image is sound and the copy of the tables is what the global cells say.
abbrev pub FindsWith : Known → Option MapKind → Text → Text → Result Owned PlanStop → Image → Type 0
FindsWith known wanted name text result image = Sound image → known ≡ known_of (global image) → FindsIn wanted name text result (meaning image)

-- a refusal is one word
abbrev pub IsShortStop : PlanStop → Type 0
IsShortStop (stop.Refused r) = is_short_refusal r ≡ true
IsShortStop stop.Store = Unit {0}
IsShortStop stop.Memory = Unit {0}

-- ---- a command that names a mapping

-- After the first checks the command has these others, by the key and the mapping.
abbrev pub ChecksAfter : Command → Option MapKind → Text → Text → (PlainState → Option Text → Option Piece → List Check) → Type 0
ChecksAfter c wanted name text more = (image : Image) (session : ℕ) (connections : Connections) → refusal (standing_with image connections) session c
    ≡ first_refusal (first_checks (meaning image) wanted name text ++ more (meaning image) (key_in (meaning image) name text) (mapping_of (meaning image) name text))
