-- What is asked for by `add` and `addpoint`: a new mapping.
use Rattle.std.specs.Prelude.{◌≡◌, ℕ, List, [], ◌∷◌, ◌++◌, Option, Some, None, Result, Ok, Err, option_map, if◌then◌else◌}
use Rattle.cell_world.specs.Texts.{Text}
use Rattle.cell_world.specs.Images.{Image, global}
use Rattle.cell_world.specs.Keys.{before}
use Rattle.cell_world.specs.KeyForms.{normal_of}
use Rattle.cell_world.specs.Plain.{PlainState, Connections}
use Rattle.cell_world.specs.Sound.{Sound, IsSpanOf}
use Rattle.cell_world.specs.declared.cells.KeyType.{KeyType}
use Rattle.cell_world.specs.declared.cells.Status.TheVariants.{Online}
use Rattle.cell_world.specs.declared.operations.Extra.TheVariants as extra
use Rattle.cell_world.specs.declared.operations.Op.{Op}
use Rattle.cell_world.specs.declared.operations.Piece.{Piece}
use Rattle.cell_world.specs.declared.spans.High.{High}
use Rattle.cell_world.specs.declared.spans.High.TheVariants as high
use Rattle.cell_world.specs.declared.spans.Span.{Span}
use Rattle.cell_world.specs.declared.spans.Span.TheVariants.{Range, Point}
use Rattle.global_tables.specs.Known.{Known, known_of}
use Rattle.plain_model.specs.declared.commands.Command.{Command}
use Rattle.plain_model.specs.declared.commands.HighText.{HighText}
use Rattle.plain_model.specs.declared.commands.HighText.TheVariants as word
use Rattle.plain_model.specs.declared.plans.Plan.{Plan}
use Rattle.plain_model.specs.declared.plans.PlanStop.{PlanStop}
use Rattle.plain_model.specs.declared.replies.Refusal.{Refusal}
use Rattle.plain_model.specs.declared.replies.Refusal.TheVariants as refused
use Rattle.plain_model.specs.Refusing.{Check, first_refusal, refusal, no_location, not_a_shard, detached, unresolved, overlap}
use Rattle.plain_model.specs.Steps.{exchange_of}
use Rattle.plain_model.specs.ShortCommands.{standing_with}
use Rattle.map_ops.specs.Planning.{RefusesOf, Plans}

-- ---- spans of words

-- the end that a word is, in a map of this key type
abbrev pub end_in : KeyType → HighText → Option High
end_in type (word.At text) = option_map high.At (normal_of type text)
end_in type word.Max = Some high.Max

-- the range of two words
abbrev pub range_by : Option Text → Option High → Result Span Refusal
range_by (Some low) (Some end) = if before low end then Ok (Range low end) else Err refused.BadRange
range_by low end = Err refused.BadKey

-- the point of a word
abbrev pub point_by : Option Text → Result Span Refusal
point_by (Some key) = Ok (Point key)
point_by None = Err refused.BadKey

-- ---- the new mapping

-- it is online, and has no token
abbrev pub new_piece : Text → Span → Text → Piece
new_piece name span location = record { map = name; span = span; location = location; status = Online; token = None }

-- the operation that adds it, without a number yet
abbrev pub add_op : Text → Span → Text → Op
add_op name span location = record {
  number = 0;
  map = name;
  hull = span;
  olds = record { one = None; two = None };
  news = record { one = Some (new_piece name span location); two = None };
  extra = extra.None;
}

-- the checks of its site
abbrev pub site_checks : PlainState → Text → Text → List Check
site_checks s name location = no_location s location ∷ not_a_shard s name location ∷ detached s (Some location) ∷ unresolved s (Some location) ∷ []

-- and of its span
abbrev pub new_checks : PlainState → Text → Span → Text → List Check
new_checks s name span location = site_checks s name location ++ overlap s name (Some span) ∷ []

-- ---- a command that asks for one

-- The command asks for this mapping, and what is left of its checks are those of the site and of the span.
pub record AsksNew (c : Command) (name : Text) (span : Span) (location : Text) (image : Image) : Type 0 where
  -- the map stands, and the span is of its kind and key type
  pub of_map : IsSpanOf (global image).maps name span
  -- it is refused as these checks say
  pub decides : (session : ℕ) (connections : Connections) → refusal (standing_with image connections) session c ≡ first_refusal (new_checks (standing_with image connections) name span location)
  -- and its exchange is the one new mapping
  pub makes : (connections : Connections) → exchange_of (standing_with image connections) c ≡ ([], new_piece name span location ∷ [])

-- What the words of a command come to: the span of the mapping that it asks for, or its refusal.
abbrev pub ReadsSpan : Known → Command → Text → Text → Result Span Refusal → Type 0
ReadsSpan known c name location (Ok span) = (image : Image) → known ≡ known_of (global image) → AsksNew c name span location image
ReadsSpan known c name location (Err r) = RefusesOf known c (Some r)

-- The refusal is the first of the checks of site and span that holds.
abbrev pub RefusesNew : Known → Text → Span → Text → Option Refusal → Image → Type 0
RefusesNew known name span location refused image = Sound image → known ≡ known_of (global image) → (connections : Connections) → refused ≡ first_refusal (new_checks (standing_with image connections) name span location)

-- The plan is that of each command that asks for the mapping.
abbrev pub PlansNew : Known → Text → Span → Text → Result Plan PlanStop → Image → Type 0
PlansNew known name span location result image = Sound image → known ≡ known_of (global image) → (c : Command) → AsksNew c name span location image → Plans c result image
