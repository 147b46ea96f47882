-- What of lawful is used where an operation meets the mappings: the law of its shape, and that each mapping that overlaps its hull is one of its olds.
use Rattle.std.specs.Prelude.{◌≡◌, ℕ, ◌<◌, List, IsTrue}
use Rattle.cell_world.specs.Texts.{Text}
use Rattle.cell_world.specs.Lists.{IsOneOf}
use Rattle.cell_world.specs.Keys.{overlaps}
use Rattle.cell_world.specs.Spelled.{listed}
use Rattle.cell_world.specs.Stores.{Maps, Mappings, Log}
use Rattle.cell_world.specs.Sound.{HasPiece, HasLog, IsSpanOf}
use Rattle.cell_world.specs.declared.operations.Piece.{Piece}
use Rattle.cell_world.specs.declared.operations.Op.{Op}
use Rattle.cell_world.specs.declared.spans.Span.{Span}
use Rattle.image_laws.specs.Shapes.{IsShaped}

-- Olds and news of a map, with this hull, fit the mappings. It takes lists and a hull, so it says of a short change of one mapping what it says of an operation.
pub record IsFit (maps : Maps) (mappings : Mappings) (name : Text) (hull : Span) (olds news : List Piece) : Type 0 where
  -- they have the law of the shapes
  pub shaped : IsShaped hull olds news
  -- the olds stand
  pub stand : (o : Piece) → IsOneOf olds o → HasPiece mappings o
  -- olds and news are of the map
  pub old_map : (o : Piece) → IsOneOf olds o → o.map ≡ name
  pub new_map : (n : Piece) → IsOneOf news n → n.map ≡ name
  -- the news are of its kind and key type
  pub new_spans : (n : Piece) → IsOneOf news n → IsSpanOf maps n.map n.span
  -- a mapping of the map that overlaps the hull is one of the olds
  pub all_olds : (q : Piece) → HasPiece mappings q → q.map ≡ name → IsTrue (overlaps q.span hull) → IsOneOf olds q

-- so of an operation
abbrev pub Fits : Maps → Mappings → Op → Type 0
Fits maps mappings op = IsFit maps mappings op.map op.hull (listed op.olds) (listed op.news)

-- the logged operations fit, and have numbers and hulls of their own
pub record AreLogged (maps : Maps) (mappings : Mappings) (log : Log) (next : ℕ) : Type 0 where
  -- each fits
  pub fits : (op : Op) → HasLog log op → Fits maps mappings op
  -- its number is below the next one
  pub numbered : (op : Op) → HasLog log op → op.number < next
  -- two of one map whose hulls overlap are one
  pub hulls : (a b : Op) → HasLog log a → HasLog log b → a.map ≡ b.map → IsTrue (overlaps a.hull b.hull) → a ≡ b
