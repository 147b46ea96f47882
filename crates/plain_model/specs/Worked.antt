-- Values of the worked examples: the map m of small numbers, at the shard s/a.
use Rattle.std.specs.Prelude.{ℕ, [], ◌∷◌, Option, Some, None, codes}
use Rattle.cell_world.specs.Texts.{Text}
use Rattle.cell_world.specs.declared.operations.Piece.{Piece}
use Rattle.cell_world.specs.declared.cells.LocalRow.{LocalRow}
use Rattle.cell_world.specs.declared.cells.Mark.TheVariants.{Plain}
use Rattle.cell_world.specs.declared.cells.Status.{Status}
use Rattle.cell_world.specs.declared.cells.Token.{Token}
use Rattle.cell_world.specs.declared.spans.High.TheVariants.{At, Max}
use Rattle.cell_world.specs.declared.spans.Span.{Span}
use Rattle.cell_world.specs.declared.spans.Span.TheVariants.{Range}
use Rattle.plain_model.specs.declared.replies.Label.{Label}
use Rattle.plain_model.specs.declared.replies.Difference.{Difference}

-- the normal form of a number below 256 of the type int
abbrev pub small_key : ℕ → Text
small_key n = 128 ∷ 0 ∷ 0 ∷ n ∷ []

abbrev pub small_range : ℕ → ℕ → Span
small_range low high = Range (small_key low) (At (small_key high))

-- from a small number on
abbrev pub range_from : ℕ → Span
range_from low = Range (small_key low) Max

-- a mapping of the map m at s/a, without a token
abbrev pub mapping_over : Span → Status → Piece
mapping_over span status = record { map = codes "m"; span = span; location = codes "s/a"; status = status; token = None }

abbrev pub mapping_with : Span → Status → Token → Piece
mapping_with span status token = record (mapping_over span status) { token = Some token }

-- a plain local row of the map m
abbrev pub local_row_over : Span → Status → LocalRow
local_row_over span status = record { map = codes "m"; span = span; number = 0; status = status; mark = Plain }

abbrev pub difference_over : Span → Label → Option Status → Option Status → Difference
difference_over span label global shard = record { span = span; label = label; global = global; shard = shard }
