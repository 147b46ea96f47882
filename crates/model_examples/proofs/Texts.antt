-- How texts that differ are told apart.
use Rattle.std.proofs.Common.{◌≡◌, Bool, true, false, ℕ}
use Rattle.std.specs.Prelude.{◌==◌, slice_get}
use Rattle.cell_world.specs.Texts.{Text}
use Rattle.plain_model.specs.Refusing.{if_there}
use Rattle.model_examples.proofs.Lookups.{differ}

-- the text has this byte at this place, counted from 0
abbrev pub has_byte : ℕ → ℕ → Text → Bool
has_byte place byte text = if_there (λ b. b == byte) (slice_get text place)

-- two texts of which one has a byte at a place and the other hasn't
pub differ_at : (place byte : ℕ) (a b : Text) → a ≡ b → has_byte place byte a ≡ true → has_byte place byte b ≡ false → ⊥
differ_at place byte = differ (has_byte place byte)
