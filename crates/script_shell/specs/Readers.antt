-- Readers that tell what is left of them.
use Rattle.std.specs.Prelude.{◌≡◌, ℕ, List, Option, Some, None}
use Rattle.std.proofs.Common.{subst}

-- what is told is told
abbrev pub IfUntold : Type 0 → Option (List ℕ) → Type 0
IfUntold P None = P
IfUntold P (Some bytes) = Unit {0}

pub is_told : (P : Type 0) (bytes : List ℕ) → Some bytes ≡ None → P
is_told P bytes untold = subst (λ told. IfUntold P told) untold tt
