-- Lists of bytes.
use Rattle.std.proofs.Common.{arith, ℕ, List, [], ◌∷◌, IsTrue, Fits, w8, suc, refl}
use Rattle.std.proofs.Math.ListN.{get_or}
use Rattle.cell_world.specs.Texts.{are_bytes}

-- A list whose every number fits eight bits is one of bytes.
pub bytes_fit : (xs : List ℕ) → ((i : ℕ) → Fits w8 (get_or xs i 0)) → IsTrue (are_bytes xs)
bytes_fit [] fits = refl
bytes_fit (x ∷ xs) fits = grind (arith, fits 0, bytes_fit xs (λ i. fits (suc i)))
