-- The state machines of decimal texts.
use Rattle.std.specs.Prelude.{ℕ, ◌==◌, Bool, true, false, List, [], ◌∷◌, Option, Some, None, if◌then◌else◌, IsTrue, refl}
use Rattle.text_scan.specs.Walks.{accepts}
use Rattle.cell_world.specs.Texts.{is_digit}
use Rattle.key_space.specs.declared.decimals.Signed.{Signed}
use Rattle.key_space.specs.declared.decimals.Signed.TheVariants as s
use Rattle.key_space.specs.declared.decimals.Unsigned.{Unsigned}
use Rattle.key_space.specs.declared.decimals.Unsigned.TheVariants as u

-- ---- with a sign

abbrev pub signed_next : Signed → ℕ → Option Signed
signed_next s.Start b = if b == 45 then Some s.Minus else if b == 48 then Some s.Zero else if is_digit b then Some s.Digits else None
signed_next s.Minus b = if b == 48 then None else if is_digit b then Some s.Digits else None
signed_next s.Zero b = None
signed_next s.Digits b = if is_digit b then Some s.Digits else None

abbrev pub signed_end : Signed → Bool
signed_end s.Start = false
signed_end s.Minus = false
signed_end s.Zero = true
signed_end s.Digits = true

pub signed_live : (state : Signed) → (more : List ℕ) × IsTrue (accepts signed_next signed_end (Some state) more)
signed_live s.Start = (48 ∷ [], refl)
signed_live s.Minus = (49 ∷ [], refl)
signed_live s.Zero = ([], refl)
signed_live s.Digits = ([], refl)

-- ---- without

abbrev pub unsigned_next : Unsigned → ℕ → Option Unsigned
unsigned_next u.Start b = if b == 48 then Some u.Zero else if is_digit b then Some u.Digits else None
unsigned_next u.Zero b = None
unsigned_next u.Digits b = if is_digit b then Some u.Digits else None

abbrev pub unsigned_end : Unsigned → Bool
unsigned_end u.Start = false
unsigned_end u.Zero = true
unsigned_end u.Digits = true

pub unsigned_live : (state : Unsigned) → (more : List ℕ) × IsTrue (accepts unsigned_next unsigned_end (Some state) more)
unsigned_live u.Start = (48 ∷ [], refl)
unsigned_live u.Zero = ([], refl)
unsigned_live u.Digits = ([], refl)
