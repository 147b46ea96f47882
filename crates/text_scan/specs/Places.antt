-- Where a text leaves a grammar.
use Rattle.std.specs.Prelude.{◌≡◌, ℕ, ◌+◌, ◌<◌, ◌≤◌, Bool, List, ◌++◌, length, take, IsTrue}

-- ---- a grammar says which byte lists are texts

-- Some text of the grammar begins with these bytes.
abbrev pub BeginsOne : (List ℕ → Type 0) → List ℕ → Type 0
BeginsOne IsText front = (more : List ℕ) × IsText (front ++ more)

-- The place, counted from 0, of the first byte at which no text of the grammar goes on, or the length of a text that ends too early.
pub record Leaves (IsText : List ℕ → Type 0) (text : List ℕ) (place : ℕ) : Type 0 where
  -- the place is within the text, or its end
  pub within : place ≤ length text
  -- the bytes before it go on to some text of the grammar
  pub before : BeginsOne IsText (take place text)
  -- with the byte at the place they don't
  pub after : place < length text → BeginsOne IsText (take (place + 1) text) → ⊥
  -- at the end, the bytes are no whole text of the grammar
  pub ended : place ≡ length text → IsText text → ⊥

-- ---- where the grammar is a test on texts

abbrev pub BeginsText : (List ℕ → Bool) → List ℕ → Type 0
BeginsText grammar front = BeginsOne (λ text. IsTrue (grammar text)) front

abbrev pub IsPlace : (List ℕ → Bool) → List ℕ → ℕ → Type 0
IsPlace grammar text place = Leaves (λ text. IsTrue (grammar text)) text place
