-- A list is cut at the first element that passes.
use Rattle.std.proofs.Common.{◌≡◌, ℕ, ◌+◌, ◌<◌, Bool, not, List, [], ◌∷◌, ◌++◌, length, get_or, take, drop, Option, Some, None, refl, sym, ap, subst, ◌∙◌, arith, inl, inr, append_assoc}
use Rattle.std.specs.Prelude.{unwrap_or}
use Rattle.std.specs.List.{position, position_or_len, slice_split, filter}
use Rattle.std.specs.Str.Lines.{lines, lines_of_parts, strip_carriage_return}
use Rattle.std.proofs.lemmas.Bool.{cases_lt, lt-ltb, le-ltb, ne_eqb, not-true}
use Rattle.std.proofs.lemmas.List.Sums.{prefix_len_passes}
use Rattle.std.proofs.lemmas.List.Splits.{slice_split_first, slice_split_none, length-slice_split}
use Rattle.cell_world.specs.Texts.{Text}
use Rattle.script_lang.specs.Words.{is_line_feed, is_blank, has_bytes, words}

-- the first part ends at the place
pub record IsCut (p : ℕ → Bool) (bytes : Text) (at : ℕ) : Type 0 where
  pub within : at < length bytes
  pub parts : slice_split p bytes ≡ take at bytes ∷ slice_split p (drop (at + 1) bytes)

pub cut : (p : ℕ → Bool) (bytes : Text) (at : ℕ) → position p bytes ≡ Some at → IsCut p bytes at
cut p bytes at found =
    elim (cases_lt (position_or_len p bytes) (length bytes)) [
      | inl lt ↦
          let same : position_or_len p bytes ≡ at = ap (λ (o : Option ℕ). unwrap_or o 0) (rw (lt-ltb (position_or_len p bytes) (length bytes) lt) at found) in
          subst (IsCut p bytes) same (record { within = lt; parts = slice_split_first p bytes 0 lt })
      | inr le ↦ absurd (let none : None ≡ Some at = rw (le-ltb (position_or_len p bytes) (length bytes) le) at found in cc)
    ]

-- without such an element the list is its one part
pub uncut : (p : ℕ → Bool) (bytes : Text) → position p bytes ≡ None → slice_split p bytes ≡ bytes ∷ []
uncut p bytes none =
    elim (cases_lt (position_or_len p bytes) (length bytes)) [
      | inl lt ↦ absurd (let some : Some (position_or_len p bytes) ≡ None = rw (lt-ltb (position_or_len p bytes) (length bytes) lt) at none in cc)
      | inr le ↦ slice_split_none p bytes (λ k d within. not-true (p (get_or bytes k d)) (prefix_len_passes (λ x. not (p x)) bytes k d (omega (arith, le))))
    ]

-- a part with others behind it is a line
lines_cons : (x : Text) (parts : List Text) → 0 < length parts → lines_of_parts (x ∷ parts) ≡ strip_carriage_return x ∷ lines_of_parts parts
lines_cons x [] some = absurd (omega arith)
lines_cons x (y ∷ more) some = refl

pub first_of_lines : (bytes : Text) (at : ℕ) → position is_line_feed bytes ≡ Some at → lines bytes ≡ strip_carriage_return (take at bytes) ∷ lines (drop (at + 1) bytes)
first_of_lines bytes at found =
    ap lines_of_parts (cut is_line_feed bytes at found).parts
    ∙ lines_cons (take at bytes) (slice_split is_line_feed (drop (at + 1) bytes)) (omega (arith, length-slice_split is_line_feed (drop (at + 1) bytes)))

-- the last line may lack its end
pub last_of_lines : (bytes : Text) → position is_line_feed bytes ≡ None → 0 < length bytes → lines bytes ≡ bytes ∷ []
last_of_lines bytes none some = ap lines_of_parts (uncut is_line_feed bytes none) ∙ rw (ne_eqb (length bytes) 0 (λ z. omega (arith, z, some))) refl

-- the words so far, and those of the rest
abbrev pub and_words : List Text → Text → List Text
and_words found rest = found ++ words rest

pub one_more : (found more total : List Text) (rest : Text) (at : ℕ) → position is_blank rest ≡ Some at → more ≡ found ++ filter has_bytes (take at rest ∷ []) → and_words found rest ≡ total
    → and_words more (drop (at + 1) rest) ≡ total
one_more found more total rest at blank is so_far =
    let parts = (cut is_blank rest at blank).parts in
    ap (λ f. and_words f (drop (at + 1) rest)) is
    ∙ (append_assoc found (filter has_bytes (take at rest ∷ [])) (words (drop (at + 1) rest))
    ∙ (ap (λ w. found ++ w) (filter_first (take at rest) (slice_split is_blank (drop (at + 1) rest)) ∙ ap (filter has_bytes) (sym parts)) ∙ so_far))
  where
    filter_first : (x : Text) (parts : List Text) → filter has_bytes (x ∷ []) ++ filter has_bytes parts ≡ filter has_bytes (x ∷ parts)
    filter_first [] parts = refl
    filter_first (b ∷ bs) parts = rw (ne_eqb (length (b ∷ bs)) 0 (λ z. omega (arith, z))) refl

pub last_word : (found more total : List Text) (rest : Text) → position is_blank rest ≡ None → more ≡ found ++ filter has_bytes (rest ∷ []) → and_words found rest ≡ total → more ≡ total
last_word found more total rest none is so_far = is ∙ (ap (λ parts. found ++ filter has_bytes parts) (sym (uncut is_blank rest none)) ∙ so_far)
