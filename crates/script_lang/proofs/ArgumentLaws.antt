-- What three, four and five words behind a first word say, by what each says.
use Rattle.std.proofs.Common.{◌≡◌, ℕ, ◌<◌, ◌≤◌, List, [], ◌∷◌, length, get_or, map, Some, None, Ok, Err, Bor, refl, arith}
use Rattle.plain_model.specs.declared.finish.Reason.TheVariants.{BadWord}
use Rattle.script_lang.specs.Commands.{said_by}
use Rattle.script_lang.specs.Spelling.{value_of}
use Rattle.script_lang.specs.Values.{Value}
use Rattle.script_lang.specs.WordKinds.{Name, Location, Key, High, MaybeToken, Batch}

-- `move` without its token
pub move_plain : (words : List (Bor (List ℕ))) (d0 d1 d2 : Bor (List ℕ)) (v0 v1 v2 : Value) → 3 ≤ length words → length words < 4
    → value_of Name (get_or words 0 d0).now ≡ Some v0 → value_of Key (get_or words 1 d1).now ≡ Some v1 → value_of Location (get_or words 2 d2).now ≡ Some v2
    → said_by (Name ∷ Key ∷ Location ∷ MaybeToken ∷ []) (map (λ w. w.now) words) ≡ Ok (v0 ∷ v1 ∷ v2 ∷ [])
move_plain [] d0 d1 d2 v0 v1 v2 least most h0 h1 h2 = absurd (omega arith)
move_plain (a ∷ []) d0 d1 d2 v0 v1 v2 least most h0 h1 h2 = absurd (omega arith)
move_plain (a ∷ b ∷ []) d0 d1 d2 v0 v1 v2 least most h0 h1 h2 = absurd (omega arith)
move_plain (a ∷ b ∷ c ∷ []) d0 d1 d2 v0 v1 v2 least most h0 h1 h2 = rw (h0, h1, h2) refl
move_plain (a ∷ b ∷ c ∷ d ∷ more) d0 d1 d2 v0 v1 v2 least most h0 h1 h2 = absurd (omega arith)

-- `move` with its token
pub move_locked : (words : List (Bor (List ℕ))) (d0 d1 d2 d3 : Bor (List ℕ)) (v0 v1 v2 v3 : Value) → 4 ≤ length words → length words < 5
    → value_of Name (get_or words 0 d0).now ≡ Some v0 → value_of Key (get_or words 1 d1).now ≡ Some v1 → value_of Location (get_or words 2 d2).now ≡ Some v2 → value_of MaybeToken (get_or words 3 d3).now ≡ Some v3
    → said_by (Name ∷ Key ∷ Location ∷ MaybeToken ∷ []) (map (λ w. w.now) words) ≡ Ok (v0 ∷ v1 ∷ v2 ∷ v3 ∷ [])
move_locked [] d0 d1 d2 d3 v0 v1 v2 v3 least most h0 h1 h2 h3 = absurd (omega arith)
move_locked (a ∷ []) d0 d1 d2 d3 v0 v1 v2 v3 least most h0 h1 h2 h3 = absurd (omega arith)
move_locked (a ∷ b ∷ []) d0 d1 d2 d3 v0 v1 v2 v3 least most h0 h1 h2 h3 = absurd (omega arith)
move_locked (a ∷ b ∷ c ∷ []) d0 d1 d2 d3 v0 v1 v2 v3 least most h0 h1 h2 h3 = absurd (omega arith)
move_locked (a ∷ b ∷ c ∷ d ∷ []) d0 d1 d2 d3 v0 v1 v2 v3 least most h0 h1 h2 h3 = rw (h0, h1, h2, h3) refl
move_locked (a ∷ b ∷ c ∷ d ∷ e ∷ more) d0 d1 d2 d3 v0 v1 v2 v3 least most h0 h1 h2 h3 = absurd (omega arith)

pub job_words : (words : List (Bor (List ℕ))) (d0 d1 d2 d3 d4 : Bor (List ℕ)) (v0 v1 v2 v3 v4 : Value) → 5 ≤ length words → length words < 6
    → value_of Name (get_or words 0 d0).now ≡ Some v0 → value_of Key (get_or words 1 d1).now ≡ Some v1 → value_of High (get_or words 2 d2).now ≡ Some v2 → value_of Location (get_or words 3 d3).now ≡ Some v3
    → value_of Batch (get_or words 4 d4).now ≡ Some v4
    → said_by (Name ∷ Key ∷ High ∷ Location ∷ Batch ∷ []) (map (λ w. w.now) words) ≡ Ok (v0 ∷ v1 ∷ v2 ∷ v3 ∷ v4 ∷ [])
job_words [] d0 d1 d2 d3 d4 v0 v1 v2 v3 v4 least most h0 h1 h2 h3 h4 = absurd (omega arith)
job_words (a ∷ []) d0 d1 d2 d3 d4 v0 v1 v2 v3 v4 least most h0 h1 h2 h3 h4 = absurd (omega arith)
job_words (a ∷ b ∷ []) d0 d1 d2 d3 d4 v0 v1 v2 v3 v4 least most h0 h1 h2 h3 h4 = absurd (omega arith)
job_words (a ∷ b ∷ c ∷ []) d0 d1 d2 d3 d4 v0 v1 v2 v3 v4 least most h0 h1 h2 h3 h4 = absurd (omega arith)
job_words (a ∷ b ∷ c ∷ d ∷ []) d0 d1 d2 d3 d4 v0 v1 v2 v3 v4 least most h0 h1 h2 h3 h4 = absurd (omega arith)
job_words (a ∷ b ∷ c ∷ d ∷ e ∷ []) d0 d1 d2 d3 d4 v0 v1 v2 v3 v4 least most h0 h1 h2 h3 h4 = rw (h0, h1, h2, h3, h4) refl
job_words (a ∷ b ∷ c ∷ d ∷ e ∷ g ∷ more) d0 d1 d2 d3 d4 v0 v1 v2 v3 v4 least most h0 h1 h2 h3 h4 = absurd (omega arith)

-- the batch alone is out of its grammar
pub job_batch : (words : List (Bor (List ℕ))) (d0 d1 d2 d3 d4 : Bor (List ℕ)) (v0 v1 v2 v3 : Value) → 5 ≤ length words → length words < 6
    → value_of Name (get_or words 0 d0).now ≡ Some v0 → value_of Key (get_or words 1 d1).now ≡ Some v1 → value_of High (get_or words 2 d2).now ≡ Some v2 → value_of Location (get_or words 3 d3).now ≡ Some v3
    → value_of Batch (get_or words 4 d4).now ≡ None
    → said_by (Name ∷ Key ∷ High ∷ Location ∷ Batch ∷ []) (map (λ w. w.now) words) ≡ Err (BadWord 6)
job_batch [] d0 d1 d2 d3 d4 v0 v1 v2 v3 least most h0 h1 h2 h3 h4 = absurd (omega arith)
job_batch (a ∷ []) d0 d1 d2 d3 d4 v0 v1 v2 v3 least most h0 h1 h2 h3 h4 = absurd (omega arith)
job_batch (a ∷ b ∷ []) d0 d1 d2 d3 d4 v0 v1 v2 v3 least most h0 h1 h2 h3 h4 = absurd (omega arith)
job_batch (a ∷ b ∷ c ∷ []) d0 d1 d2 d3 d4 v0 v1 v2 v3 least most h0 h1 h2 h3 h4 = absurd (omega arith)
job_batch (a ∷ b ∷ c ∷ d ∷ []) d0 d1 d2 d3 d4 v0 v1 v2 v3 least most h0 h1 h2 h3 h4 = absurd (omega arith)
job_batch (a ∷ b ∷ c ∷ d ∷ e ∷ []) d0 d1 d2 d3 d4 v0 v1 v2 v3 least most h0 h1 h2 h3 h4 = rw (h0, h1, h2, h3, h4) refl
job_batch (a ∷ b ∷ c ∷ d ∷ e ∷ g ∷ more) d0 d1 d2 d3 d4 v0 v1 v2 v3 least most h0 h1 h2 h3 h4 = absurd (omega arith)

-- the token of `move` alone is out of its grammar
pub move_token : (words : List (Bor (List ℕ))) (d0 d1 d2 d3 : Bor (List ℕ)) (v0 v1 v2 : Value) → 4 ≤ length words → length words < 5
    → value_of Name (get_or words 0 d0).now ≡ Some v0 → value_of Key (get_or words 1 d1).now ≡ Some v1 → value_of Location (get_or words 2 d2).now ≡ Some v2 → value_of MaybeToken (get_or words 3 d3).now ≡ None
    → said_by (Name ∷ Key ∷ Location ∷ MaybeToken ∷ []) (map (λ w. w.now) words) ≡ Err (BadWord 5)
move_token [] d0 d1 d2 d3 v0 v1 v2 least most h0 h1 h2 h3 = absurd (omega arith)
move_token (a ∷ []) d0 d1 d2 d3 v0 v1 v2 least most h0 h1 h2 h3 = absurd (omega arith)
move_token (a ∷ b ∷ []) d0 d1 d2 d3 v0 v1 v2 least most h0 h1 h2 h3 = absurd (omega arith)
move_token (a ∷ b ∷ c ∷ []) d0 d1 d2 d3 v0 v1 v2 least most h0 h1 h2 h3 = absurd (omega arith)
move_token (a ∷ b ∷ c ∷ d ∷ []) d0 d1 d2 d3 v0 v1 v2 least most h0 h1 h2 h3 = rw (h0, h1, h2, h3) refl
move_token (a ∷ b ∷ c ∷ d ∷ e ∷ more) d0 d1 d2 d3 v0 v1 v2 least most h0 h1 h2 h3 = absurd (omega arith)

pub add_words : (words : List (Bor (List ℕ))) (d0 d1 d2 d3 : Bor (List ℕ)) (v0 v1 v2 v3 : Value) → 4 ≤ length words → length words < 5
    → value_of Name (get_or words 0 d0).now ≡ Some v0 → value_of Key (get_or words 1 d1).now ≡ Some v1 → value_of High (get_or words 2 d2).now ≡ Some v2 → value_of Location (get_or words 3 d3).now ≡ Some v3
    → said_by (Name ∷ Key ∷ High ∷ Location ∷ []) (map (λ w. w.now) words) ≡ Ok (v0 ∷ v1 ∷ v2 ∷ v3 ∷ [])
add_words [] d0 d1 d2 d3 v0 v1 v2 v3 least most h0 h1 h2 h3 = absurd (omega arith)
add_words (a ∷ []) d0 d1 d2 d3 v0 v1 v2 v3 least most h0 h1 h2 h3 = absurd (omega arith)
add_words (a ∷ b ∷ []) d0 d1 d2 d3 v0 v1 v2 v3 least most h0 h1 h2 h3 = absurd (omega arith)
add_words (a ∷ b ∷ c ∷ []) d0 d1 d2 d3 v0 v1 v2 v3 least most h0 h1 h2 h3 = absurd (omega arith)
add_words (a ∷ b ∷ c ∷ d ∷ []) d0 d1 d2 d3 v0 v1 v2 v3 least most h0 h1 h2 h3 = rw (h0, h1, h2, h3) refl
add_words (a ∷ b ∷ c ∷ d ∷ e ∷ more) d0 d1 d2 d3 v0 v1 v2 v3 least most h0 h1 h2 h3 = absurd (omega arith)
