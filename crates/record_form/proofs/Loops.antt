-- Reading a text's bytes one after the other, as a loop does.
use Rattle.std.proofs.Common.{◌≡◌, ℕ, suc, ◌+◌, ◌-◌, ◌<◌, ◌≤◌, List, [], ◌∷◌, ◌++◌, length, get_or, take, drop, Option, Some, None, Ok, Err, refl, sym, ap, ◌∙◌, arith, append_assoc, length-drop}
use Rattle.std.proofs.lemmas.List.{take_more, drop_more, drop_all}
use Rattle.record_form.specs.Reading.{◌>>=◌, Read, text_at, then_byte}
use Rattle.record_form.proofs.Walks.{text_more, text_bad}

abbrev with_front : List ℕ → Read (List ℕ) → Read (List ℕ)
with_front front read = read >>= λ x. Ok (front ++ x.0, x.1)

-- what is read from place i on, after the bytes before it
abbrev pub from_place : {S : Type 0} → (ℕ → S → ℕ → Option S) → ℕ → ℕ → S → List ℕ → Read (List ℕ)
from_place next len i s bytes = with_front (take i bytes) (text_at next (len - i) s (drop i bytes))

regroup : (front : List ℕ) (b : ℕ) (read : Read (List ℕ)) → with_front front (then_byte b read) ≡ with_front (front ++ b ∷ []) read
regroup front b (Ok x) = ap (λ (l : List ℕ). Ok (l, x.1)) (sym (append_assoc front (b ∷ []) x.0))
regroup front b (Err n) = refl

pub goes_on : {S : Type 0} (next : ℕ → S → ℕ → Option S) (len i : ℕ) (s t : S) (bytes : List ℕ) (total : Read (List ℕ)) → i < len → i < length bytes → next (len - 1 - i) s (get_or bytes i 0) ≡ Some t
    → from_place next len i s bytes ≡ total → from_place next len (i + 1) t bytes ≡ total
goes_on next len i s t bytes total lt within step so_far =
    let k : len - i ≡ suc (len - (i + 1)) = omega arith in
    let same : len - 1 - i ≡ len - (i + 1) = omega arith in
    let one : from_place next len i s bytes ≡ from_place next len (i + 1) t bytes =
    rw (k, drop_more bytes i 0 within, text_more next (len - (i + 1)) s (get_or bytes i 0) (drop (i + 1) bytes) t (ap (λ (m : ℕ). next m s (get_or bytes i 0)) (sym same) ∙ step), regroup (take i bytes) (get_or bytes i 0), ← take_more bytes i 0 within) refl in
    sym one ∙ so_far

pub stops_at : {S : Type 0} (next : ℕ → S → ℕ → Option S) (len i : ℕ) (s : S) (bytes : List ℕ) (total : Read (List ℕ)) → i < len → i < length bytes → next (len - 1 - i) s (get_or bytes i 0) ≡ None
    → from_place next len i s bytes ≡ total → total ≡ Err (length bytes - i)
stops_at next len i s bytes total lt within step so_far =
    let k : len - i ≡ suc (len - (i + 1)) = omega arith in
    let same : len - 1 - i ≡ len - (i + 1) = omega arith in
    let left : suc (length (drop (i + 1) bytes)) ≡ length bytes - i = omega (arith, length-drop (i + 1) bytes) in
    let one : from_place next len i s bytes ≡ Err (length bytes - i) =
    rw (k, drop_more bytes i 0 within, text_bad next (len - (i + 1)) s (get_or bytes i 0) (drop (i + 1) bytes) (ap (λ (m : ℕ). next m s (get_or bytes i 0)) (sym same) ∙ step), left) refl in
    sym so_far ∙ one

pub ends_at : {S : Type 0} (next : ℕ → S → ℕ → Option S) (len i : ℕ) (s : S) (bytes : List ℕ) (total : Read (List ℕ)) → i < len → length bytes ≤ i → from_place next len i s bytes ≡ total → total ≡ Err 0
unfolding text_at
ends_at next len i s bytes total lt over so_far =
    let k : len - i ≡ suc (len - (i + 1)) = omega arith in
    let one : from_place next len i s bytes ≡ Err 0 = rw (k, drop_all i bytes over) refl in
    sym so_far ∙ one

pub is_done : {S : Type 0} (next : ℕ → S → ℕ → Option S) (len i : ℕ) (s : S) (bytes : List ℕ) (total : Read (List ℕ)) → i ≡ len → from_place next len i s bytes ≡ total → total ≡ Ok (take len bytes ++ [], drop len bytes)
unfolding text_at
is_done next len i s bytes total same so_far =
    let k : len - len ≡ 0 = omega arith in
    let one : from_place next len i s bytes ≡ Ok (take len bytes ++ [], drop len bytes) = rw (same, k) refl in
    sym so_far ∙ one
