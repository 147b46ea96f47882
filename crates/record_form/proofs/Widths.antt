-- Numbers of a known width, and bytes whichever they are.
use Rattle.std.proofs.Common.{◌≡◌, ℕ, zero, suc, ◌+◌, ◌-◌, ◌*◌, ◌/◌, ◌%◌, ◌^◌, ◌<◌, ◌≤◌, List, [], ◌∷◌, ◌++◌, length, take, drop, replicate, Ok, Err, refl, sym, ap, subst, ◌∙◌, arith, inl, inr}
use Rattle.std.specs.Int.{Width, w32, w64, w128, byte_len, from_be_bytes, to_be_bytes}
use Rattle.std.proofs.lemmas.Bool.{cases_lt, le-ltb, lt-ltb}
use Rattle.std.proofs.lemmas.List.{take_at, drop_at, take-append-drop, length-append, length-take, length-replicate, get_or-drop, get_or-take, get_or_past, append-nil}
use Rattle.std.proofs.lemmas.Nat.{be_bytes_4, be_bytes_8, from_be_bytes-to_be_bytes_4, from_be_bytes-to_be_bytes_8}
use Rattle.std.specs.Prelude.{IsTrue}
use Rattle.cell_world.specs.Texts.{are_bytes}
use Rattle.record_form.specs.Reading.{number_at, raw_at}
use Rattle.record_form.proofs.Sixteen.{again_16, back_16, below_16}
use Rattle.record_form.proofs.Readers.{IsBytes, IsReader, Stops, err_of, ok_is, not_both, not_cons}

-- ---- numbers

IsBytes-drop : (n : ℕ) (bytes : List ℕ) → IsBytes bytes → IsBytes (drop n bytes)
IsBytes-drop n bytes h i = rw get_or-drop (h (n + i))

IsBytes-take : (n : ℕ) (bytes : List ℕ) → IsBytes bytes → IsBytes (take n bytes)
IsBytes-take n bytes h i =
    elim (cases_lt i n) [
      | inl lt ↦ rw (get_or-take n bytes i 0 lt) (h i)
      | inr le ↦ rw (get_or_past (take n bytes) i 0 (omega (arith, length-take n bytes))) (omega arith)
    ]

IsBytes-padded : (bytes : List ℕ) (k : ℕ) → IsBytes bytes → IsBytes (bytes ++ replicate k 0)
IsBytes-padded [] zero h i = omega arith
IsBytes-padded [] (suc k) h zero = omega arith
IsBytes-padded [] (suc k) h (suc i) = IsBytes-padded [] k h i
IsBytes-padded (b ∷ bs) k h zero = h 0
IsBytes-padded (b ∷ bs) k h (suc i) = IsBytes-padded bs k (λ j. h (suc j)) i

pub record IsWide (w : Width) (limit : ℕ) : Type 0 where
  pub len : (n : ℕ) → length (to_be_bytes w n) ≡ byte_len w
  pub back : (bytes : List ℕ) → length bytes ≡ byte_len w → IsBytes bytes → to_be_bytes w (from_be_bytes w bytes) ≡ bytes
  pub again : (n : ℕ) → n < limit → from_be_bytes w (to_be_bytes w n) ≡ n
  pub below : (bytes : List ℕ) → IsBytes bytes → from_be_bytes w bytes < limit

pub wide32 : IsWide w32 (2 ^ 32)
wide32 = record {
  len = λ n. refl;
  back = λ bytes len fits. be_bytes_4 bytes _ len fits refl;
  again = λ n lt. from_be_bytes-to_be_bytes_4 n lt;
  below = λ bytes fits. omega (arith, fits 0, fits 1, fits 2, fits 3);
}

pub wide64 : IsWide w64 (2 ^ 64)
wide64 = record {
  len = λ n. refl;
  back = λ bytes len fits. be_bytes_8 bytes _ len fits refl;
  again = λ n lt. from_be_bytes-to_be_bytes_8 n lt;
  below = λ bytes fits. omega (arith, fits 0, fits 1, fits 2, fits 3, fits 4, fits 5, fits 6, fits 7);
}

pub wide128 : IsWide w128 (2 ^ 128)
wide128 = record {
  len = λ n. refl;
  back = back_16;
  again = again_16;
  below = below_16;
}

number_long : (w : Width) (bytes : List ℕ) → byte_len w ≤ length bytes → number_at w bytes ≡ Ok (from_be_bytes w (take (byte_len w) bytes), drop (byte_len w) bytes)
number_long w bytes le = rw (le-ltb (length bytes) (byte_len w) le) refl

number_short : (w : Width) (bytes : List ℕ) → length bytes < byte_len w → number_at w bytes ≡ Err 0
number_short w bytes lt = rw (lt-ltb (length bytes) (byte_len w) lt) refl

number_takes : (w : Width) (limit : ℕ) (wide : IsWide w limit) (bytes : List ℕ) (x : ℕ × List ℕ) → IsBytes bytes → number_at w bytes ≡ Ok x → (bytes ≡ to_be_bytes w x.0 ++ x.1) × (x.0 < limit)
number_takes w limit wide bytes x fits e =
    elim (cases_lt (length bytes) (byte_len w)) [
      | inl short ↦ absurd (not_both (number_at w bytes) x 0 e (number_short w bytes short))
      | inr long ↦
          let front = take (byte_len w) bytes in
          let small = IsBytes-take (byte_len w) bytes fits in
          subst (λ (y : ℕ × List ℕ). (bytes ≡ to_be_bytes w y.0 ++ y.1) × (y.0 < limit))
          (ok_is (number_at w bytes) (from_be_bytes w front, drop (byte_len w) bytes) x (number_long w bytes long) e)
          (rw (wide.back front (omega (arith, length-take (byte_len w) bytes)) small) (sym (take-append-drop (byte_len w) bytes)), wide.below front small)
    ]

number_again : (w : Width) (limit : ℕ) (wide : IsWide w limit) (n : ℕ) (rest : List ℕ) → n < limit → number_at w (to_be_bytes w n ++ rest) ≡ Ok (n, rest)
number_again w limit wide n rest lt =
    let len = wide.len n in
    number_long w (to_be_bytes w n ++ rest) (omega (arith, length-append (to_be_bytes w n) rest, len))
    ∙ rw (take_at (to_be_bytes w n) rest (byte_len w) len, drop_at (to_be_bytes w n) rest (byte_len w) len, wide.again n lt) refl

number_stops : (w : Width) (limit : ℕ) (wide : IsWide w limit) (bytes : List ℕ) (n : ℕ) → IsBytes bytes → number_at w bytes ≡ Err n → Stops (to_be_bytes w) (λ n. n < limit) bytes n
number_stops w limit wide bytes n fits e =
    elim (cases_lt (length bytes) (byte_len w)) [
      | inl short ↦
          let zeros = replicate (byte_len w - length bytes) 0 in
          let padded = IsBytes-padded bytes (byte_len w - length bytes) fits in
          record {
            front = bytes;
            left = [];
            parts = sym (append-nil bytes);
            count = ap err_of (sym (number_short w bytes short) ∙ e);
            value = from_be_bytes w (bytes ++ zeros);
            fits = wide.below (bytes ++ zeros) padded;
            more = zeros;
            goes_on = wide.back (bytes ++ zeros) (omega (arith, length-append bytes zeros, length-replicate {A = ℕ} (byte_len w - length bytes) 0)) padded;
            no_more = λ c rest l a more after h q. not_cons c rest l;
          }
      | inr long ↦ absurd (not_both (number_at w bytes) (from_be_bytes w (take (byte_len w) bytes), drop (byte_len w) bytes) n (number_long w bytes long) e)
    ]

number_reader : (w : Width) (limit : ℕ) → 0 < limit → IsWide w limit → IsReader (number_at w) (to_be_bytes w) (λ n. n < limit)
number_reader w limit some wide = record { takes = number_takes w limit wide; again = number_again w limit wide; stops = number_stops w limit wide; one = (0, some) }

pub number_4_reader : IsReader (number_at w32) (to_be_bytes w32) (λ n. n < 2 ^ 32)
number_4_reader = number_reader w32 (2 ^ 32) (omega arith) wide32

pub number_8_reader : IsReader (number_at w64) (to_be_bytes w64) (λ n. n < 2 ^ 64)
number_8_reader = number_reader w64 (2 ^ 64) (omega arith) wide64

pub number_16_reader : IsReader (number_at w128) (to_be_bytes w128) (λ n. n < 2 ^ 128)
number_16_reader = number_reader w128 (2 ^ 128) (omega arith) wide128

IsBytes-small : (bytes : List ℕ) → IsBytes bytes → IsTrue (are_bytes bytes)
IsBytes-small [] h = refl
IsBytes-small (b ∷ bs) h = rw (lt-ltb b 256 (h 0), IsBytes-small bs (λ i. h (suc i))) refl

-- ---- bytes, whichever they are

-- so many bytes
abbrev pub HasLength : ℕ → List ℕ → Type 0
HasLength n text = (length text ≡ n) × IsTrue (are_bytes text)

raw_long : (n : ℕ) (bytes : List ℕ) → n ≤ length bytes → raw_at n bytes ≡ Ok (take n bytes, drop n bytes)
raw_long n bytes le = rw (le-ltb (length bytes) n le) refl

raw_short : (n : ℕ) (bytes : List ℕ) → length bytes < n → raw_at n bytes ≡ Err 0
raw_short n bytes lt = rw (lt-ltb (length bytes) n lt) refl

raw_takes : (n : ℕ) (bytes : List ℕ) (x : List ℕ × List ℕ) → IsBytes bytes → raw_at n bytes ≡ Ok x → (bytes ≡ x.0 ++ x.1) × HasLength n x.0
raw_takes n bytes x fits e =
    elim (cases_lt (length bytes) n) [
      | inl short ↦ absurd (not_both (raw_at n bytes) x 0 e (raw_short n bytes short))
      | inr long ↦ subst (λ (y : List ℕ × List ℕ). (bytes ≡ y.0 ++ y.1) × HasLength n y.0)
          (ok_is (raw_at n bytes) (take n bytes, drop n bytes) x (raw_long n bytes long) e)
          (sym (take-append-drop n bytes), (omega (arith, length-take n bytes), IsBytes-small (take n bytes) (IsBytes-take n bytes fits)))
    ]

raw_again : (n : ℕ) (text rest : List ℕ) → HasLength n text → raw_at n (text ++ rest) ≡ Ok (text, rest)
raw_again n text rest h =
    let len = h.0 in
    raw_long n (text ++ rest) (omega (arith, length-append text rest, len)) ∙ rw (take_at text rest n len, drop_at text rest n len) refl

raw_stops : (n : ℕ) (bytes : List ℕ) (k : ℕ) → IsBytes bytes → raw_at n bytes ≡ Err k → Stops (λ (t : List ℕ). t) (HasLength n) bytes k
raw_stops n bytes k fits e =
    elim (cases_lt (length bytes) n) [
      | inl short ↦
          let zeros = replicate (n - length bytes) 0 in
          record {
            front = bytes;
            left = [];
            parts = sym (append-nil bytes);
            count = ap err_of (sym (raw_short n bytes short) ∙ e);
            value = bytes ++ zeros;
            fits = (omega (arith, length-append bytes zeros, length-replicate {A = ℕ} (n - length bytes) 0), IsBytes-small (bytes ++ zeros) (IsBytes-padded bytes (n - length bytes) fits));
            more = zeros;
            goes_on = refl;
            no_more = λ c rest l a more after h q. not_cons c rest l;
          }
      | inr long ↦ absurd (not_both (raw_at n bytes) (take n bytes, drop n bytes) k (raw_long n bytes long) e)
    ]

pub raw_reader : (n : ℕ) → IsReader (raw_at n) (λ (t : List ℕ). t) (HasLength n)
raw_reader n = record {
  takes = raw_takes n;
  again = λ a rest h. raw_again n a rest h;
  stops = raw_stops n;
  one = (replicate n 0, (length-replicate {A = ℕ} n 0, IsBytes-small (replicate n 0) (IsBytes-padded [] n (λ i. omega arith))));
}
