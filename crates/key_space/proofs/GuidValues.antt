-- What uuid reads of a guid's text is the bytes of its digits.
use Rattle.std.proofs.Common.{◌≡◌, ℕ, zero, suc, ◌*◌, true, ◌==◌, List, [], ◌∷◌, ◌++◌, length, Option, Some, unwrap_or, refl, sym, ap, subst, ◌∙◌, inl, inr, arith, length-append}
use Rattle.std.proofs.lemmas.Bool.{cases_Bool, eqb-true}
use Rattle.std.proofs.lemmas.List.{append-nil, get_or_default}
use Rattle.uuid.specs.Text.{by_index, parsed, digits_of, has_hyphens, byte_of_digits}
use Rattle.uuid.proofs.TextLemmas.{by_index_same}
use Rattle.cell_world.specs.Texts.{Text}
use Rattle.cell_world.specs.KeyForms.{hex_byte, hex_bytes, bytes_taken, after_dash, grouped_bytes, guid_bytes}
use Rattle.key_space.proofs.HexDigits.{cases_option, cases_list, none_some, pairs_of, pairs_append}
use Rattle.key_space.proofs.KeyForms.{listed, drop-listed}

abbrev text_of : Option Text → Text
text_of o = unwrap_or o []

abbrev Parts : Type 0
Parts = Text × Text

-- n bytes are written by 2 * n digits, and the rest is behind them
record IsTaken (n : ℕ) (text : Text) (p : Parts) : Type 0 where
  digits : Text
  count : length digits ≡ 2 * n
  whole : text ≡ digits ++ p.1
  bytes : hex_bytes digits ≡ Some p.0

taken_parts : (n : ℕ) (text : Text) (p : Parts) → bytes_taken n text ≡ Some p → IsTaken n text p
taken_parts zero text p h = subst (IsTaken 0 text) (ap (λ (o : Option Parts). unwrap_or o ([], text)) h) (record { digits = []; count = refl; whole = refl; bytes = refl })
taken_parts (suc n) [] p h = none_some p h
taken_parts (suc n) (a ∷ []) p h = none_some p h
taken_parts (suc n) (a ∷ b ∷ bs) p h =
    elim (cases_option (hex_byte a b)) [
      | inl none ↦ none_some p (rw none at h)
      | inr x ↦ elim (cases_option (bytes_taken n bs)) [
        | inl none ↦ none_some p (rw (x.1, none) at h)
        | inr y ↦
            let q = taken_parts n bs y.0 y.1 in
            subst (IsTaken (suc n) (a ∷ b ∷ bs)) (ap (λ (o : Option Parts). unwrap_or o ([], [])) (rw (x.1, y.1) at h)) (record {
              digits = a ∷ b ∷ q.digits;
              count = omega (arith, q.count);
              whole = ap (λ (t : Text). a ∷ b ∷ t) q.whole;
              bytes = rw (x.1, q.bytes) refl;
            })
      ]
    ]

-- the last group is the whole text
last_group : (n : ℕ) (text bytes : Text) → grouped_bytes (n ∷ []) text ≡ Some bytes → (length text ≡ 2 * n) × (hex_bytes text ≡ Some bytes)
last_group n text bytes h =
    elim (cases_option (bytes_taken n text)) [
      | inl none ↦ none_some bytes (rw none at h)
      | inr x ↦
          let p = taken_parts n text x.0 x.1 in
          elim (cases_list x.0.1) [
            | inr some ↦ none_some bytes (rw (x.1, some.2) at h)
            | inl end ↦
                let all : text ≡ p.digits = p.whole ∙ (ap (λ (t : Text). p.digits ++ t) end ∙ append-nil p.digits) in
                let same : x.0.0 ≡ bytes = ap text_of (rw (x.1, end) at h) in
                (rw all p.count, rw all (p.bytes ∙ ap Some same))
          ]
    ]

-- a group, a dash, and the other groups
record IsGroup (n : ℕ) (groups : List ℕ) (text bytes : Text) : Type 0 where
  digits : Text
  after : Text
  first : Text
  rest : Text
  count : length digits ≡ 2 * n
  whole : text ≡ digits ++ 45 ∷ after
  written : hex_bytes digits ≡ Some first
  others : grouped_bytes groups after ≡ Some rest
  joined : first ++ rest ≡ bytes

dash_first : (text after : Text) → after_dash text ≡ Some after → text ≡ 45 ∷ after
dash_first [] after h = none_some after h
dash_first (b ∷ bs) after h =
    elim (cases_Bool (b == 45)) [
      | inl one ↦ let same : bs ≡ after = ap text_of (rw one at h) in λ i. eqb-true b 45 one i ∷ same i
      | inr other ↦ none_some after (rw other at h)
    ]

first_group : (n m : ℕ) (more : List ℕ) (text bytes : Text) → grouped_bytes (n ∷ m ∷ more) text ≡ Some bytes → IsGroup n (m ∷ more) text bytes
first_group n m more text bytes h =
    elim (cases_option (bytes_taken n text)) [
      | inl none ↦ none_some bytes (rw none at h)
      | inr x ↦
          let p = taken_parts n text x.0 x.1 in
          elim (cases_option (after_dash x.0.1)) [
            | inl none ↦ none_some bytes (rw (x.1, none) at h)
            | inr y ↦ elim (cases_option (grouped_bytes (m ∷ more) y.0)) [
              | inl none ↦ none_some bytes (rw (x.1, y.1, none) at h)
              | inr z ↦ record {
                digits = p.digits;
                after = y.0;
                first = x.0.0;
                rest = z.0;
                count = p.count;
                whole = p.whole ∙ ap (λ (t : Text). p.digits ++ t) (dash_first x.0.1 y.0 y.1);
                written = p.bytes;
                others = z.1;
                joined = ap text_of (rw (x.1, y.1, z.1) at h);
              }
            ]
          ]
    ]

-- five groups of digits with dashes between
abbrev dashed : Text → Text → Text → Text → Text → Text
dashed a b c d e = a ++ 45 ∷ (b ++ 45 ∷ (c ++ 45 ∷ (d ++ 45 ∷ e)))

abbrev plain : Text → Text → Text → Text → Text → Text
plain a b c d e = a ++ (b ++ (c ++ (d ++ e)))

record IsFive (a b c d e : Text) : Type 0 where
  a8 : length a ≡ 8
  b4 : length b ≡ 4
  c4 : length c ≡ 4
  d4 : length d ≡ 4
  e12 : length e ≡ 12

five_digits : (a b c d e : Text) → IsFive a b c d e → digits_of (dashed a b c d e) ≡ plain a b c d e
unfolding by_index
five_digits a b c d e h =
    let pa = drop-listed 8 0 a h.a8 in
    let pb = drop-listed 4 0 b h.b4 in
    let pc = drop-listed 4 0 c h.c4 in
    let pd = drop-listed 4 0 d h.d4 in
    let pe = drop-listed 12 0 e h.e12 in
    let listed_same : digits_of (dashed (listed 8 0 a) (listed 4 0 b) (listed 4 0 c) (listed 4 0 d) (listed 12 0 e)) ≡ plain (listed 8 0 a) (listed 4 0 b) (listed 4 0 c) (listed 4 0 d) (listed 12 0 e) = refl in
    (λ i. digits_of (dashed (pa i) (pb i) (pc i) (pd i) (pe i))) ∙ (listed_same ∙ (λ i. plain (sym pa i) (sym pb i) (sym pc i) (sym pd i) (sym pe i)))

five_dashes : (a b c d e : Text) → IsFive a b c d e → has_hyphens (dashed a b c d e) ≡ true
five_dashes a b c d e h =
    let pa = drop-listed 8 0 a h.a8 in
    let pb = drop-listed 4 0 b h.b4 in
    let pc = drop-listed 4 0 c h.c4 in
    let pd = drop-listed 4 0 d h.d4 in
    (λ i. has_hyphens (dashed (pa i) (pb i) (pc i) (pd i) e)) ∙ refl

five_long : (a b c d e : Text) → IsFive a b c d e → (length (dashed a b c d e) ≡ 36) × (length (plain a b c d e) ≡ 32)
five_long a b c d e h =
    let ea = h.a8 in
    let eb = h.b4 in
    let ec = h.c4 in
    let ed = h.d4 in
    let ee = h.e12 in (
      omega (arith, ea, eb, ec, ed, ee, length-append a (45 ∷ (b ++ 45 ∷ (c ++ 45 ∷ (d ++ 45 ∷ e)))), length-append b (45 ∷ (c ++ 45 ∷ (d ++ 45 ∷ e))), length-append c (45 ∷ (d ++ 45 ∷ e)), length-append d (45 ∷ e)),
      omega (arith, ea, eb, ec, ed, ee, length-append a (b ++ (c ++ (d ++ e))), length-append b (c ++ (d ++ e)), length-append c (d ++ e), length-append d e),
    )

-- uuid reads what the digits write
five_parsed : (a b c d e bytes : Text) → IsFive a b c d e → hex_bytes (plain a b c d e) ≡ Some bytes → parsed (dashed a b c d e) ≡ Some bytes
five_parsed a b c d e bytes h is =
    let digits = plain a b c d e in
    let long = five_long a b c d e h in
    let p = pairs_of digits bytes is in
    let twice = p.twice in
    let count : length bytes ≡ 16 = omega (arith, twice, long.1) in
    let same : bytes ≡ by_index 16 (byte_of_digits digits) = by_index_same bytes 16 (byte_of_digits digits) count (λ k x lt. get_or_default bytes k x 0 (omega (arith, count)) ∙ p.each k (omega (arith, count))) in
    rw (long.0, five_dashes a b c d e h, five_digits a b c d e h, long.1, p.all_hex) (ap Some (sym same))

-- the digits of a group and of those behind it write the bytes of all
with_others : (n : ℕ) (groups : List ℕ) (text bytes : Text) (p : IsGroup n groups text bytes) (others : Text) → hex_bytes others ≡ Some p.rest → hex_bytes (p.digits ++ others) ≡ Some bytes
with_others n groups text bytes p others h = pairs_append p.digits others p.first p.rest p.written h ∙ ap Some p.joined

pub parses : (text bytes : Text) → guid_bytes text ≡ Some bytes → parsed text ≡ Some bytes
parses text bytes h =
    let p = first_group 4 2 (2 ∷ 2 ∷ 6 ∷ []) text bytes h in
    let q = first_group 2 2 (2 ∷ 6 ∷ []) p.after p.rest p.others in
    let r = first_group 2 2 (6 ∷ []) q.after q.rest q.others in
    let s = first_group 2 6 [] r.after r.rest r.others in
    let t = last_group 6 s.after s.rest s.others in
    of_groups text bytes p q r s t
  where
    of_groups : (text bytes : Text) (p : IsGroup 4 (2 ∷ 2 ∷ 2 ∷ 6 ∷ []) text bytes) (q : IsGroup 2 (2 ∷ 2 ∷ 6 ∷ []) p.after p.rest) (r : IsGroup 2 (2 ∷ 6 ∷ []) q.after q.rest) (s : IsGroup 2 (6 ∷ []) r.after r.rest)
        → (length s.after ≡ 2 * 6) × (hex_bytes s.after ≡ Some s.rest) → parsed text ≡ Some bytes
    of_groups text bytes p q r s t =
        let whole : text ≡ dashed p.digits q.digits r.digits s.digits s.after =
        p.whole ∙ ap (λ (x : Text). p.digits ++ 45 ∷ x) (q.whole ∙ ap (λ (x : Text). q.digits ++ 45 ∷ x) (r.whole ∙ ap (λ (x : Text). r.digits ++ 45 ∷ x) s.whole)) in
        let last = with_others 2 (6 ∷ []) r.after r.rest s s.after t.1 in
        let third = with_others 2 (2 ∷ 6 ∷ []) q.after q.rest r (s.digits ++ s.after) last in
        let second = with_others 2 (2 ∷ 2 ∷ 6 ∷ []) p.after p.rest q (r.digits ++ (s.digits ++ s.after)) third in
        let all = with_others 4 (2 ∷ 2 ∷ 2 ∷ 6 ∷ []) text bytes p (q.digits ++ (r.digits ++ (s.digits ++ s.after))) second in
        ap parsed whole ∙ five_parsed p.digits q.digits r.digits s.digits s.after bytes (record { a8 = p.count; b4 = q.count; c4 = r.count; d4 = s.count; e12 = t.0 }) all
