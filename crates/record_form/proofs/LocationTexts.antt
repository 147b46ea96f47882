-- Locations are read exactly.
use Rattle.std.proofs.Common.{◌≡◌, ℕ, zero, suc, ◌+◌, ◌<◌, ◌≤◌, ◌⊎◌, Bool, true, false, cond, ◌&&◌, ◌||◌, ◌==◌, List, [], ◌∷◌, ◌++◌, length, get_or, take, drop, nat_lt, Option, Some, None, true≢false, refl, sym, ap, subst, ◌∙◌, inl, inr, arith, append_assoc, length-append}
use Rattle.std.specs.List.{list_all, position_or_len}
use Rattle.std.specs.Prelude.{nat_le, IsTrue}
use Rattle.std.proofs.lemmas.Bool.{cases_Bool, cases_eq, cases_lt, and_parts, and_from, eqb-true, ne_eqb, leb-true, le-leb, ltb-true, lt-ltb}
use Rattle.std.proofs.lemmas.List.{take_at, drop_at, drop_all}
use Rattle.std.proofs.lemmas.List.Sums.{split_at_first, passes_at_first}
use Rattle.cell_world.specs.Texts.{is_letter, is_digit, is_part_byte, is_part, is_slash, is_location}
use Rattle.record_form.specs.Reading.{is_from, byte_at, text_at}
use Rattle.record_form.specs.Layout.{text_bytes}
use Rattle.record_form.specs.Fields.{fits_part, location_next, location_at}
use Rattle.record_form.specs.declared.locations.InLocation.{InLocation}
use Rattle.record_form.specs.declared.locations.InLocation.TheVariants.{Server, Database}
use Rattle.record_form.proofs.Readers.{IsReader, byte_reader, both_reader, made_reader}
use Rattle.record_form.proofs.Walks.{IsLive, Walks, walk_length, text_reader}
use Rattle.record_form.proofs.NameTexts.{chosen, bounds, in_bounds}

-- with so many bytes left, a location can still be made
abbrev Live : ℕ → InLocation → Type 0
Live m (Server n) = (n ≤ 64) × (2 ≤ m) × (3 ≤ m + n) × (m + n ≤ 129)
Live m (Database n) = (1 ≤ m + n) × (m + n ≤ 64)

later_fits : (n : ℕ) → fits_part n 97 ≡ true
later_fits zero = refl
later_fits (suc n) = rw (ne_eqb (suc n) 0 (λ e. omega arith)) refl

letter_on : (m n : ℕ) → 2 ≤ m → n < 64 → m + n ≤ 128 → location_next m (Server n) 97 ≡ Some (Server (n + 1))
letter_on m n a b c = rw (later_fits n, le-leb 2 m a, lt-ltb n 64 b, le-leb (m + n) 128 c) refl

way_on : (m : ℕ) (p : InLocation) → Live (suc m) p → (b : ℕ) × (t : InLocation) × (location_next m p b ≡ Some t)
way_on m (Database n) h = let most = h.1 in (97, Database (n + 1), rw (later_fits n, lt-ltb n 64 (omega arith)) refl)
way_on m (Server n) h =
    let two = h.1 in
    let three = h.2 in
    let most = h.3 in
    elim (cases_lt n 1) [
      | inl none ↦ (97, Server (n + 1), letter_on m n (omega arith) (omega arith) (omega arith))
      | inr some ↦ elim (cases_lt 64 m) [
        | inl long ↦ (97, Server (n + 1), letter_on m n (omega arith) (omega arith) (omega arith))
        | inr short ↦ (47, Database 0, rw (le-leb 1 n some, le-leb 1 m (omega arith), le-leb m 64 short) refl)
      ]
    ]

of_true : {A : Type 0} (b : Bool) (x y z : A) → b ≡ true → cond b x y ≡ z → x ≡ z
of_true true x y z e h = h
of_true false x y z e h = absurd (true≢false (sym e))

of_false : {A : Type 0} (b : Bool) (x y z : A) → b ≡ false → cond b x y ≡ z → y ≡ z
of_false true x y z e h = absurd (true≢false e)
of_false false x y z e h = h

abbrev after_slash : ℕ → ℕ → Option InLocation
after_slash m n = cond (nat_le 1 n && (nat_le 1 m && nat_le m 64)) (Some (Database 0)) None

abbrev after_letter : ℕ → ℕ → ℕ → Option InLocation
after_letter m n b = cond (fits_part n b && (nat_le 2 m && (nat_lt n 64 && nat_le (m + n) 128))) (Some (Server (n + 1))) None

-- what a step from the server says
slashed : (m n : ℕ) (t : InLocation) → after_slash m n ≡ Some t → (1 ≤ n) × (1 ≤ m) × (m ≤ 64) × (Database 0 ≡ t)
slashed m n t e =
    let c = chosen (nat_le 1 n && (nat_le 1 m && nat_le m 64)) (Database 0) t e in
    let p = and_parts (nat_le 1 n) (nat_le 1 m && nat_le m 64) c.0 in
    let q = and_parts (nat_le 1 m) (nat_le m 64) p.1 in
    (leb-true 1 n p.0, leb-true 1 m q.0, leb-true m 64 q.1, c.1)

lettered : (m n b : ℕ) (t : InLocation) → after_letter m n b ≡ Some t → (fits_part n b ≡ true) × (2 ≤ m) × (n < 64) × (m + n ≤ 128) × (Server (n + 1) ≡ t)
lettered m n b t e =
    let c = chosen (fits_part n b && (nat_le 2 m && (nat_lt n 64 && nat_le (m + n) 128))) (Server (n + 1)) t e in
    let p = and_parts (fits_part n b) (nat_le 2 m && (nat_lt n 64 && nat_le (m + n) 128)) c.0 in
    let q = and_parts (nat_le 2 m) (nat_lt n 64 && nat_le (m + n) 128) p.1 in
    let r = and_parts (nat_lt n 64) (nat_le (m + n) 128) q.1 in
    (p.0, leb-true 2 m q.0, ltb-true n 64 r.0, leb-true (m + n) 128 r.1, c.1)

keeps : (m : ℕ) (p : InLocation) (b : ℕ) (t : InLocation) → Live (suc m) p → location_next m p b ≡ Some t → Live m t
keeps m (Database n) b t h e =
    let c = chosen (fits_part n b && nat_lt n 64) (Database (n + 1)) t e in
    let low = h.0 in
    let high = h.1 in
    subst (Live m) c.1 (omega arith, omega arith)
keeps m (Server n) b t h e =
    elim (cases_Bool (b == 47)) [
      | inl slash ↦
          let s = slashed m n t (of_true (b == 47) (after_slash m n) (after_letter m n b) (Some t) slash e) in
          let low = s.1 in
          let high = s.2 in
          subst (Live m) s.3 (omega arith, omega arith)
      | inr other ↦
          let s = lettered m n b t (of_false (b == 47) (after_slash m n) (after_letter m n b) (Some t) other e) in
          let a = s.1 in
          let c = s.2 in
          let d = s.3 in
          subst (Live m) s.4 (omega arith, a, omega arith, omega arith)
    ]

pub location_live : IsLive location_next Live
location_live = record { way = way_on; keeps = keeps }

-- ---- the walks are the locations

-- the bytes fit from place n of a part on
abbrev fits_from : ℕ → List ℕ → Bool
fits_from n [] = true
fits_from n (c ∷ cs) = fits_part n c && fits_from (n + 1) cs

later_all : (n : ℕ) (cs : List ℕ) → 0 < n → fits_from n cs ≡ list_all is_part_byte cs
later_all n [] lt = refl
later_all n (c ∷ cs) lt = rw (ne_eqb n 0 (λ e. omega arith), later_all (n + 1) cs (omega arith)) refl

-- what fits from the start on is a part
part_of : (cs : List ℕ) → fits_from 0 cs ≡ true → 0 < length cs → length cs ≤ 64 → is_part cs ≡ true
part_of [] h lt le = absurd (omega arith)
part_of (c ∷ cs) h lt le =
    let p = and_parts (is_letter c || is_digit c) (fits_from 1 cs) h in
    let first = p.0 in
    let later : list_all is_part_byte cs ≡ true = sym (later_all 1 cs (omega arith)) ∙ p.1 in
    rw (first, lt-ltb (length cs) 64 (omega arith), later) refl

database_walk : (m n : ℕ) (text : List ℕ) → Walks location_next m (Database n) text → (length text ≡ m) × (fits_from n text ≡ true)
database_walk zero n [] w = (refl, refl)
database_walk zero n (b ∷ bs) w = absurd w
database_walk (suc m) n [] w = absurd w
database_walk (suc m) n (b ∷ bs) w =
    let c = chosen (fits_part n b && nat_lt n 64) (Database (n + 1)) w.0 w.1 in
    let good = (and_parts (fits_part n b) (nat_lt n 64) c.0).0 in
    let rest = database_walk m (n + 1) bs (subst (λ (t : InLocation). Walks location_next m t bs) (sym c.1) w.2) in
    (ap (λ (k : ℕ). suc k) rest.0, rw (good, rest.1) refl)

-- a server's bytes from place n on, a slash, and a database
record Parted (n : ℕ) (text : List ℕ) : Type 0 where
  front : List ℕ
  back : List ℕ
  parts : text ≡ front ++ 47 ∷ back
  fits : fits_from n front ≡ true
  some : 1 ≤ length front + n
  most : length front + n ≤ 64
  fits_back : fits_from 0 back ≡ true
  some_back : 1 ≤ length back
  most_back : length back ≤ 64

server_walk : (m n : ℕ) (text : List ℕ) → n ≤ 64 → 0 < m → Walks location_next m (Server n) text → Parted n text
server_walk zero n text le lt w = absurd (omega arith)
server_walk (suc m) n [] le lt w = absurd w
server_walk (suc m) n (b ∷ bs) le lt w =
    elim (cases_Bool (b == 47)) [
      | inl slash ↦
          let s = slashed m n w.0 (of_true (b == 47) (after_slash m n) (after_letter m n b) (Some w.0) slash w.1) in
          let d = database_walk m 0 bs (subst (λ (t : InLocation). Walks location_next m t bs) (sym s.3) w.2) in
          let long = d.0 in
          let some = s.0 in
          let low = s.1 in
          let high = s.2 in
          record { front = []; back = bs; parts = ap (λ (c : ℕ). c ∷ bs) (eqb-true b 47 slash); fits = refl; some = omega arith; most = omega arith; fits_back = d.1; some_back = omega arith; most_back = omega arith }
      | inr other ↦
          let s = lettered m n b w.0 (of_false (b == 47) (after_slash m n) (after_letter m n b) (Some w.0) other w.1) in
          let two = s.1 in
          let short = s.2 in
          let r = server_walk m (n + 1) bs (omega arith) (omega arith) (subst (λ (t : InLocation). Walks location_next m t bs) (sym s.4) w.2) in
          let some = r.some in
          let most = r.most in
          record { front = b ∷ r.front; back = r.back; parts = ap (λ (l : List ℕ). b ∷ l) r.parts; fits = and_from (fits_part n b) (fits_from (n + 1) r.front) s.0 r.fits; some = omega arith; most = omega arith; fits_back = r.fits_back; some_back = r.some_back; most_back = r.most_back }
    ]

no_slash : (n c : ℕ) → fits_part n c ≡ true → (c == 47) ≡ false
no_slash n c h =
    elim (cases_eq c 47) [
      | inl slash ↦ absurd (true≢false (sym h ∙ (ap (fits_part n) slash ∙ slash_fits n)))
      | inr other ↦ ne_eqb c 47 other
    ]
  where
    slash_fits : (n : ℕ) → fits_part n 47 ≡ false
    slash_fits zero = refl
    slash_fits (suc n) = rw (ne_eqb (suc n) 0 (λ e. omega arith)) refl

-- ---- a location is a server, a slash and a database

slash_at : (n : ℕ) (front back : List ℕ) → fits_from n front ≡ true → position_or_len is_slash (front ++ 47 ∷ back) ≡ length front
slash_at n [] back h = refl
slash_at n (c ∷ cs) back h =
    let p = and_parts (fits_part n c) (fits_from (n + 1) cs) h in
    rw (no_slash n c p.0, slash_at (n + 1) cs back p.1) (omega arith)

joined : (front back : List ℕ) → fits_from 0 front ≡ true → 0 < length front → length front ≤ 64 → fits_from 0 back ≡ true → 0 < length back → length back ≤ 64 → IsTrue (is_location (front ++ 47 ∷ back))
joined front back fits some most fits_back some_back most_back =
    let at = slash_at 0 front back fits in
    let long = length-append front (47 ∷ []) in
    let server : take (length front) (front ++ 47 ∷ back) ≡ front = take_at front (47 ∷ back) (length front) refl in
    let database : drop (length front + 1) (front ++ 47 ∷ back) ≡ back = ap (drop (length front + 1)) (sym (append_assoc front (47 ∷ []) back)) ∙ drop_at (front ++ 47 ∷ []) back (length front + 1) (omega (arith, long)) in
    rw (at, server, database, part_of front fits some most, part_of back fits_back some_back most_back) refl

-- what is read is a location
pub walked_location : (m : ℕ) (text : List ℕ) → is_from 3 129 m ≡ true → Walks location_next m (Server 0) text → (length text ≡ m) × IsTrue (is_location text)
walked_location m text in_it w =
    let low = (bounds 3 129 m in_it).0 in
    let p = server_walk m 0 text (omega arith) (omega arith) w in
    let some = p.some in
    let most = p.most in
    (walk_length location_next m (Server 0) text w, subst (λ (t : List ℕ). IsTrue (is_location t)) (sym p.parts) (joined p.front p.back p.fits (omega arith) (omega arith) p.fits_back p.some_back p.most_back))

-- ---- and each location is read

database_walks : (n : ℕ) (text : List ℕ) → length text + n ≤ 64 → fits_from n text ≡ true → Walks location_next (length text) (Database n) text
database_walks n [] most h = tt
database_walks n (c ∷ cs) most h =
    let p = and_parts (fits_part n c) (fits_from (n + 1) cs) h in
    let good = p.0 in
    (Database (n + 1), rw (good, lt-ltb n 64 (omega arith)) refl, database_walks (n + 1) cs (omega arith) p.1)

server_walks : (n : ℕ) (front back : List ℕ) → fits_from n front ≡ true → 1 ≤ length front + n → length front + n ≤ 64 → fits_from 0 back ≡ true → 1 ≤ length back → length back ≤ 64
    → Walks location_next (length (front ++ 47 ∷ back)) (Server n) (front ++ 47 ∷ back)
server_walks n [] back h some most hb someb mostb =
    (Database 0, rw (le-leb 1 n (omega arith), le-leb 1 (length back) someb, le-leb (length back) 64 mostb) refl, database_walks 0 back (omega arith) hb)
server_walks n (c ∷ cs) back h some most hb someb mostb =
    let p = and_parts (fits_part n c) (fits_from (n + 1) cs) h in
    let good = p.0 in
    let long : length (cs ++ 47 ∷ back) ≡ length cs + (1 + length back) = omega (arith, length-append cs (47 ∷ back)) in (
      Server (n + 1),
      rw (no_slash n c good, good, le-leb 2 (length (cs ++ 47 ∷ back)) (omega (arith, long)), lt-ltb n 64 (omega arith), le-leb (length (cs ++ 47 ∷ back) + n) 128 (omega (arith, long))) refl,
      server_walks (n + 1) cs back p.1 (omega arith) (omega arith) hb someb mostb,
    )

part_from : (cs : List ℕ) → is_part cs ≡ true → (fits_from 0 cs ≡ true) × (1 ≤ length cs) × (length cs ≤ 64)
part_from [] h = absurd (true≢false (sym h))
part_from (c ∷ cs) h =
    let p = and_parts (is_letter c || is_digit c) _ h in
    let q = and_parts (nat_lt (length cs) 64) (list_all is_part_byte cs) p.1 in
    let short = ltb-true (length cs) 64 q.0 in
    (and_from (is_letter c || is_digit c) (fits_from 1 cs) p.0 (later_all 1 cs (omega arith) ∙ q.1), omega arith, omega arith)

-- the two parts of a location
pub record IsSplit (text : List ℕ) : Type 0 where
  pub server : List ℕ
  pub database : List ℕ
  pub parts : text ≡ server ++ 47 ∷ database
  pub is_server : is_part server ≡ true
  pub is_database : is_part database ≡ true

pub split : (text : List ℕ) → IsTrue (is_location text) → IsSplit text
split text h =
    let at = position_or_len is_slash text in
    let p = and_parts (is_part (take at text)) (is_part (drop (at + 1) text)) h in
    elim (cases_lt at (length text)) [
      | inl some ↦
          let slash : get_or text at 0 ≡ 47 = eqb-true (get_or text at 0) 47 (passes_at_first is_slash text 0 some) in
          record { server = take at text; database = drop (at + 1) text; parts = split_at_first is_slash text 0 some ∙ ap (λ (c : ℕ). take at text ++ c ∷ drop (at + 1) text) slash; is_server = p.0; is_database = p.1 }
      | inr none ↦
          let empty : drop (at + 1) text ≡ [] = drop_all (at + 1) text (omega arith) in
          absurd (true≢false (sym p.1 ∙ ap is_part empty))
    ]

pub location_walks : (text : List ℕ) → IsTrue (is_location text) → (is_from 3 129 (length text) ≡ true) × Walks location_next (length text) (Server 0) text
location_walks text is =
    let h = split text is in
    let s = part_from h.server h.is_server in
    let d = part_from h.database h.is_database in
    let a = s.1 in
    let b = s.2 in
    let e = d.1 in
    let f = d.2 in
    let long = length-append h.server (47 ∷ h.database) in
    subst (λ (t : List ℕ). (is_from 3 129 (length t) ≡ true) × Walks location_next (length t) (Server 0) t) (sym h.parts)
    (in_bounds 3 129 (length (h.server ++ 47 ∷ h.database)) (omega (arith, long)) (omega (arith, long)), server_walks 0 h.server h.database s.0 (omega arith) (omega arith) d.0 d.1 d.2)

pub location_reader : IsReader location_at text_bytes (λ location. IsTrue (is_location location))
unfolding location_at
location_reader =
    made_reader {f = λ p. p.1} (both_reader (byte_at (is_from 3 129)) (λ b. b ∷ []) (λ b. is_from 3 129 b ≡ true) (λ n. text_at location_next n (Server 0)) (λ n t. t) (λ n t. Walks location_next n (Server 0) t)
    (byte_reader (is_from 3 129) 3 refl)
    (λ n h. let p = bounds 3 129 n h in let low = p.0 in let high = p.1 in text_reader location_next Live location_live n (Server 0) (omega arith, omega arith, omega arith, omega arith)))
    (record {
      same = λ p h. ap (λ (n : ℕ). n ∷ p.1) (walked_location p.0 p.1 h.0 h.1).0;
      fits = λ p h. (walked_location p.0 p.1 h.0 h.1).1;
      from = λ location h. ((length location, location), location_walks location h, refl);
    })
