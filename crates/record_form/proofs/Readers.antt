-- A reader reads exactly the spellings of its values, and stops exactly where none goes on.
use Rattle.std.proofs.Common.{◌≡◌, ℕ, suc, ◌+◌, ◌-◌, ◌^◌, ◌<◌, ◌≤◌, Bool, true, false, List, [], ◌∷◌, ◌++◌, length, get_or, drop, Result, Ok, Err, refl, sym, ap, subst, ◌∙◌, ◌⊎◌, true≢false, append_assoc, arith, inl, inr}
use Rattle.std.proofs.lemmas.Bool.{cases_Bool}
use Rattle.std.proofs.lemmas.List.{get_or-append-add}
use Rattle.record_form.specs.Reading.{◌>>=◌, Read, nothing_at, byte_at, both, pair, made, tagged}

abbrev pub IsBytes : List ℕ → Type 0
IsBytes bytes = (i : ℕ) → get_or bytes i 0 < 256

pub rest_fits : (front rest : List ℕ) → IsBytes (front ++ rest) → IsBytes rest
rest_fits front rest h i = rw (← get_or-append-add front rest i 0) (h (length front + i))

-- the bytes leave the spellings at left: what is before it goes on, and not over its first byte
pub record Stops {A : Type 0} (text : A → List ℕ) (Fits : A → Type 0) (bytes : List ℕ) (n : ℕ) : Type 0 where
  pub front : List ℕ
  pub left : List ℕ
  pub parts : bytes ≡ front ++ left
  pub count : length left ≡ n
  pub value : A
  pub fits : Fits value
  pub more : List ℕ
  pub goes_on : text value ≡ front ++ more
  pub no_more : (b : ℕ) (rest : List ℕ) → left ≡ b ∷ rest → (a : A) (more after : List ℕ) → Fits a → front ++ b ∷ more ≡ text a ++ after → ⊥

pub record IsReader {A : Type 0} (r : List ℕ → Read A) (text : A → List ℕ) (Fits : A → Type 0) : Type 0 where
  pub takes : (bytes : List ℕ) (x : A × List ℕ) → IsBytes bytes → r bytes ≡ Ok x → (bytes ≡ text x.0 ++ x.1) × Fits x.0
  pub again : (a : A) (rest : List ℕ) → Fits a → r (text a ++ rest) ≡ Ok (a, rest)
  pub stops : (bytes : List ℕ) (n : ℕ) → IsBytes bytes → r bytes ≡ Err n → Stops text Fits bytes n
  pub one : (a : A) × Fits a

-- ---- results

pub bind_ok : {A B : Type 0} (r : Result A ℕ) (f : A → Result B ℕ) (y : B) → (r >>= f) ≡ Ok y → (x : A) × (r ≡ Ok x) × (f x ≡ Ok y)
bind_ok (Ok x) f y e = (x, refl, e)
bind_ok (Err d) f y e = absurd cc

abbrev pub err_of : {A : Type 0} → Result A ℕ → ℕ
err_of (Ok x) = 0
err_of (Err n) = n

abbrev value_of : {A : Type 0} → A → Result A ℕ → A
value_of d (Ok x) = x
value_of d (Err n) = d

pub ok_is : {A : Type 0} (r : Result A ℕ) (x y : A) → r ≡ Ok x → r ≡ Ok y → x ≡ y
ok_is r x y p q = ap (value_of x) (sym p ∙ q)

pub not_both : {A : Type 0} (r : Result A ℕ) (x : A) (n : ℕ) → r ≡ Ok x → r ≡ Err n → ⊥
not_both r x n p q = let e : Ok x ≡ Err n = sym p ∙ q in cc

-- an error comes from the first, or from the second
pub bind_err : {A B : Type 0} (r : Result A ℕ) (f : A → Result B ℕ) (n : ℕ) → (r >>= f) ≡ Err n → (r ≡ Err n) ⊎ ((x : A) × (r ≡ Ok x) × (f x ≡ Err n))
bind_err (Ok x) f n e = inr (x, refl, e)
bind_err (Err d) f n e = inl (ap Err (ap err_of e))

-- ---- one byte

pub head_is : (a b : ℕ) (xs ys : List ℕ) → a ∷ xs ≡ b ∷ ys → a ≡ b
head_is a b xs ys e = ap (λ (l : List ℕ). get_or l 0 0) e

pub tail_is : (a b : ℕ) (xs ys : List ℕ) → a ∷ xs ≡ b ∷ ys → xs ≡ ys
tail_is a b xs ys e = ap (drop 1) e

pub not_cons : (b : ℕ) (bs : List ℕ) → [] ≡ b ∷ bs → ⊥
not_cons b bs e = let f : 0 ≡ suc (length bs) = ap length e in omega arith

byte_ok : (p : ℕ → Bool) (b : ℕ) (bs : List ℕ) → p b ≡ true → byte_at p (b ∷ bs) ≡ Ok (b, bs)
byte_ok p b bs h = rw h refl

byte_bad : (p : ℕ → Bool) (b : ℕ) (bs : List ℕ) → p b ≡ false → byte_at p (b ∷ bs) ≡ Err (suc (length bs))
byte_bad p b bs h = rw h refl

pub byte_takes : (p : ℕ → Bool) (bytes : List ℕ) (x : ℕ × List ℕ) → byte_at p bytes ≡ Ok x → (bytes ≡ x.0 ∷ [] ++ x.1) × (p x.0 ≡ true)
byte_takes p [] x e = absurd cc
byte_takes p (b ∷ bs) x e =
    elim (cases_Bool (p b)) [
      | inl good ↦ subst (λ (y : ℕ × List ℕ). (b ∷ bs ≡ y.0 ∷ [] ++ y.1) × (p y.0 ≡ true)) (ok_is (byte_at p (b ∷ bs)) (b, bs) x (byte_ok p b bs good) e) (refl, good)
      | inr bad ↦ absurd (not_both (byte_at p (b ∷ bs)) x (suc (length bs)) e (byte_bad p b bs bad))
    ]

byte_stops : (p : ℕ → Bool) (w : ℕ) → p w ≡ true → (bytes : List ℕ) (n : ℕ) → byte_at p bytes ≡ Err n → Stops (λ b. b ∷ []) (λ b. p b ≡ true) bytes n
byte_stops p w h [] n e = record { front = []; left = []; parts = refl; count = ap err_of e; value = w; fits = h; more = w ∷ []; goes_on = refl; no_more = λ b rest l a more after f q. not_cons b rest l }
byte_stops p w h (b ∷ bs) n e =
    elim (cases_Bool (p b)) [
      | inl good ↦ absurd (not_both (byte_at p (b ∷ bs)) (b, bs) n (byte_ok p b bs good) e)
      | inr bad ↦ record {
        front = [];
        left = b ∷ bs;
        parts = refl;
        count = ap err_of (sym (byte_bad p b bs bad) ∙ e);
        value = w;
        fits = h;
        more = w ∷ [];
        goes_on = refl;
        no_more = λ c rest l a more after f q.
            let same : b ≡ a = head_is b c bs rest l ∙ head_is c a more after q in
            true≢false (sym f ∙ (ap p (sym same) ∙ bad));
      }
    ]

pub byte_reader : (p : ℕ → Bool) (w : ℕ) → p w ≡ true → IsReader (byte_at p) (λ b. b ∷ []) (λ b. p b ≡ true)
byte_reader p w h = record {
  takes = λ bytes x fits e. byte_takes p bytes x e;
  again = λ a rest fits. byte_ok p a rest fits;
  stops = λ bytes n fits e. byte_stops p w h bytes n e;
  one = (w, h);
}

-- ---- one field and then another

both_takes : {A B : Type 0} (r : List ℕ → Read A) (text : A → List ℕ) (Fits : A → Type 0) (s : A → List ℕ → Read B) (text2 : A → B → List ℕ) (Fits2 : A → B → Type 0)
    → IsReader r text Fits → ((a : A) → Fits a → IsReader (s a) (text2 a) (Fits2 a))
    → (bytes : List ℕ) (x : (A × B) × List ℕ) → IsBytes bytes → both r s bytes ≡ Ok x → (bytes ≡ text x.0.0 ++ text2 x.0.0 x.0.1 ++ x.1) × (Fits x.0.0 × Fits2 x.0.0 x.0.1)
both_takes {A} {B} r text Fits s text2 Fits2 first second bytes x fits e =
    let p = bind_ok (r bytes) (λ x. s x.0 x.1 >>= λ y. Ok ((x.0, y.0), y.1)) x e in
    let q = bind_ok (s p.0.0 p.0.1) (λ y. Ok ((p.0.0, y.0), y.1)) x p.2 in
    let t = first.takes bytes p.0 fits p.1 in
    let rest = rest_fits (text p.0.0) p.0.1 (subst IsBytes t.0 fits) in
    let u = (second p.0.0 t.1).takes p.0.1 q.0 rest q.1 in
    let made_of : (A × B) × List ℕ = ((p.0.0, q.0.0), q.0.1) in
    let is : made_of ≡ x = ok_is (Ok made_of) made_of x refl q.2 in
    subst (λ (y : (A × B) × List ℕ). (bytes ≡ text y.0.0 ++ text2 y.0.0 y.0.1 ++ y.1) × (Fits y.0.0 × Fits2 y.0.0 y.0.1)) is
    (t.0 ∙ (ap (λ (l : List ℕ). text p.0.0 ++ l) u.0 ∙ sym (append_assoc (text p.0.0) (text2 p.0.0 q.0.0) q.0.1)), (t.1, u.1))

both_again : {A B : Type 0} (r : List ℕ → Read A) (text : A → List ℕ) (Fits : A → Type 0) (s : A → List ℕ → Read B) (text2 : A → B → List ℕ) (Fits2 : A → B → Type 0)
    → IsReader r text Fits → ((a : A) → Fits a → IsReader (s a) (text2 a) (Fits2 a))
    → (a : A × B) (rest : List ℕ) → Fits a.0 × Fits2 a.0 a.1 → both r s (text a.0 ++ text2 a.0 a.1 ++ rest) ≡ Ok (a, rest)
both_again r text Fits s text2 Fits2 first second a rest fits =
    ap (both r s) (append_assoc (text a.0) (text2 a.0 a.1) rest)
    ∙ rw (first.again a.0 (text2 a.0 a.1 ++ rest) fits.0, (second a.0 fits.0).again a.1 rest fits.1) refl

both_stops : {A B : Type 0} (r : List ℕ → Read A) (text : A → List ℕ) (Fits : A → Type 0) (s : A → List ℕ → Read B) (text2 : A → B → List ℕ) (Fits2 : A → B → Type 0)
    → IsReader r text Fits → ((a : A) → Fits a → IsReader (s a) (text2 a) (Fits2 a))
    → (bytes : List ℕ) (n : ℕ) → IsBytes bytes → both r s bytes ≡ Err n → Stops {A = A × B} (λ a. text a.0 ++ text2 a.0 a.1) (λ a. Fits a.0 × Fits2 a.0 a.1) bytes n
both_stops {A} {B} r text Fits s text2 Fits2 first second bytes n fits e =
    elim (bind_err (r bytes) (λ x. s x.0 x.1 >>= λ y. Ok ((x.0, y.0), y.1)) n e) [
      | inl early ↦
          let t = first.stops bytes n fits early in
          let b = (second t.value t.fits).one in
          record {
            front = t.front;
            left = t.left;
            parts = t.parts;
            count = t.count;
            value = (t.value, b.0);
            fits = (t.fits, b.1);
            more = t.more ++ text2 t.value b.0;
            goes_on = ap (λ (l : List ℕ). l ++ text2 t.value b.0) t.goes_on ∙ append_assoc t.front t.more (text2 t.value b.0);
            no_more = λ c rest l a more after f q. t.no_more c rest l a.0 more (text2 a.0 a.1 ++ after) f.0 (q ∙ append_assoc (text a.0) (text2 a.0 a.1) after);
          }
      | inr late ↦
          let p = late.0 in
          let t = first.takes bytes p fits late.1 in
          let rest_is = rest_fits (text p.0) p.1 (subst IsBytes t.0 fits) in
          elim (bind_err (s p.0 p.1) (λ y. Ok ((p.0, y.0), y.1)) n late.2) [
            | inl stopped ↦
                let u = (second p.0 t.1).stops p.1 n rest_is stopped in
                record {
                  front = text p.0 ++ u.front;
                  left = u.left;
                  parts = t.0 ∙ (ap (λ (l : List ℕ). text p.0 ++ l) u.parts ∙ sym (append_assoc (text p.0) u.front u.left));
                  count = u.count;
                  value = (p.0, u.value);
                  fits = (t.1, u.fits);
                  more = u.more;
                  goes_on = ap (λ (l : List ℕ). text p.0 ++ l) u.goes_on ∙ sym (append_assoc (text p.0) u.front u.more);
                  no_more = λ c rest l a more after f q.
                      let joined : text p.0 ++ (u.front ++ c ∷ more) ≡ text a.0 ++ (text2 a.0 a.1 ++ after) = sym (append_assoc (text p.0) u.front (c ∷ more)) ∙ (q ∙ append_assoc (text a.0) (text2 a.0 a.1) after) in
                      let same : (p.0, u.front ++ c ∷ more) ≡ (a.0, text2 a.0 a.1 ++ after) = ok_is (r (text a.0 ++ (text2 a.0 a.1 ++ after))) (p.0, u.front ++ c ∷ more) (a.0, text2 a.0 a.1 ++ after) (ap r (sym joined) ∙ first.again p.0 (u.front ++ c ∷ more) t.1) (first.again a.0 (text2 a.0 a.1 ++ after) f.0) in
                      let value : p.0 ≡ a.0 = ap (λ (y : A × List ℕ). y.0) same in
                      let after_it : u.front ++ c ∷ more ≡ text2 a.0 a.1 ++ after = ap (λ (y : A × List ℕ). y.1) same in
                      u.no_more c rest l a.1 more after (subst (λ (v : A). Fits2 v a.1) (sym value) f.1) (subst (λ (v : A). u.front ++ c ∷ more ≡ text2 v a.1 ++ after) (sym value) after_it);
                }
            | inr never ↦ absurd (not_both {A = (A × B) × List ℕ} (Ok ((p.0, never.0.0), never.0.1)) ((p.0, never.0.0), never.0.1) n refl never.2)
          ]
    ]

pub both_reader : {A B : Type 0} (r : List ℕ → Read A) (text : A → List ℕ) (Fits : A → Type 0) (s : A → List ℕ → Read B) (text2 : A → B → List ℕ) (Fits2 : A → B → Type 0)
    → IsReader r text Fits → ((a : A) → Fits a → IsReader (s a) (text2 a) (Fits2 a))
    → IsReader {A = A × B} (both r s) (λ a. text a.0 ++ text2 a.0 a.1) (λ a. Fits a.0 × Fits2 a.0 a.1)
both_reader r text Fits s text2 Fits2 first second = record {
  takes = both_takes r text Fits s text2 Fits2 first second;
  again = both_again r text Fits s text2 Fits2 first second;
  stops = both_stops r text Fits s text2 Fits2 first second;
  one = let a = first.one in let b = (second a.0 a.1).one in ((a.0, b.0), (a.1, b.1));
}

-- one field and another
pub pair_reader : {A B : Type 0} {r : List ℕ → Read A} {text : A → List ℕ} {Fits : A → Type 0} {s : List ℕ → Read B} {text2 : B → List ℕ} {Fits2 : B → Type 0}
    → IsReader r text Fits → IsReader s text2 Fits2 → IsReader {A = A × B} (pair r s) (λ a. text a.0 ++ text2 a.1) (λ a. Fits a.0 × Fits2 a.1)
pair_reader {A} {B} {r} {text} {Fits} {s} {text2} {Fits2} first second = both_reader r text Fits (λ _. s) (λ _ b. text2 b) (λ _ b. Fits2 b) first (λ _ _. second)

-- ---- no bytes

pub nothing_reader : IsReader nothing_at (λ _. []) (λ _. Unit {0})
nothing_reader = record {
  takes = λ bytes x fits e. (ap (λ (y : Unit {0} × List ℕ). y.1) (ok_is (nothing_at bytes) (tt, bytes) x refl e), tt);
  again = λ a rest fits. refl;
  stops = λ bytes n fits e. absurd (not_both (nothing_at bytes) (tt, bytes) n refl e);
  one = (tt, tt);
}

-- ---- the value that a field stands for

-- f makes each value of one field, with its spelling
pub record Makes {A B : Type 0} (f : A → B) (text : A → List ℕ) (Fits : A → Type 0) (text2 : B → List ℕ) (Fits2 : B → Type 0) : Type 0 where
  pub same : (a : A) → Fits a → text2 (f a) ≡ text a
  pub fits : (a : A) → Fits a → Fits2 (f a)
  pub from : (b : B) → Fits2 b → (a : A) × Fits a × (f a ≡ b)

made_takes : {A B : Type 0} (r : List ℕ → Read A) (text : A → List ℕ) (Fits : A → Type 0) (f : A → B) (text2 : B → List ℕ) (Fits2 : B → Type 0) → IsReader r text Fits → Makes f text Fits text2 Fits2
    → (bytes : List ℕ) (x : B × List ℕ) → IsBytes bytes → made f r bytes ≡ Ok x → (bytes ≡ text2 x.0 ++ x.1) × Fits2 x.0
made_takes {A} {B} r text Fits f text2 Fits2 reader makes bytes x fits e =
    let p = bind_ok (r bytes) (λ x. Ok (f x.0, x.1)) x e in
    let t = reader.takes bytes p.0 fits p.1 in
    let it : B × List ℕ = (f p.0.0, p.0.1) in
    let is : it ≡ x = ok_is (Ok it) it x refl p.2 in
    subst (λ (y : B × List ℕ). (bytes ≡ text2 y.0 ++ y.1) × Fits2 y.0) is (t.0 ∙ ap (λ (l : List ℕ). l ++ p.0.1) (sym (makes.same p.0.0 t.1)), makes.fits p.0.0 t.1)

made_again : {A B : Type 0} (r : List ℕ → Read A) (text : A → List ℕ) (Fits : A → Type 0) (f : A → B) (text2 : B → List ℕ) (Fits2 : B → Type 0) → IsReader r text Fits → Makes f text Fits text2 Fits2
    → (b : B) (rest : List ℕ) → Fits2 b → made f r (text2 b ++ rest) ≡ Ok (b, rest)
made_again {A} {B} r text Fits f text2 Fits2 reader makes b rest h =
    let a = makes.from b h in
    let spelt : text2 b ≡ text a.0 = ap text2 (sym a.2) ∙ makes.same a.0 a.1 in
    ap (λ (l : List ℕ). made f r (l ++ rest)) spelt
    ∙ (ap (λ (read : Read A). read >>= λ x. Ok (f x.0, x.1)) (reader.again a.0 rest a.1) ∙ ap (λ (v : B). Ok (v, rest)) a.2)

made_stops : {A B : Type 0} (r : List ℕ → Read A) (text : A → List ℕ) (Fits : A → Type 0) (f : A → B) (text2 : B → List ℕ) (Fits2 : B → Type 0) → IsReader r text Fits → Makes f text Fits text2 Fits2
    → (bytes : List ℕ) (n : ℕ) → IsBytes bytes → made f r bytes ≡ Err n → Stops text2 Fits2 bytes n
made_stops {A} {B} r text Fits f text2 Fits2 reader makes bytes n fits e =
    elim (bind_err (r bytes) (λ x. Ok (f x.0, x.1)) n e) [
      | inl early ↦
          let t = reader.stops bytes n fits early in
          record {
            front = t.front;
            left = t.left;
            parts = t.parts;
            count = t.count;
            value = f t.value;
            fits = makes.fits t.value t.fits;
            more = t.more;
            goes_on = makes.same t.value t.fits ∙ t.goes_on;
            no_more = λ c rest l b more after h q.
                let a = makes.from b h in
                let spelt : text2 b ≡ text a.0 = ap text2 (sym a.2) ∙ makes.same a.0 a.1 in
                t.no_more c rest l a.0 more after a.1 (q ∙ ap (λ (l : List ℕ). l ++ after) spelt);
          }
      | inr never ↦ absurd (not_both {A = B × List ℕ} (Ok (f never.0.0, never.0.1)) (f never.0.0, never.0.1) n refl never.2)
    ]

pub made_reader : {A B : Type 0} {r : List ℕ → Read A} {text : A → List ℕ} {Fits : A → Type 0} {f : A → B} {text2 : B → List ℕ} {Fits2 : B → Type 0}
    → IsReader r text Fits → Makes f text Fits text2 Fits2 → IsReader (made f r) text2 Fits2
made_reader {A} {B} {r} {text} {Fits} {f} {text2} {Fits2} reader makes = record {
  takes = made_takes r text Fits f text2 Fits2 reader makes;
  again = made_again r text Fits f text2 Fits2 reader makes;
  stops = made_stops r text Fits f text2 Fits2 reader makes;
  one = let a = reader.one in (f a.0, makes.fits a.0 a.1);
}

-- ---- a byte that tells what comes after it

-- the first byte of a spelling
abbrev pub tag : {A : Type 0} → (A → List ℕ) → A → ℕ
tag text a = get_or (text a) 0 0

-- the bytes after it
abbrev pub body : {A : Type 0} → (A → List ℕ) → A → List ℕ
body text a = drop 1 (text a)

-- the values with one first byte
abbrev pub Tagged : {A : Type 0} → (A → List ℕ) → (A → Type 0) → ℕ → A → Type 0
Tagged text Fits t a = Fits a × (tag text a ≡ t)

pub tagged_reader : {A : Type 0} (is_tag : ℕ → Bool) (body_at : ℕ → List ℕ → Read A) (text : A → List ℕ) (Fits : A → Type 0) (first : ℕ) → is_tag first ≡ true
    → ((a : A) → Fits a → (is_tag (tag text a) ≡ true) × (text a ≡ tag text a ∷ body text a))
    → ((t : ℕ) → is_tag t ≡ true → IsReader (body_at t) (body text) (Tagged text Fits t))
    → IsReader (tagged is_tag body_at) text Fits
tagged_reader {A} is_tag body_at text Fits first good begun cases =
    made_reader {f = λ p. p.1} (both_reader (byte_at is_tag) (λ b. b ∷ []) (λ b. is_tag b ≡ true) body_at (λ _ a. body text a) (λ t a. Tagged text Fits t a) (byte_reader is_tag first good) cases)
    (record {
      same = λ p h. (begun p.1 h.1.0).1 ∙ ap (λ (t : ℕ). t ∷ body text p.1) h.1.1;
      fits = λ p h. h.1.0;
      from = λ a h. ((tag text a, a), ((begun a h).0, (h, refl)), refl);
    })
