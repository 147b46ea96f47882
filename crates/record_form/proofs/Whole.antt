-- All of the bytes are read.
use Rattle.std.proofs.Common.{◌≡◌, ℕ, ◌+◌, ◌-◌, ◌<◌, ◌≤◌, true, false, cond, eqb, List, [], ◌∷◌, ◌++◌, length, take, true≢false, Result, Ok, Err, refl, sym, ap, subst, ◌∙◌, append_assoc, arith, inl, inr}
use Rattle.std.specs.Prelude.{IsOk}
use Rattle.std.proofs.lemmas.Bool.{cases_Bool, eqb-true}
use Rattle.std.proofs.lemmas.List.{take_at, length-append, append-nil, nil_from_length}
use Rattle.text_scan.specs.Places.{BeginsOne, Leaves}
use Rattle.record_form.specs.Reading.{◌>>=◌, Read, whole, GivesAll}
use Rattle.record_form.specs.declared.stops.Stop.{Stop}
use Rattle.record_form.specs.declared.stops.Stop.TheVariants as stop
use Rattle.record_form.proofs.Readers.{IsBytes, IsReader, bind_ok, bind_err, err_of, ok_is, not_both, not_cons}

-- the bytes spell a value
abbrev pub Spells : {A : Type 0} → (A → List ℕ) → (A → Type 0) → List ℕ → Type 0
Spells {A} text Fits bytes = (a : A) × Fits a × (bytes ≡ text a)

-- ---- all of the bytes

pub whole_takes : {A : Type 0} (r : List ℕ → Read A) (text : A → List ℕ) (Fits : A → Type 0) → IsReader r text Fits → (bytes : List ℕ) (a : A) → IsBytes bytes → whole r bytes ≡ Ok a → (bytes ≡ text a) × Fits a
whole_takes r text Fits reader bytes a fits e =
    let p = bind_ok (r bytes) (λ x. cond (eqb (length x.1) 0) (Ok x.0) (Err (length x.1))) a e in
    let t = reader.takes bytes p.0 fits p.1 in
    elim (cases_Bool (eqb (length p.0.1) 0)) [
      | inl ended ↦
          let same = ok_is (Ok p.0.0) p.0.0 a refl (rw ended at p.2) in
          let none = nil_from_length p.0.1 (eqb-true (length p.0.1) 0 ended) in
          subst (λ y. (bytes ≡ text y) × Fits y) same (t.0 ∙ (ap (λ (l : List ℕ). text p.0.0 ++ l) none ∙ append-nil (text p.0.0)), t.1)
      | inr left ↦ absurd (not_both (Err (length p.0.1)) a (length p.0.1) (rw left at p.2) refl)
    ]

pub whole_again : {A : Type 0} (r : List ℕ → Read A) (text : A → List ℕ) (Fits : A → Type 0) → IsReader r text Fits → (a : A) → Fits a → whole r (text a) ≡ Ok a
whole_again r text Fits reader a h =
    ap (whole r) (sym (append-nil (text a))) ∙ rw (reader.again a [] h) refl

take_front : (front left : List ℕ) (n : ℕ) → length left ≡ n → take (length (front ++ left) - n) (front ++ left) ≡ front
take_front front left n e =
    let long : length (front ++ left) - n ≡ length front = omega (arith, length-append front left, e) in
    rw long (take_at front left (length front) refl)

place_from : {A : Type 0} (text : A → List ℕ) (Fits : A → Type 0) (front left : List ℕ) (n : ℕ) → length left ≡ n → (a : A) → Fits a → (more : List ℕ) → text a ≡ front ++ more
    → ((b : ℕ) (rest : List ℕ) → left ≡ b ∷ rest → (a : A) (more : List ℕ) → Fits a → front ++ b ∷ more ≡ text a → ⊥)
    → ((a : A) → Fits a → front ++ left ≡ text a → ⊥)
    → Leaves (Spells text Fits) (front ++ left) (length (front ++ left) - n)
place_from {A} text Fits front left n e a fits more on no_more not_whole =
    let long : length (front ++ left) - n ≡ length front = omega (arith, length-append front left, e) in
    record {
      within = omega arith;
      before = (more, (a, fits, rw (take_front front left n e) (sym on)));
      after = λ lt found. after_it front left no_more (subst (λ (k : ℕ). k < length (front ++ left)) long lt) (subst (λ (k : ℕ). BeginsOne (Spells text Fits) (take (k + 1) (front ++ left))) long found);
      ended = λ _ found. not_whole found.0 found.1 found.2;
    }
  where
    after_it : (front left : List ℕ) → ((b : ℕ) (rest : List ℕ) → left ≡ b ∷ rest → (a : A) (more : List ℕ) → Fits a → front ++ b ∷ more ≡ text a → ⊥) → length front < length (front ++ left) → BeginsOne (Spells text Fits) (take (length front + 1) (front ++ left)) → ⊥
    after_it front [] no_more lt found = omega (arith, length-append front [])
    after_it front (b ∷ rest) no_more lt found =
        let one : take (length front + 1) (front ++ b ∷ rest) ≡ front ++ b ∷ [] = ap (take (length front + 1)) (sym (append_assoc front (b ∷ []) rest)) ∙ take_at (front ++ b ∷ []) rest (length front + 1) (length-append front (b ∷ [])) in
        no_more b rest refl found.1.0 found.0 found.1.1 (sym (append_assoc front (b ∷ []) found.0) ∙ (ap (λ (l : List ℕ). l ++ found.0) (sym one) ∙ found.1.2))

pub whole_stops : {A : Type 0} (r : List ℕ → Read A) (text : A → List ℕ) (Fits : A → Type 0) → IsReader r text Fits → (bytes : List ℕ) (n : ℕ) → IsBytes bytes → whole r bytes ≡ Err n
    → Leaves (Spells text Fits) bytes (length bytes - n)
whole_stops {A} r text Fits reader bytes n fits e =
    let not_whole : (a : A) → Fits a → bytes ≡ text a → ⊥ = λ a h q. not_both (whole r bytes) a n (ap (whole r) q ∙ whole_again r text Fits reader a h) e in
    elim (bind_err (r bytes) (λ x. cond (eqb (length x.1) 0) (Ok x.0) (Err (length x.1))) n e) [
      | inl early ↦
          let t = reader.stops bytes n fits early in
          subst (λ (l : List ℕ). Leaves (Spells text Fits) l (length l - n)) (sym t.parts)
          (place_from text Fits t.front t.left n t.count t.value t.fits t.more t.goes_on
          (λ b rest l a more h q. t.no_more b rest l a more [] h (q ∙ sym (append-nil (text a))))
          (λ a h q. not_whole a h (t.parts ∙ q)))
      | inr late ↦
          let a = late.0.0 in
          let left = late.0.1 in
          let t = reader.takes bytes late.0 fits late.1 in
          elim (cases_Bool (eqb (length left) 0)) [
            | inl ended ↦ absurd (not_both (Ok a) a n refl (rw ended at late.2))
            | inr over ↦
                subst (λ (l : List ℕ). Leaves (Spells text Fits) l (length l - n)) (sym t.0)
                (place_from text Fits (text a) left n (ap err_of (rw over at late.2)) a t.1 [] (sym (append-nil (text a)))
                (λ b rest l a2 more h q. cons_not b more (ap (λ (y : A × List ℕ). y.1) (ok_is (r (text a2)) (a, b ∷ more) (a2, []) (ap r (sym q) ∙ reader.again a (b ∷ more) t.1) (ap r (sym (append-nil (text a2))) ∙ reader.again a2 [] h))))
                (λ a2 h q. not_whole a2 h (t.0 ∙ q)))
          ]
    ]
  where
    cons_not : (b : ℕ) (bs : List ℕ) → b ∷ bs ≡ [] → ⊥
    cons_not b bs e = not_cons b bs (sym e)

-- no more is left than there was
pub whole_left : {A : Type 0} (r : List ℕ → Read A) (text : A → List ℕ) (Fits : A → Type 0) → IsReader r text Fits → (bytes : List ℕ) (n : ℕ) → IsBytes bytes → whole r bytes ≡ Err n → n ≤ length bytes
whole_left {A} r text Fits reader bytes n fits e =
    elim (bind_err (r bytes) (λ x. cond (eqb (length x.1) 0) (Ok x.0) (Err (length x.1))) n e) [
      | inl early ↦
          let t = reader.stops bytes n fits early in
          let count = t.count in
          rw t.parts (omega (arith, length-append t.front t.left, count))
      | inr late ↦
          let t = reader.takes bytes late.0 fits late.1 in
          elim (cases_Bool (eqb (length late.0.1) 0)) [
            | inl ended ↦ absurd (not_both (Ok late.0.0) late.0.0 n refl (rw ended at late.2))
            | inr over ↦
                let count : length late.0.1 ≡ n = ap err_of (rw over at late.2) in
                rw t.0 (omega (arith, length-append (text late.0.0) late.0.1, count))
          ]
    ]

-- no spelling begins another
pub one_reading : {A : Type 0} (r : List ℕ → Read A) (text : A → List ℕ) (Fits : A → Type 0) → IsReader r text Fits → (a b : A) (x y : List ℕ) → Fits a → Fits b → text a ++ x ≡ text b ++ y → (a ≡ b) × (x ≡ y)
one_reading {A} r text Fits reader a b x y fa fb e =
    let same = ok_is (r (text b ++ y)) (a, x) (b, y) (ap r (sym e) ∙ reader.again a x fa) (reader.again b y fb) in
    (ap (λ (p : A × List ℕ). p.0) same, ap (λ (p : A × List ℕ). p.1) same)

-- what was read
pub ok_value : {A : Type 0} (r : Result A ℕ) → IsOk r → (a : A) × (r ≡ Ok a)
ok_value (Ok a) h = (a, refl)
ok_value (Err n) h = absurd (true≢false (sym h))

-- what the program's stop says of the reading
pub left_of : {A : Type 0} (read : Result A ℕ) (s : Stop) (n : ℕ) → s ≡ stop.Left n → GivesAll read (Err s) → read ≡ Err n
left_of read s n e h = subst (λ (t : Stop). GivesAll read (Err t)) e h

pub memory_of : {A : Type 0} (read : Result A ℕ) (s : Stop) → s ≡ stop.Memory → GivesAll read (Err s) → IsOk read
memory_of read s e h = subst (λ (t : Stop). GivesAll read (Err t)) e h
