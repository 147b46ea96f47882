-- Lists in a strict order: one is known by its members, and a front of one by its first members.
use Rattle.std.proofs.Common.{◌≡◌, ◌⊎◌, inl, inr, ℕ, zero, suc, ◌+◌, ◌≤◌, Bool, true, false, cond, List, [], ◌∷◌, ◌++◌, map, length, refl, sym, ap, ◌∙◌, subst, arith}
use Rattle.std.specs.Prelude.{filter, take}
use Rattle.cell_world.specs.Lists.{IsOneOf}

-- ---- members

module _ {A : Type 0} (f : A → Bool) where
  pub in_filter : (xs : List A) (x : A) → IsOneOf (filter f xs) x → IsOneOf xs x × (f x ≡ true)
  in_filter [] x h = absurd h
  in_filter (y ∷ ys) x h = by (f y) refl (in_filter ys x) h
    where
      by : (b : Bool) → f y ≡ b → (IsOneOf (filter f ys) x → IsOneOf ys x × (f x ≡ true)) → IsOneOf (cond b (y ∷ filter f ys) (filter f ys)) x → IsOneOf (y ∷ ys) x × (f x ≡ true)
      by true e more (inl is) = (inl is, sym (ap f is) ∙ e)
      by true e more (inr h) = let m = more h in (inr m.0, m.1)
      by false e more h = let m = more h in (inr m.0, m.1)

  pub from_filter : (xs : List A) (x : A) → IsOneOf xs x → f x ≡ true → IsOneOf (filter f xs) x
  from_filter [] x h e = absurd h
  from_filter (y ∷ ys) x (inl is) e = subst (λ b. IsOneOf (cond b (y ∷ filter f ys) (filter f ys)) x) (sym (ap f is ∙ e)) (inl is)
  from_filter (y ∷ ys) x (inr h) e = by (f y) (from_filter ys x h e)
    where
      by : (b : Bool) → IsOneOf (filter f ys) x → IsOneOf (cond b (y ∷ filter f ys) (filter f ys)) x
      by true more = inr more
      by false more = more

pub in_take : {A : Type 0} (n : ℕ) (xs : List A) (x : A) → IsOneOf (take n xs) x → IsOneOf xs x
in_take zero xs x h = absurd h
in_take (suc n) [] x h = absurd h
in_take (suc n) (y ∷ ys) x (inl e) = inl e
in_take (suc n) (y ∷ ys) x (inr h) = inr (in_take n ys x h)

module _ {A B : Type 0} (f : A → B) where
  pub in_map : (xs : List A) (y : B) → IsOneOf (map f xs) y → (x : A) × IsOneOf xs x × (f x ≡ y)
  in_map [] y h = absurd h
  in_map (x ∷ xs) y (inl is) = (x, inl refl, is)
  in_map (x ∷ xs) y (inr h) = let m = in_map xs y h in (m.0, inr m.1, m.2)

  pub into_map : (xs : List A) (x : A) → IsOneOf xs x → IsOneOf (map f xs) (f x)
  into_map [] x h = absurd h
  into_map (y ∷ ys) x (inl is) = inl (ap f is)
  into_map (y ∷ ys) x (inr h) = inr (into_map ys x h)

  -- a function that tells its arguments apart is undone on lists
  pub map_back : ((x y : A) → f x ≡ f y → x ≡ y) → (xs ys : List A) → map f xs ≡ map f ys → xs ≡ ys
  map_back one [] [] e = refl
  map_back one [] (y ∷ ys) e = cc
  map_back one (x ∷ xs) [] e = cc
  map_back one (x ∷ xs) (y ∷ ys) e = let head : f x ≡ f y = cc in let tail : map f xs ≡ map f ys = cc in λ i. one x y head i ∷ map_back one xs ys tail i

pub in_left : {A : Type 0} (xs ys : List A) (x : A) → IsOneOf xs x → IsOneOf (xs ++ ys) x
in_left [] ys x h = absurd h
in_left (z ∷ zs) ys x (inl is) = inl is
in_left (z ∷ zs) ys x (inr h) = inr (in_left zs ys x h)

pub in_right : {A : Type 0} (xs ys : List A) (x : A) → IsOneOf ys x → IsOneOf (xs ++ ys) x
in_right [] ys x h = h
in_right (z ∷ zs) ys x h = inr (in_right zs ys x h)

pub in_either : {A : Type 0} (xs ys : List A) (x : A) → IsOneOf (xs ++ ys) x → IsOneOf xs x ⊎ IsOneOf ys x
in_either [] ys x h = inr h
in_either (z ∷ zs) ys x (inl is) = inl (inl is)
in_either (z ∷ zs) ys x (inr h) = elim (in_either zs ys x h) [ inl more ↦ inl (inr more) | inr more ↦ inr more ]

-- ---- order

-- each is before all later ones
abbrev pub Rising : {A : Type 0} → (A → A → Type 0) → List A → Type 0
Rising Before [] = Unit {0}
Rising {A} Before (x ∷ xs) = ((y : A) → IsOneOf xs y → Before x y) × Rising Before xs

pub rising_filter : {A : Type 0} (Before : A → A → Type 0) (f : A → Bool) (xs : List A) → Rising Before xs → Rising Before (filter f xs)
rising_filter Before f [] r = tt
rising_filter {A = A} Before f (x ∷ xs) r = by (f x) (rising_filter Before f xs r.1)
  where
    by : (b : Bool) → Rising Before (filter f xs) → Rising Before (cond b (x ∷ filter f xs) (filter f xs))
    by true more = (λ y h. r.0 y (in_filter f xs y h).0, more)
    by false more = more

pub rising_append : {A : Type 0} (Before : A → A → Type 0) (xs ys : List A) → Rising Before xs → Rising Before ys → ((x y : A) → IsOneOf xs x → IsOneOf ys y → Before x y) → Rising Before (xs ++ ys)
rising_append Before [] ys r s h = s
rising_append {A = A} Before (x ∷ xs) ys r s h =
    (λ y among. elim (in_either xs ys y among) [ inl m ↦ r.0 y m | inr m ↦ h x y (inl refl) m ], rising_append Before xs ys r.1 s (λ z y m n. h z y (inr m) n))

pub rising_map : {A B : Type 0} (f : A → B) (Before : A → A → Type 0) (After : B → B → Type 0) → ((x y : A) → Before x y → After (f x) (f y)) → (xs : List A) → Rising Before xs → Rising After (map f xs)
rising_map f Before After keeps [] r = tt
rising_map f Before After keeps (x ∷ xs) r =
    (λ y h. let m = in_map f xs y h in subst (After (f x)) m.2 (keeps x m.0 (r.0 m.0 m.1)), rising_map f Before After keeps xs r.1)

-- where it is so of the members
pub rising_map_in : {A B : Type 0} (f : A → B) (Before : A → A → Type 0) (After : B → B → Type 0) (xs : List A) → ((x y : A) → IsOneOf xs x → IsOneOf xs y → Before x y → After (f x) (f y)) → Rising Before xs → Rising After (map f xs)
rising_map_in f Before After [] keeps r = tt
rising_map_in f Before After (x ∷ xs) keeps r =
    (λ y h. let m = in_map f xs y h in subst (After (f x)) m.2 (keeps x m.0 (inl refl) (inr m.1) (r.0 m.0 m.1)), rising_map_in f Before After xs (λ a b p q. keeps a b (inr p) (inr q)) r.1)

-- of a list that is cut in two
pub rising_front : {A : Type 0} (Before : A → A → Type 0) (xs ys : List A) → Rising Before (xs ++ ys) → Rising Before xs
rising_front Before [] ys r = tt
rising_front Before (x ∷ xs) ys r = (λ y h. r.0 y (in_left xs ys y h), rising_front Before xs ys r.1)

pub rising_back : {A : Type 0} (Before : A → A → Type 0) (xs ys : List A) → Rising Before (xs ++ ys) → Rising Before ys
rising_back Before [] ys r = r
rising_back Before (x ∷ xs) ys r = rising_back Before xs ys r.1

pub rising_across : {A : Type 0} (Before : A → A → Type 0) (xs ys : List A) → Rising Before (xs ++ ys) → (x y : A) → IsOneOf xs x → IsOneOf ys y → Before x y
rising_across Before [] ys r x y h g = absurd h
rising_across Before (z ∷ zs) ys r x y (inl is) g = subst (λ w. Before w y) is (r.0 y (in_right zs ys y g))
rising_across Before (z ∷ zs) ys r x y (inr h) g = rising_across Before zs ys r.1 x y h g

module _ {A : Type 0} (Before : A → A → Type 0) (never : (x : A) → Before x x → ⊥) (trans : (x y z : A) → Before x y → Before y z → Before x z) where
  -- A rising list with the first members of another one is its front.
  pub front_is : (n : ℕ) (xs ys : List A) → Rising Before xs → Rising Before ys → ((q : A) → IsOneOf xs q → IsOneOf ys q) → length xs ≤ n
      → ((q : A) → IsOneOf ys q → IsOneOf xs q ⊎ ((length xs ≡ n) × ((x : A) → IsOneOf xs x → Before x q))) → xs ≡ take n ys
  front_is zero [] ys cx cy in_ys short all = refl
  front_is zero (x ∷ xs) ys cx cy in_ys short all = let is : length (x ∷ xs) ≡ length xs + 1 = omega arith in let bad : length xs + 1 ≤ 0 = subst (λ m. m ≤ 0) is short in absurd (omega (arith, bad))
  front_is (suc n) [] [] cx cy in_ys short all = refl
  front_is (suc n) [] (y ∷ ys) cx cy in_ys short all = elim (all y (inl refl)) [ inl h ↦ absurd h | inr h ↦ (let e : 0 ≡ suc n = h.0 in absurd (omega (arith, e))) ]
  front_is (suc n) (x ∷ xs) [] cx cy in_ys short all = absurd (in_ys x (inl refl))
  front_is (suc n) (x ∷ xs) (y ∷ ys) cx cy in_ys short all = λ i. head i ∷ front_is n xs ys cx.1 cy.1 kept shorter rest i
    where
      -- the first of the one is at or before each of the other
      y_first : (x ≡ y) ⊎ Before y x
      y_first = elim (in_ys x (inl refl)) [ inl e ↦ inl (sym e) | inr h ↦ inr (cy.0 x h) ]

      x_first : (x ≡ y) ⊎ Before x y
      x_first = elim (all y (inl refl)) [
        | inl h ↦ elim h [ inl e ↦ inl e | inr more ↦ inr (cx.0 y more) ]
        | inr h ↦ inr (h.1 x (inl refl))
      ]

      head : x ≡ y
      head = elim y_first [ inl e ↦ e | inr a ↦ elim x_first [ inl e ↦ e | inr b ↦ absurd (never x (trans x y x b a)) ] ]

      long : length (x ∷ xs) ≡ length xs + 1
      long = omega arith

      kept : (q : A) → IsOneOf xs q → IsOneOf ys q
      kept q h = elim (in_ys q (inr h)) [ inl e ↦ absurd (never q (subst (λ z. Before z q) (head ∙ e) (cx.0 q h))) | inr more ↦ more ]

      shorter : length xs ≤ n
      shorter = let s : length xs + 1 ≤ suc n = subst (λ m. m ≤ suc n) long short in omega (arith, s)

      rest : (q : A) → IsOneOf ys q → IsOneOf xs q ⊎ ((length xs ≡ n) × ((x : A) → IsOneOf xs x → Before x q))
      rest q h = elim (all q (inr h)) [
        | inl g ↦ elim g [ inl e ↦ absurd (never q (subst (λ z. Before z q) (sym head ∙ e) (cy.0 q h))) | inr more ↦ inl more ]
        | inr g ↦ inr ((let s : length xs + 1 ≡ suc n = sym long ∙ g.0 in omega (arith, s)), λ z among. g.1 z (inr among))
      ]

  -- Two rising lists with the same members are one.
  pub same_rising : (xs ys : List A) → Rising Before xs → Rising Before ys → ((q : A) → IsOneOf xs q → IsOneOf ys q) → ((q : A) → IsOneOf ys q → IsOneOf xs q) → xs ≡ ys
  same_rising [] [] cx cy h g = refl
  same_rising [] (y ∷ ys) cx cy h g = absurd (g y (inl refl))
  same_rising (x ∷ xs) [] cx cy h g = absurd (h x (inl refl))
  same_rising (x ∷ xs) (y ∷ ys) cx cy h g = λ i. head i ∷ same_rising xs ys cx.1 cy.1 forth back i
    where
      head : x ≡ y
      head = elim (h x (inl refl)) [
        | inl e ↦ sym e
        | inr a ↦ elim (g y (inl refl)) [ inl e ↦ e | inr b ↦ absurd (never x (trans x y x (cx.0 y b) (cy.0 x a))) ]
      ]

      forth : (q : A) → IsOneOf xs q → IsOneOf ys q
      forth q among = elim (h q (inr among)) [ inl e ↦ absurd (never q (subst (λ z. Before z q) (head ∙ e) (cx.0 q among))) | inr more ↦ more ]

      back : (q : A) → IsOneOf ys q → IsOneOf xs q
      back q among = elim (g q (inr among)) [ inl e ↦ absurd (never q (subst (λ z. Before z q) (sym head ∙ e) (cy.0 q among))) | inr more ↦ more ]
