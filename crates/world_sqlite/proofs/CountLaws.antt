-- The counts of the sites after a call at one of them.
use Rattle.std.proofs.Common.{◌≡◌, ◌==◌, if◌then◌else◌, Bool, true, false, ℕ, ◌+◌, ◌-◌, ◌≤◌, ◌<◌, zero, suc, List, [], ◌∷◌, ◌++◌, length, get_or, set, slice_get, Some, Result, Ok, Err, refl, sym, ap, subst, subst₂, ◌∙◌, arith}
use Rattle.std.specs.Prelude.{IsSome, option_map, IsErrOf}
use Rattle.std.proofs.lemmas.Bool.{eqb-true}
use Rattle.std.proofs.lemmas.List.Elements.{All-push}
use Rattle.cell_world.specs.Texts.{Text}
use Rattle.cell_world.specs.Counts.{last_count, one_more, Rose, NeverFall}
use Rattle.cell_world.specs.Images.{Global, Shard}
use Rattle.cell_world.specs.Outside.{place_at}
use Rattle.cell_world.specs.declared.outside.WorldError.{WorldError}
use Rattle.cell_world.specs.declared.outside.WorldError.TheVariants.{Failed, Memory}
use Rattle.sqlite_site.specs.Refusals.{counts_after}
use Rattle.world_sqlite.specs.Counted.{count_of, AreFresh}

-- ---- sites where no call has failed

pub fresh_pushed : {A : Type 0} (xs ys : List A) (x : A) (f : A → ℕ) → ys ≡ xs ++ x ∷ [] → AreFresh xs f → f x ≡ 0 → AreFresh ys f
fresh_pushed xs ys x f is all one = subst (λ zs. AreFresh zs f) (sym is) (All-push (λ s. f s ≡ 0) xs x all one)

pub all_zero : {A : Type 0} (xs : List A) (f : A → ℕ) → AreFresh xs f → (n : ℕ) → count_of f xs n ≡ 0
all_zero [] f all n = refl
all_zero (x ∷ xs) f all zero = all 0 x (omega arith)
all_zero (x ∷ xs) f all (suc n) = all_zero xs f (λ k d less. all (suc k) d (omega arith)) n

-- ---- one site in place of another

same : (n : ℕ) → n ≤ n
same n = omega arith

count_at : {A : Type 0} (xs : List A) (f : A → ℕ) (n : ℕ) (d : A) → n < length xs → count_of f xs n ≡ f (get_or xs n d)
count_at [] f n d less = absurd (omega arith)
count_at (x ∷ xs) f zero d less = refl
count_at (x ∷ xs) f (suc n) d less = count_at xs f n d (omega arith)

count_set : {A : Type 0} (xs : List A) (f : A → ℕ) (n : ℕ) (x : A) → n < length xs → count_of f (set xs n x) n ≡ f x
count_set [] f n x less = absurd (omega arith)
count_set (y ∷ ys) f zero x less = refl
count_set (y ∷ ys) f (suc n) x less = count_set ys f n x (omega arith)

never_falls : {A : Type 0} (xs : List A) (f : A → ℕ) (n : ℕ) (d x : A) → f (get_or xs n d) ≤ f x → NeverFall (count_of f xs) (count_of f (set xs n x))
never_falls [] f n d x h m = same _
never_falls (y ∷ ys) f zero d x h zero = h
never_falls (y ∷ ys) f zero d x h (suc m) = same _
never_falls (y ∷ ys) f (suc n) d x h zero = same _
never_falls (y ∷ ys) f (suc n) d x h (suc m) = never_falls ys f n d x h m

-- ---- what a call does

rises : {T : Type 0} (r : Result T WorldError) (n : ℕ) → n ≤ last_count → n ≤ counts_after r n
rises (Ok x) n h = same n
rises (Err Failed) n h = grind (arith, h)
rises (Err Memory) n h = same n

-- the counts don't fall
pub keeps_counts : {A T : Type 0} (xs : List A) (f : A → ℕ) (n : ℕ) (old d x : A) (r : Result T WorldError) → old ≡ get_or xs n d → f old ≤ last_count → f x ≡ counts_after r (f old) → NeverFall (count_of f xs) (count_of f (set xs n x))
keeps_counts xs f n old d x r got within is = never_falls xs f n d x (subst₂ (λ o k. f o ≤ k) got (sym is) (rises r (f old) within))

-- the count of the site rises where the call fails
pub fails_with_rise : {A T : Type 0} (xs : List A) (f : A → ℕ) (n : ℕ) (old d x : A) (r : Result T WorldError) → n < length xs → old ≡ get_or xs n d → f x ≡ counts_after r (f old) → IsErrOf r Failed → Rose (count_of f xs n) (count_of f (set xs n x) n)
fails_with_rise xs f n old d x (Ok y) less got is fails = absurd cc
fails_with_rise xs f n old d x (Err Failed) less got is fails = subst₂ (λ a b. one_more a ≤ b) (ap f got ∙ sym (count_at xs f n d less)) (sym (count_set xs f n x less ∙ is)) (same _)
fails_with_rise xs f n old d x (Err Memory) less got is fails = absurd cc

-- ---- a site that the world has stands in the list

got_within : {A B : Type 0} (f : A → B) (xs : List A) (n : ℕ) → IsSome (option_map f (slice_get xs n)) → n < length xs
got_within f [] n h = absurd cc
got_within f (x ∷ xs) zero h = omega arith
got_within f (x ∷ xs) (suc n) h = let less = got_within f xs n h in omega (arith, less)

pub site_within : (locations : List Text) (n : ℕ) → IsSome (place_at locations n) → n < length locations + 1
site_within locations n h = go (n == 0) refl h
  where
    go : (b : Bool) → (n == 0) ≡ b → IsSome (if b then Some Global else option_map Shard (slice_get locations (n - 1))) → n < length locations + 1
    go true e k = let z = eqb-true n 0 e in omega (arith, z)
    go false e k = let less = got_within Shard locations (n - 1) k in omega (arith, less)
