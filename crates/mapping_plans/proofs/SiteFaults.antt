-- The store count rises with the count of faults of one site, whatever happens before.
use Rattle.std.proofs.Common.{◌≡◌, ⊎_elim, inl, inr, ℕ, zero, suc, length, ◌+◌, ◌-◌, ◌≤◌, ◌<◌, Bool, true, false, cond, refl, ap, subst, Some, None, Option, List, option_map, arith}
use Rattle.std.specs.Prelude.{slice_get, IsSome, IsErrOf, Err, nat_eq}
use Rattle.std.proofs.lemmas.Bool.{cases_lt, eqb-true}
use Rattle.std.proofs.lemmas.Option.{slice_get_within}
use Rattle.cell_world.specs.Texts.{Text}
use Rattle.cell_world.specs.Counts.{Rose, StoreRose, NeverFall, store_count, last_count}
use Rattle.cell_world.specs.Images.{Global, Shard}
use Rattle.cell_world.specs.Outside.{Outside, IsLater, StoreRoseBy, place_at}
use Rattle.plain_model.specs.declared.plans.PlanStop.{PlanStop}

-- the sums don't fall
sums_never_fall : (n : ℕ) (old new : ℕ → ℕ) → NeverFall old new → store_count n old ≤ store_count n new
sums_never_fall zero old new up = omega arith
sums_never_fall (suc n) old new up = omega (arith, sums_never_fall n old new up, up n)

-- a rise at one site is one of the sum
one_rose : (n site : ℕ) (old new : ℕ → ℕ) → NeverFall old new → site < n → old site + 1 ≤ new site → store_count n old + 1 ≤ store_count n new
one_rose zero site old new up within rose = absurd (omega arith)
one_rose (suc n) site old new up within rose = ⊎_elim
    (λ (lt : site < n). omega (arith, one_rose n site old new up lt rose, up n))
    (λ (le : n ≤ site). let e : site ≡ n = omega arith in let r : old n + 1 ≤ new n = subst (λ k. old k + 1 ≤ new k) e rose in omega (arith, sums_never_fall n old new up, r))
    (cases_lt site n)

-- a site of the world is within its sites
site_within : (locations : List Text) (site : ℕ) → IsSome (place_at locations site) → site < length locations + 1
site_within locations site h = by (nat_eq site 0) refl h
  where
    past : (o : Option Text) → slice_get locations (site - 1) ≡ o → IsSome (option_map Shard o) → site < length locations + 1
    past None e h = let never : false ≡ true = h in cc
    past (Some l) e h = let w = slice_get_within locations (site - 1) l e in omega (arith, w)

    by : (b : Bool) → nat_eq site 0 ≡ b → IsSome (cond b (Some Global) (option_map Shard (slice_get locations (site - 1)))) → site < length locations + 1
    by true e h = let z : site ≡ 0 = eqb-true site 0 e in omega arith
    by false e h = past (slice_get locations (site - 1)) refl h

pub site_rose : (a b : Outside) (site : ℕ) → IsSome (place_at a.locations site) → NeverFall a.faults_at b.faults_at → Rose (a.faults_at site) (b.faults_at site) → StoreRoseBy 1 a b
site_rose a b site here up rose = ⊎_elim
    (λ (below : b.faults_at site < last_count). inr (one_rose (length a.locations + 1) site a.faults_at b.faults_at up (site_within a.locations site here) (omega (arith, rose, below))))
    (λ (last : last_count ≤ b.faults_at site). inl (site, site_within a.locations site here, last))
    (cases_lt (b.faults_at site) last_count)

-- what rose later rose in all
pub rose_later : (a b c : Outside) → IsLater a b → StoreRoseBy 1 b c → StoreRoseBy 1 a c
rose_later a b c later rose = by (subst (λ ls. StoreRose (length ls + 1) 1 b.faults_at c.faults_at) later.locations rose)
  where
    by : StoreRose (length a.locations + 1) 1 b.faults_at c.faults_at → StoreRoseBy 1 a c
    by (inl last) = inl last
    by (inr more) = inr (omega (arith, more, sums_never_fall (length a.locations + 1) a.faults_at b.faults_at later.faults))

-- ---- stops

pub err_is : (A : Type 0) (x e : PlanStop) → IsErrOf {T = A} {E = PlanStop} (Err x) e → x ≡ e
err_is A x e is = cc

-- a stop of one call is that of the call around it
pub err_as : (A B : Type 0) (x e : PlanStop) → IsErrOf {T = A} {E = PlanStop} (Err x) e → IsErrOf {T = B} {E = PlanStop} (Err x) e
err_as A B x e is = ap Err (err_is A x e is)
