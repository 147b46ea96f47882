-- The store count.
use Rattle.std.proofs.Common.{◌≡◌, ⊎_elim, inl, inr, ℕ, zero, suc, length, ◌+◌, ◌-◌, ◌≤◌, ◌<◌, Bool, true, false, cond, refl, subst, Some, None, Option, List, option_map, arith}
use Rattle.std.specs.Prelude.{slice_get, IsSome, nat_eq, Err, IsErrOf, unwrap_or}
use Rattle.std.proofs.lemmas.Bool.{cases_lt, eqb-true}
use Rattle.std.proofs.lemmas.Option.{slice_get_within}
use Rattle.cell_world.specs.Texts.{Text}
use Rattle.cell_world.specs.Counts.{Rose, StoreRose, NeverFall, store_count, last_count}
use Rattle.cell_world.specs.Images.{Place, Global, Shard, Committed}
use Rattle.cell_world.specs.Outside.{Outside, IsLater, StoreRoseBy, Commits, happens, place_at}
use Rattle.cell_world.specs.declared.cells.Site.{Site}
use Rattle.cell_world.specs.declared.changes.Edit.{Edit}
use Rattle.cell_world.specs.declared.outside.WorldError.{WorldError}
use Rattle.cell_world.specs.declared.outside.WorldError.TheVariants as error
use Rattle.global_tables.specs.declared.faults.StepFault.{StepFault}
use Rattle.global_tables.specs.declared.faults.StepFault.TheVariants as fault

-- the sums don't fall
sums_never_fall : (n : ℕ) (old new : ℕ → ℕ) → NeverFall old new → store_count n old ≤ store_count n new
sums_never_fall zero old new up = omega arith
sums_never_fall (suc n) old new up = omega (arith, sums_never_fall n old new up, up n)

-- a rise at one site is one of the sum
one_rose : (n site : ℕ) (old new : ℕ → ℕ) → NeverFall old new → site < n → old site + 1 ≤ new site → store_count n old + 1 ≤ store_count n new
one_rose zero site old new up within rose = absurd (omega arith)
one_rose (suc n) site old new up within rose = ⊎_elim
    (λ (lt : site < n). omega (arith, one_rose n site old new up lt rose, up n))
    (λ (le : n ≤ site). let e : site ≡ n = omega arith in let r : old n + 1 ≤ new n = subst (λ k. old k + 1 ≤ new k) e rose in omega (arith, sums_never_fall n old new up, r))
    (cases_lt site n)

-- a site of the world is within its sites
site_within : (locations : List Text) (site : ℕ) → IsSome (place_at locations site) → site < length locations + 1
site_within locations site h = by (nat_eq site 0) refl h
  where
    past : (o : Option Text) → slice_get locations (site - 1) ≡ o → IsSome (option_map Shard o) → site < length locations + 1
    past None e h = let never : false ≡ true = h in cc
    past (Some l) e h = let w = slice_get_within locations (site - 1) l e in omega (arith, w)

    by : (b : Bool) → nat_eq site 0 ≡ b → IsSome (cond b (Some Global) (option_map Shard (slice_get locations (site - 1)))) → site < length locations + 1
    by true e h = let z : site ≡ 0 = eqb-true site 0 e in omega arith
    by false e h = past (slice_get locations (site - 1)) refl h

-- Where the count of one site rose, the store count did.
pub rose_at : (a b : Outside) (site : ℕ) → IsSome (place_at a.locations site) → NeverFall a.faults_at b.faults_at → Rose (a.faults_at site) (b.faults_at site) → StoreRoseBy 1 a b
rose_at a b site here up rose = ⊎_elim
    (λ (below : b.faults_at site < last_count). inr (one_rose (length a.locations + 1) site a.faults_at b.faults_at up (site_within a.locations site here) (omega (arith, rose, below))))
    (λ (last : last_count ≤ b.faults_at site). inl (site, site_within a.locations site here, last))
    (cases_lt (b.faults_at site) last_count)

-- at the global store
pub rose_global : (a b : Outside) → NeverFall a.faults_at b.faults_at → Rose (a.faults_at 0) (b.faults_at 0) → StoreRoseBy 1 a b
rose_global a b = rose_at a b 0 refl

-- what rose before or after rose in all
pub rose_before : (a b c : Outside) → StoreRoseBy 1 a b → IsLater b c → IsLater a b → StoreRoseBy 1 a c
rose_before a b c (inl last) later first = inl (last.0, last.1, omega (arith, last.2, later.faults last.0))
rose_before a b c (inr more) later first = inr (omega (arith, more, sums_never_fall (length a.locations + 1) b.faults_at c.faults_at later.faults))

pub rose_after : (a b c : Outside) → IsLater a b → StoreRoseBy 1 b c → StoreRoseBy 1 a c
rose_after a b c later rose = by (subst (λ ls. StoreRose (length ls + 1) 1 b.faults_at c.faults_at) later.locations rose)
  where
    by : StoreRose (length a.locations + 1) 1 b.faults_at c.faults_at → StoreRoseBy 1 a c
    by (inl last) = inl last
    by (inr more) = inr (omega (arith, more, sums_never_fall (length a.locations + 1) a.faults_at b.faults_at later.faults))

-- ---- the cause of a fault

-- what a commit changes of the counts
commits_faults : (old new : Outside) (site : Site) (change : List Edit) (e : WorldError) → IsSome (place_at old.locations site.0) → Commits old new site change (Err e) → NeverFall old.faults_at new.faults_at
commits_faults old new site change error.Failed here c = by (place_at old.locations site.0) c.1.faults
  where
    by : (o : Option Place) → NeverFall (unwrap_or (option_map (λ p. happens old (Committed p change c.0)) o) old).faults_at new.faults_at → NeverFall old.faults_at new.faults_at
    by None f = f
    by (Some p) f = f
commits_faults old new site change error.Memory here c = c.faults

pub rose_fault : (old new : Outside) (site : Site) (change : List Edit) → IsSome (place_at old.locations site.0) → (e : WorldError) (f : StepFault) → (e ≡ error.Memory → f ≡ fault.Memory)
    → Commits old new site change (Err e) → (IsErrOf {T = Unit {0}} {E = WorldError} (Err e) error.Failed → Rose (old.faults_at site.0) (new.faults_at site.0)) → IsErrOf {T = Unit {0}} {E = StepFault} (Err f) fault.Store → StoreRoseBy 1 old new
rose_fault old new site change here error.Failed f memory c cause h = rose_at old new site.0 here (commits_faults old new site change error.Failed here c) (cause refl)
rose_fault old new site change here error.Memory f memory c cause h = let is : f ≡ fault.Memory = memory refl in let was : f ≡ fault.Store = by h in cc
  where
    by : IsErrOf {T = Unit {0}} {E = StepFault} (Err f) fault.Store → f ≡ fault.Store
    by h = cc
