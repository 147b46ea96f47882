-- A read and a transaction at the site of a location.
use Rattle.std.proofs.Common.{◌≡◌, ⊎_elim, inl, inr, ℕ, zero, suc, length, ◌+◌, ◌-◌, ◌≤◌, ◌<◌, Bool, true, false, cond, refl, sym, ap, ◌∙◌, subst, Some, None, Option, List, option_map, is_some, arith}
use Rattle.std.specs.Prelude.{slice_get, IsSome, IsErr, IsErrAnd, IsErrOf, IfOk, Result, Ok, Err, nat_eq, unwrap_or}
use Rattle.std.specs.FinMap as map
use Rattle.std.proofs.lemmas.Bool.{cases_lt, eqb-true}
use Rattle.std.proofs.lemmas.Option.{slice_get_within}
use Rattle.cell_world.specs.Texts.{Text}
use Rattle.cell_world.specs.Counts.{Rose, StoreRose, NeverFall, one_more, store_count, last_count}
use Rattle.cell_world.specs.Images.{Image, Place, Global, Shard, Committed}
use Rattle.cell_world.specs.Outside.{Outside, Commits, FailsWithRise, IfContents, IsLater, OfStore, SameButFaults, StoreRoseBy, happens, place_at, read_at, site_number, store_at, told_after}
use Rattle.cell_world.specs.Stores.{Store, cell_at, empty_store}
use Rattle.cell_world.specs.declared.cells.Cell.{Cell}
use Rattle.cell_world.specs.declared.cells.Cell.TheVariants as cell
use Rattle.cell_world.specs.declared.cells.CellKey.TheVariants as at
use Rattle.cell_world.specs.declared.cells.RowName.{RowName}
use Rattle.cell_world.specs.declared.cells.Site.{Site}
use Rattle.cell_world.specs.declared.changes.Edit.{Edit}
use Rattle.cell_world.specs.declared.outside.WorldError.{WorldError}
use Rattle.cell_world.specs.declared.outside.WorldError.TheVariants as error
use Rattle.cell_world.proofs.ContentsLaws.{contents_weaker}
use Rattle.image_laws.proofs.SiteLaws.{place_of_number}
use Rattle.session_rows.specs.Rows.{TellsChange, commit_at}
use Rattle.session_rows.specs.declared.stops.RowStop.{RowStop}
use Rattle.session_rows.specs.declared.stops.RowStop.TheVariants as stop

-- ---- the store count

-- the sums don't fall
sums_never_fall : (n : ℕ) (old new : ℕ → ℕ) → NeverFall old new → store_count n old ≤ store_count n new
sums_never_fall zero old new up = omega arith
sums_never_fall (suc n) old new up = omega (arith, sums_never_fall n old new up, up n)

-- a rise at one site is one of the sum
one_rose : (n site : ℕ) (old new : ℕ → ℕ) → NeverFall old new → site < n → old site + 1 ≤ new site → store_count n old + 1 ≤ store_count n new
one_rose zero site old new up within rose = absurd (omega arith)
one_rose (suc n) site old new up within rose = ⊎_elim
    (λ (lt : site < n). omega (arith, one_rose n site old new up lt rose, up n))
    (λ (le : n ≤ site). let e : site ≡ n = omega arith in let r : old n + 1 ≤ new n = subst (λ k. old k + 1 ≤ new k) e rose in omega (arith, sums_never_fall n old new up, r))
    (cases_lt site n)

-- a site of the world is within its sites
site_within : (locations : List Text) (site : ℕ) → IsSome (place_at locations site) → site < length locations + 1
site_within locations site h = by (nat_eq site 0) refl h
  where
    past : (o : Option Text) → slice_get locations (site - 1) ≡ o → IsSome (option_map Shard o) → site < length locations + 1
    past None e h = let never : false ≡ true = h in cc
    past (Some l) e h = let w = slice_get_within locations (site - 1) l e in omega (arith, w)

    by : (b : Bool) → nat_eq site 0 ≡ b → IsSome (cond b (Some Global) (option_map Shard (slice_get locations (site - 1)))) → site < length locations + 1
    by true e h = let z : site ≡ 0 = eqb-true site 0 e in omega arith
    by false e h = past (slice_get locations (site - 1)) refl h

-- where the count of one site rose the store count did
rose_at : (a b : Outside) (site : ℕ) → IsSome (place_at a.locations site) → NeverFall a.faults_at b.faults_at → Rose (a.faults_at site) (b.faults_at site) → StoreRoseBy 1 a b
rose_at a b site here up rose = ⊎_elim
    (λ (below : b.faults_at site < last_count). inr (one_rose (length a.locations + 1) site a.faults_at b.faults_at up (site_within a.locations site here) (omega (arith, rose, below))))
    (λ (last : last_count ≤ b.faults_at site). inl (site, site_within a.locations site here, last))
    (cases_lt (b.faults_at site) last_count)

-- what rose later rose in all
pub rose_later : (a b c : Outside) → IsLater a b → StoreRoseBy 1 b c → StoreRoseBy 1 a c
rose_later a b c later rose = by (subst (λ ls. StoreRose (length ls + 1) 1 b.faults_at c.faults_at) later.locations rose)
  where
    by : StoreRose (length a.locations + 1) 1 b.faults_at c.faults_at → StoreRoseBy 1 a c
    by (inl last) = inl last
    by (inr more) = inr (omega (arith, more, sums_never_fall (length a.locations + 1) a.faults_at b.faults_at later.faults))

-- ---- stops

-- a stop that a caller asks for is the one that there is
err_is : (A : Type 0) (x e : RowStop) → IsErrOf {T = A} {E = RowStop} (Err x) e → x ≡ e
err_is A x e is = cc

-- the stop of a world's error
abbrev pub IsStopOf : WorldError → RowStop → Type 0
IsStopOf e s = (e ≡ error.Failed → s ≡ stop.Store) × (e ≡ error.Memory → s ≡ stop.Memory)

-- the call stops by a world's error
abbrev pub StopsBy : {T : Type 0} → WorldError → Result T RowStop → Type 0
StopsBy e result = IsErr result × IsErrAnd result (IsStopOf e)

-- want of memory is no refusal of a store
not_memory : {T A : Type 0} (result : Result T RowStop) → StopsBy error.Memory result → IsErrOf result stop.Store → A
not_memory (Ok value) stops is = absurd stops.1
not_memory (Err s) stops is = let wrong : stop.Memory ≡ stop.Store = sym (stops.1.1 refl) ∙ err_is _ s stop.Store is in absurd (cc)

-- ---- nothing but counts of faults differs

same_told : (a b : Outside) → SameButFaults a b → b.told ≡ a.told
same_told a b same = ap (λ (o : Outside). o.told) same.same

-- ---- at the site of a location

module _ (o new : Outside) (location : Text) (located : Option Site) (by_place : located ≡ site_number o.locations location) (site : Site) (is : located ≡ Some site) where
  here : place_at o.locations site.0 ≡ Some (Shard location)
  here = place_of_number o.locations location site (sym by_place ∙ is)

  is_site : IsSome (place_at o.locations site.0)
  is_site = ap is_some here

  -- it isn't the global store's
  not_global : nat_eq site.0 0 ≡ false
  not_global = by (nat_eq site.0 0) refl here
    where
      by : (b : Bool) → nat_eq site.0 0 ≡ b → cond b (Some Global) (option_map Shard (slice_get o.locations (site.0 - 1))) ≡ Some (Shard location) → nat_eq site.0 0 ≡ false
      by true e h = cc
      by false e h = e

  -- ---- a read

  read_same : SameButFaults (read_at o site) new → SameButFaults o new
  read_same = subst (λ (b : Bool). SameButFaults (cond b (record o { global_reads = one_more o.global_reads }) o) new) not_global

  at_site : (image : Image) → store_at o site image ≡ image.at (Shard location)
  at_site image = ap (λ (place : Option Place). unwrap_or (option_map image.at place) empty_store) here

  -- The bytes that it found are the store's.
  pub read_finds : (row : RowName) (found : Option Cell) → OfStore o site (λ s. found ≡ cell_at s (at.Row row)) → (result : Result (Option Text) RowStop)
      → IfOk result (λ bytes. (row : RowName) (stored : Option Text) → found ≡ option_map (cell.Row row) stored → bytes ≡ stored)
      → IfOk result (λ bytes. IfContents o.told (λ image. bytes ≡ map.get (image.at (Shard location)).rows row))
  read_finds row found of_store (Ok bytes) is_bytes = contents_weaker o.told (λ image. found ≡ cell_at (store_at o site image) (at.Row row)) (λ image. bytes ≡ map.get (image.at (Shard location)).rows row)
      (λ image e. is_bytes row (map.get (image.at (Shard location)).rows row) (e ∙ ap (λ (s : Store). cell_at s (at.Row row)) (at_site image))) of_store
  read_finds row found of_store (Err s) is_bytes = is_bytes

  -- A read that the store refused.
  pub read_rose : {T : Type 0} (Found : Type 0) (e : WorldError) → SameButFaults (read_at o site) new → FailsWithRise {T = Found} (Err e) (o.faults_at site.0) (new.faults_at site.0)
      → (result : Result T RowStop) → StopsBy e result → IsErrOf result stop.Store → StoreRoseBy 1 o new
  read_rose Found error.Failed same rise result stops is = rose_at o new site.0 is_site (read_same same).faults (rise refl)
  read_rose Found error.Memory same rise result stops is = not_memory result stops is

  -- ---- a transaction

  committed : (change : List Edit) (took : Bool) → SameButFaults (unwrap_or (option_map (λ place. happens o (Committed place change took)) (place_at o.locations site.0)) o) new → SameButFaults (happens o (Committed (Shard location) change took)) new
  committed change took = subst (λ (p : Option Place). SameButFaults (unwrap_or (option_map (λ place. happens o (Committed place change took)) p) o) new) here

  happened_faults : (change : List Edit) (took : Bool) → SameButFaults (happens o (Committed (Shard location) change took)) new → NeverFall o.faults_at new.faults_at
  happened_faults change took same = same.faults

  pub commit_tells : (change : List Edit) (done : Unit {0}) → Commits o new site change (Ok done) → new.told ≡ told_after o.told (commit_at location change true)
  commit_tells change done c = ap (λ (a : Outside). a.told) (committed change true c).same

  pub commit_stops : (change : List Edit) (e : WorldError) → Commits o new site change (Err e) → (result : Result (Unit {0}) RowStop) → StopsBy e result → TellsChange o.told new.told location change result
  commit_stops change e c (Ok done) stops = absurd stops.1
  commit_stops change error.Failed c (Err s) stops = subst (λ x. TellsChange o.told new.told location change (Err x)) (sym (stops.1.0 refl)) (c.0, ap (λ (a : Outside). a.told) (committed change c.0 c.1).same)
  commit_stops change error.Memory c (Err s) stops = subst (λ x. TellsChange o.told new.told location change (Err x)) (sym (stops.1.1 refl)) (same_told o new c)

  pub commit_rose : (change : List Edit) (e : WorldError) → Commits o new site change (Err e) → FailsWithRise {T = Unit {0}} (Err e) (o.faults_at site.0) (new.faults_at site.0)
      → (result : Result (Unit {0}) RowStop) → StopsBy e result → IsErrOf result stop.Store → StoreRoseBy 1 o new
  commit_rose change error.Failed c rise result stops is = rose_at o new site.0 is_site (happened_faults change c.0 (committed change c.0 c.1)) (rise refl)
  commit_rose change error.Memory c rise result stops is = not_memory result stops is
