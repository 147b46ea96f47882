-- What a world tells after a call at one of its sites.
use Rattle.std.proofs.Common.{◌≡◌, ◌==◌, if◌then◌else◌, inl, inr, Bool, true, false, ℕ, ◌+◌, ◌-◌, ◌≤◌, ◌<◌, zero, suc, List, [], ◌∷◌, ◌++◌, length, get_or, set, Option, Some, None, Result, Ok, Err, IfOk, refl, sym, ap, subst, ◌∙◌, true≢false, arith}
use Rattle.std.specs.Prelude.{IsSome, option_map, unwrap_or}
use Rattle.std.specs.List.{IsDistinct, AllByRecursion, slice_get}
use Rattle.std.proofs.lemmas.Bool.{cases_eq}
use Rattle.std.proofs.lemmas.List.Elements.{All-push}
use Rattle.cell_world.specs.Texts.{Text}
use Rattle.cell_world.specs.Keys.{same}
use Rattle.cell_world.specs.Counts.{last_count, one_more, NeverFall}
use Rattle.cell_world.specs.Images.{Place, Global, Shard, Happening, Committed, Wrote, Reopened, same_place, with_store, empty_image, Trail}
use Rattle.cell_world.specs.Outside.{Told, TellsContents, Outside, SameButFaults, Commits, Reopens, OfStore, IfTrail, told_after, place_at, read_at, happens, happens_at}
use Rattle.cell_world.specs.Stores.{Store, IsStore, changed, empty_store}
use Rattle.cell_world.proofs.ImageLaws.{same_place_is}
use Rattle.cell_world.proofs.KeyedLaws.{store_empty}
use Rattle.cell_world.proofs.SpanLaws.{same_self}
use Rattle.cell_world.specs.declared.cells.Site.{Site}
use Rattle.cell_world.specs.declared.changes.Edit.{Edit}
use Rattle.cell_world.specs.declared.outside.WorldError.{WorldError}
use Rattle.cell_world.specs.declared.outside.WorldError.TheVariants.{Failed, Memory}
use Rattle.sqlite_site.specs.Kept.{committed}
use Rattle.sqlite_site.specs.Refusals.{counts_after}
use Rattle.world_sqlite.specs.Counted.{count_of, stores_of, shard_in, store_for, image_of, told_by, tells, AreEmpty}
use Rattle.world_sqlite.proofs.CountLaws.{keeps_counts, site_within}

-- ---- sites without cells

pub empty_pushed : {A : Type 0} (xs ys : List A) (x : A) (f : A → Store) → ys ≡ xs ++ x ∷ [] → AreEmpty xs f → f x ≡ empty_store → AreEmpty ys f
empty_pushed xs ys x f is all one = subst (λ zs. AreEmpty zs f) (sym is) (All-push (λ s. f s ≡ empty_store) xs x all one)

all_empty : {A : Type 0} (xs : List A) (f : A → Store) → AreEmpty xs f → (n : ℕ) → stores_of f xs n ≡ empty_store
all_empty [] f all n = refl
all_empty (x ∷ xs) f all zero = all 0 x (omega arith)
all_empty (x ∷ xs) f all (suc n) = all_empty xs f (λ k d less. all (suc k) d (omega arith)) n

shard_empty : (locations : List Text) (location : Text) → shard_in locations (λ n. empty_store) location ≡ empty_store
shard_empty [] location = refl
shard_empty (l ∷ ls) location = by (same l location) (shard_empty ls location)
  where
    by : (b : Bool) → shard_in ls (λ n. empty_store) location ≡ empty_store → (if b then empty_store else shard_in ls (λ n. empty_store) location) ≡ empty_store
    by true rest = refl
    by false rest = rest

-- a new world has the empty image
pub new_told : {A : Type 0} (told : Bool) (locations : List Text) (xs : List A) (f : A → Store) → told ≡ true → AreEmpty xs f → told_by told locations (stores_of f xs) ≡ TellsContents (empty_image locations)
new_told told locations xs f yes_told all =
    ap (λ b. told_by b locations (stores_of f xs)) yes_told ∙ (λ i. TellsContents (image_of locations (λ n. all_empty xs f all n i))) ∙ (λ i. TellsContents (record { locations = locations; at = λ place. at place i }))
  where
    at : (place : Place) → store_for locations (λ n. empty_store) place ≡ empty_store
    at Global = refl
    at (Shard location) = shard_empty locations location

-- ---- one site in place of another

stores_at : {A : Type 0} (xs : List A) (f : A → Store) (n : ℕ) (d : A) → n < length xs → stores_of f xs n ≡ f (get_or xs n d)
stores_at [] f n d less = absurd (omega arith)
stores_at (x ∷ xs) f zero d less = refl
stores_at (x ∷ xs) f (suc n) d less = stores_at xs f n d (omega arith)

stores_set : {A : Type 0} (xs : List A) (f : A → Store) (n : ℕ) (x : A) → n < length xs → stores_of f (set xs n x) n ≡ f x
stores_set [] f n x less = absurd (omega arith)
stores_set (y ∷ ys) f zero x less = refl
stores_set (y ∷ ys) f (suc n) x less = stores_set ys f n x (omega arith)

stores_other : {A : Type 0} (xs : List A) (f : A → Store) (n : ℕ) (x : A) (m : ℕ) → (m ≡ n → ⊥) → stores_of f (set xs n x) m ≡ stores_of f xs m
stores_other [] f n x m other = refl
stores_other (y ∷ ys) f zero x zero other = absurd (other refl)
stores_other (y ∷ ys) f zero x (suc m) other = refl
stores_other (y ∷ ys) f (suc n) x zero other = refl
stores_other (y ∷ ys) f (suc n) x (suc m) other = stores_other ys f n x m (λ e. other (ap suc e))

-- ---- places

none_of : (x : Text) (ys : List Text) (i : ℕ) (b : Text) → AllByRecursion (λ y. same x y ≡ false) ys → slice_get ys i ≡ Some b → same x b ≡ false
none_of x [] i b all is = cc
none_of x (y ∷ ys) zero b all is = let e : y ≡ b = cc in subst (λ z. same x z ≡ false) e all.0
none_of x (y ∷ ys) (suc i) b all is = none_of x ys i b all.1 is

shard_at : (locations : List Text) (n : ℕ) → place_at locations (suc n) ≡ option_map Shard (slice_get locations n)
shard_at locations n = let no : (suc n == 0) ≡ false = grind arith in let is : suc n - 1 ≡ n = omega arith in λ i. if no i then Some Global else option_map Shard (slice_get locations (is i))

some_shard : (o : Option Text) (p : Place) → option_map Shard o ≡ Some p → (a : Text) × (o ≡ Some a) × (Shard a ≡ p)
some_shard None p e = cc
some_shard (Some a) p e = (a, refl, (let is : Shard a ≡ p = cc in is))

some_is : (p q : Place) → Some p ≡ Some q → p ≡ q
some_is p q e = cc

shard_found : (xs : List Text) (stores : ℕ → Store) (i : ℕ) (l : Text) → IsDistinct same xs → slice_get xs i ≡ Some l → shard_in xs stores l ≡ stores i
unfolding IsDistinct
shard_found [] stores i l apart is = cc
shard_found (x ∷ xs) stores zero l apart is = let e : x ≡ l = cc in ap (λ b. if b then stores 0 else shard_in xs (λ n. stores (suc n)) l) (ap (λ y. same y l) e ∙ same_self l)
shard_found (x ∷ xs) stores (suc i) l apart is = ap (λ b. if b then stores 0 else shard_in xs (λ n. stores (suc n)) l) (none_of x xs i l apart.0 is) ∙ shard_found xs (λ n. stores (suc n)) i l apart.1 is

-- the store of a site's place is the site's
store_found : (locations : List Text) (stores : ℕ → Store) (n : ℕ) (p : Place) → IsDistinct same locations → place_at locations n ≡ Some p → store_for locations stores p ≡ stores n
store_found locations stores zero p apart is = ap (store_for locations stores) (sym (some_is Global p is))
store_found locations stores (suc n) p apart is =
    let w = some_shard (slice_get locations n) p (sym (shard_at locations n) ∙ is) in
    ap (store_for locations stores) (sym w.2) ∙ shard_found locations (λ m. stores (suc m)) n w.0 apart w.1

shard_kept : (xs : List Text) (stores news : ℕ → Store) (l : Text) → ((m : ℕ) (x : Text) → slice_get xs m ≡ Some x → same x l ≡ true → news m ≡ stores m) → shard_in xs news l ≡ shard_in xs stores l
shard_kept [] stores news l kept = refl
shard_kept (x ∷ xs) stores news l kept = by (same x l) refl (shard_kept xs (λ n. stores (suc n)) (λ n. news (suc n)) l (λ m y e u. kept (suc m) y e u))
  where
    by : (b : Bool) → same x l ≡ b → shard_in xs (λ n. news (suc n)) l ≡ shard_in xs (λ n. stores (suc n)) l → (if b then news 0 else shard_in xs (λ n. news (suc n)) l) ≡ (if b then stores 0 else shard_in xs (λ n. stores (suc n)) l)
    by true t rest = kept 0 x refl t
    by false t rest = rest

-- the other places keep theirs
store_kept : (locations : List Text) (stores news : ℕ → Store) (n : ℕ) (p q : Place) → place_at locations n ≡ Some p → same_place p q ≡ false → ((m : ℕ) → (m ≡ n → ⊥) → news m ≡ stores m) → store_for locations news q ≡ store_for locations stores q
store_kept locations stores news n p Global is off kept =
    kept 0 (λ e. true≢false (sym (ap (λ r. same_place r Global) (some_is p Global (sym is ∙ ap (place_at locations) (sym e)))) ∙ off))
store_kept locations stores news n p (Shard l) is off kept =
    shard_kept locations (λ m. stores (suc m)) (λ m. news (suc m)) l (λ m x e t. kept (suc m) (λ own.
    let its : p ≡ Shard x = some_is p (Shard x) (sym is ∙ ap (place_at locations) (sym own) ∙ shard_at locations m ∙ ap (option_map Shard) e) in
    true≢false (sym (ap (λ r. same_place r (Shard l)) its ∙ t) ∙ off)))

-- the image with another store at a site's place
image_changed : (locations : List Text) (stores news : ℕ → Store) (n : ℕ) (p : Place) → IsDistinct same locations → place_at locations n ≡ Some p → ((m : ℕ) → (m ≡ n → ⊥) → news m ≡ stores m)
    → with_store (image_of locations stores) p (news n) ≡ image_of locations news
image_changed locations stores news n p apart is kept = λ i. record { locations = locations; at = λ q. by q (same_place p q) refl i }
  where
    by : (q : Place) (b : Bool) → same_place p q ≡ b → (if b then news n else store_for locations stores q) ≡ store_for locations news q
    by q true t = sym (store_found locations news n p apart is) ∙ ap (store_for locations news) (same_place_is p q t)
    by q false t = sym (store_kept locations stores news n p q is t kept)

-- ---- what is told then

told_same : (told : Bool) (locations : List Text) (stores news : ℕ → Store) → (told ≡ true → (m : ℕ) → news m ≡ stores m) → told_by told locations news ≡ told_by told locations stores
told_same true locations stores news kept = λ i. TellsContents (image_of locations (λ m. kept refl m i))
told_same false locations stores news kept = refl

told_put : (told : Bool) (locations : List Text) (stores news : ℕ → Store) (n : ℕ) (p : Place) (h : Happening) → IsDistinct same locations → place_at locations n ≡ Some p → (told ≡ true → (m : ℕ) → (m ≡ n → ⊥) → news m ≡ stores m)
    → (told ≡ true → told_after (TellsContents (image_of locations stores)) h ≡ TellsContents (with_store (image_of locations stores) p (news n))) → told_after (told_by told locations stores) h ≡ told_by told locations news
told_put true locations stores news n p h apart is kept does = does refl ∙ ap TellsContents (image_changed locations stores news n p apart is (kept refl))
told_put false locations stores news n p h apart is kept does = refl

told_wrote : (told : Bool) (locations : List Text) (stores : ℕ → Store) (bytes : Text) → told_after (told_by told locations stores) (Wrote bytes) ≡ told_by told locations stores
told_wrote true locations stores bytes = refl
told_wrote false locations stores bytes = refl

told_failed : (told : Bool) (locations : List Text) (stores : ℕ → Store) (p : Place) (edits : List Edit) → told_after (told_by told locations stores) (Committed p edits false) ≡ told_by told locations stores
told_failed true locations stores p edits = refl
told_failed false locations stores p edits = refl

some_place : (o : Option Place) → IsSome o → (p : Place) × (o ≡ Some p)
some_place None h = cc
some_place (Some p) h = (p, refl)

at_most : (n : ℕ) → n ≤ n
at_most n = omega arith

-- something happened at a site
happened : (locations : List Text) (old new : Told) (faults counts : ℕ → ℕ) (sink reads : ℕ) (site : Site) (h : Place → Happening) (p : Place) → place_at locations site.0 ≡ Some p → NeverFall faults counts → told_after old (h p) ≡ new
    → SameButFaults (happens_at (tells locations old faults sink reads) site h) (tells locations new counts sink reads)
happened locations old new faults counts sink reads site h p is never told =
    subst (λ o. SameButFaults (unwrap_or (option_map (λ place. happens (tells locations old faults sink reads) (h place)) o) (tells locations old faults sink reads)) (tells locations new counts sink reads)) (sym is)
    (record { same = λ i. tells locations (sym told i) counts sink reads; faults = never; sink = at_most sink })

nothing_else : (locations : List Text) (old new : Told) (faults counts : ℕ → ℕ) (sink reads : ℕ) → NeverFall faults counts → new ≡ old → SameButFaults (tells locations old faults sink reads) (tells locations new counts sink reads)
nothing_else locations old new faults counts sink reads never told = record { same = λ i. tells locations (told i) counts sink reads; faults = never; sink = at_most sink }

-- bytes were written
pub wrote : (told : Bool) (locations : List Text) (stores : ℕ → Store) (faults : ℕ → ℕ) (sink sunk reads : ℕ) (bytes : Text) → sink ≤ sunk
    → SameButFaults (happens (tells locations (told_by told locations stores) faults sink reads) (Wrote bytes)) (tells locations (told_by told locations stores) faults sunk reads)
wrote told locations stores faults sink sunk reads bytes rises = record { same = λ i. tells locations (sym (told_wrote told locations stores bytes) i) faults sunk reads; faults = λ site. at_most (faults site); sink = rises }

-- no trail is told
pub no_trail : (told : Bool) (locations : List Text) (stores : ℕ → Store) (P : Trail → Type 0) → IfTrail (told_by told locations stores) P
no_trail true locations stores P = tt
no_trail false locations stores P = tt

-- ---- calls at a site, which is one of the world's

module _ {A : Type 0} (told : Bool) (locations : List Text) (xs : List A) (store : A → Store) (faults : A → ℕ) (sink reads : ℕ) (site : Site) (old d x : A)
    (apart : IsDistinct same locations) (each : length xs ≡ length locations + 1) (there : IsSome (place_at locations site.0)) (got : old ≡ get_or xs site.0 d) where
  abbrev before : Outside
  before = tells locations (told_by told locations (stores_of store xs)) (count_of faults xs) sink reads

  abbrev after : ℕ → Outside
  after count = tells locations (told_by told locations (stores_of store (set xs site.0 x))) (count_of faults (set xs site.0 x)) sink count

  less : site.0 < length xs
  less = let l = site_within locations site.0 there in omega (arith, l, each)

  old_store : stores_of store xs site.0 ≡ store old
  old_store = stores_at xs store site.0 d less ∙ ap store (sym got)

  stays_all : store x ≡ store old → (m : ℕ) → stores_of store (set xs site.0 x) m ≡ stores_of store xs m
  stays_all stays m = elim (cases_eq m site.0) [
    | inl e ↦ subst (λ n. stores_of store (set xs site.0 x) n ≡ stores_of store xs n) (sym e) (stores_set xs store site.0 x less ∙ stays ∙ sym old_store)
    | inr other ↦ stores_other xs store site.0 x m other
  ]

  same_told : (told ≡ true → store x ≡ store old) → told_by told locations (stores_of store (set xs site.0 x)) ≡ told_by told locations (stores_of store xs)
  same_told stays = told_same told locations (stores_of store xs) (stores_of store (set xs site.0 x)) (λ t. stays_all (stays t))

  -- a call that looks
  pub looks : {T : Type 0} (r : Result T WorldError) (count : ℕ) → faults old ≤ last_count → faults x ≡ counts_after r (faults old) → (told ≡ true → store x ≡ store old) → count ≡ (if site.0 == 0 then one_more reads else reads)
      → SameButFaults (read_at before site) (after count)
  looks r count within counted stays is = subst (λ n. SameButFaults (read_at before site) (after n)) (sym is) (by (site.0 == 0))
    where
      never : NeverFall (count_of faults xs) (count_of faults (set xs site.0 x))
      never = keeps_counts xs faults site.0 old d x r got within counted

      by : (b : Bool) → SameButFaults (if b then tells locations (told_by told locations (stores_of store xs)) (count_of faults xs) sink (one_more reads) else before) (after (if b then one_more reads else reads))
      by true = nothing_else locations _ _ (count_of faults xs) (count_of faults (set xs site.0 x)) sink (one_more reads) never (same_told stays)
      by false = nothing_else locations _ _ (count_of faults xs) (count_of faults (set xs site.0 x)) sink reads never (same_told stays)

  -- what it finds
  pub finds : {T : Type 0} (r : Result T WorldError) (Q : Store → T → Type 0) → (told ≡ true → IfOk r (λ v. Q (store old) v)) → IfOk r (λ v. OfStore before site (λ s. Q s v))
  finds {T} r Q found = by told r found
    where
      where_told : (v : T) → Q (store old) v → Q (unwrap_or (option_map (store_for locations (stores_of store xs)) (place_at locations site.0)) empty_store) v
      where_told v q =
          let p = some_place (place_at locations site.0) there in
          subst (λ s. Q s v) (sym (ap (λ o. unwrap_or (option_map (store_for locations (stores_of store xs)) o) empty_store) p.1 ∙ store_found locations (stores_of store xs) site.0 p.0 apart p.1 ∙ old_store)) q

      by : (b : Bool) (r : Result T WorldError) → (b ≡ true → IfOk r (λ v. Q (store old) v)) → IfOk r (λ v. OfStore (tells locations (told_by b locations (stores_of store xs)) (count_of faults xs) sink reads) site (λ s. Q s v))
      by true (Ok v) h = where_told v (h refl)
      by true (Err e) h = tt
      by false (Ok v) h = tt
      by false (Err e) h = tt

  -- a commit
  pub commits : (edits : List Edit) (r : Result (Unit {0}) WorldError) → faults old ≤ last_count → faults x ≡ counts_after r (faults old) → (told ≡ true → store x ≡ committed r (store old) edits) → Commits before (after reads) site edits r
  commits edits r within counted made = by r (keeps_counts xs faults site.0 old d x r got within counted) made
    where
      p : (p : Place) × (place_at locations site.0 ≡ Some p)
      p = some_place (place_at locations site.0) there

      by : (r : Result (Unit {0}) WorldError) → NeverFall (count_of faults xs) (count_of faults (set xs site.0 x)) → (told ≡ true → store x ≡ committed r (store old) edits) → Commits before (after reads) site edits r
      by (Ok done) never made =
          happened locations _ _ (count_of faults xs) (count_of faults (set xs site.0 x)) sink reads site (λ place. Committed place edits true) p.0 p.1 never
          (told_put told locations (stores_of store xs) (stores_of store (set xs site.0 x)) site.0 p.0 (Committed p.0 edits true) apart p.1 (λ t. stores_other xs store site.0 x)
          (λ t. ap (λ s. TellsContents (with_store (image_of locations (stores_of store xs)) p.0 s)) (ap (λ s. changed s edits) (store_found locations (stores_of store xs) site.0 p.0 apart p.1 ∙ old_store) ∙ sym (stores_set xs store site.0 x less ∙ made t))))
      by (Err Failed) never made = (
        false,
        happened locations _ _ (count_of faults xs) (count_of faults (set xs site.0 x)) sink reads site (λ place. Committed place edits false) p.0 p.1 never
            (told_failed told locations (stores_of store xs) p.0 edits ∙ sym (same_told made)),
      )
      by (Err Memory) never made = nothing_else locations _ _ (count_of faults xs) (count_of faults (set xs site.0 x)) sink reads never (same_told made)

  -- a reopening: where cells are told, they stay
  pub reopens : (r : Result (Unit {0}) WorldError) → (told ≡ true → IsStore (store old)) → faults old ≤ last_count → faults x ≡ counts_after r (faults old) → (told ≡ true → store x ≡ store old) → Reopens before (after reads) site r
  reopens r kept within counted stays = by r (keeps_counts xs faults site.0 old d x r got within counted)
    where
      p : (p : Place) × (place_at locations site.0 ≡ Some p)
      p = some_place (place_at locations site.0) there

      cells : (b : Bool) → (b ≡ true → IsStore (store old)) → (s : Store) × IsStore s × (b ≡ true → s ≡ store old)
      cells true is = (store old, is refl, λ t. refl)
      cells false is = (empty_store, store_empty, λ t. absurd (true≢false (sym t)))

      by : (r : Result (Unit {0}) WorldError) → NeverFall (count_of faults xs) (count_of faults (set xs site.0 x)) → Reopens before (after reads) site r
      by (Ok done) never =
          let it = cells told kept in (
            it.0,
            it.1,
            happened locations _ _ (count_of faults xs) (count_of faults (set xs site.0 x)) sink reads site (λ place. Reopened place it.0) p.0 p.1 never
                (told_put told locations (stores_of store xs) (stores_of store (set xs site.0 x)) site.0 p.0 (Reopened p.0 it.0) apart p.1 (λ t. stores_other xs store site.0 x)
                (λ t. ap (λ s. TellsContents (with_store (image_of locations (stores_of store xs)) p.0 s)) (it.2 t ∙ sym (stores_set xs store site.0 x less ∙ stays t)))),
          )
      by (Err e) never = nothing_else locations _ _ (count_of faults xs) (count_of faults (set xs site.0 x)) sink reads never (same_told stays)
