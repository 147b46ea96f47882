-- The changes of the local transactions, over what is told.
use Rattle.std.proofs.Common.{◌≡◌, ℕ, ◌+◌, ◌≤◌, Bool, true, false, cond, not, ◌&&◌, List, [], ◌∷◌, ◌++◌, length, Option, option_map, is_some, refl, sym, ap, ◌∙◌, subst, arith, true≢false}
use Rattle.std.specs.Prelude.{filter, option_to_list, unwrap_or}
use Rattle.std.specs.FinMap as fin
use Rattle.std.proofs.lemmas.Bool.{and_parts, and_from}
use Rattle.std.proofs.lemmas.List.{append_assoc}
use Rattle.cell_world.specs.Texts.{Text}
use Rattle.cell_world.specs.Keys.{same}
use Rattle.cell_world.specs.Lists.{IsOneOf}
use Rattle.cell_world.specs.UnderWay.{new_row}
use Rattle.cell_world.specs.declared.cells.Cell.TheVariants as cell
use Rattle.cell_world.specs.declared.changes.Edit.TheVariants.{Put}
use Rattle.cell_world.specs.Images.{Image, Place, Shard, global}
use Rattle.cell_world.specs.Meaning.{is_logged}
use Rattle.cell_world.specs.Outside.{Outside, Told, IfContents, store_at, place_at}
use Rattle.cell_world.specs.Sound.{HasLog, locals_at}
use Rattle.cell_world.specs.Stores.{Store, Locals, empty_store}
use Rattle.cell_world.specs.Sweep.{reaches, sweep}
use Rattle.cell_world.specs.declared.operations.Op.{Op}
use Rattle.cell_world.specs.declared.operations.Piece.{Piece}
use Rattle.cell_world.specs.declared.cells.LocalRow.{LocalRow}
use Rattle.cell_world.specs.declared.cells.Mark.{Mark}
use Rattle.cell_world.specs.declared.cells.Mark.TheVariants.{Plain, Old}
use Rattle.cell_world.specs.declared.cells.Site.{Site}
use Rattle.cell_world.specs.declared.changes.Edit.{Edit}
use Rattle.cell_world.proofs.ContentsLaws.{contents_weaker, contents_both}
use Rattle.global_tables.proofs.Rising.{in_filter}
use Rattle.image_laws.specs.LocalSteps.{settle}
use Rattle.image_laws.specs.RowEdits.{edits_by, news_edits}
use Rattle.local_tables.specs.Altering.{IsSiteOf, alters, altered, is_old_of, is_foreign, foreign_marks, if_any, to_mark, to_undo, to_settle}
use Rattle.local_tables.specs.Resolving.{is_marked}
use Rattle.local_tables.specs.Sweeping.{AllReach, AllOwn}
use Rattle.local_tables.specs.declared.altering.Work.{Work}
use Rattle.local_tables.specs.declared.altering.Work.TheVariants.{ToMark, ToUndo, ToSettle}
use Rattle.local_tables.proofs.Searching.{longer}

-- the store of a site, by its location
store_of : (o : Outside) (site : Site) (location : Text) → IsSiteOf o site location → (image : Image) → store_at o site image ≡ image.at (Shard location)
store_of o site location place image = ap (λ (p : Option Place). unwrap_or (option_map image.at p) empty_store) place

locals_of : (o : Outside) (site : Site) (location : Text) → IsSiteOf o site location → (image : Image) → (store_at o site image).locals ≡ locals_at image location
locals_of o site location place image = ap (λ (s : Store). s.locals) (store_of o site location place image)

-- ---- rows that are altered

pub marked_reach : (op : Op) (q : LocalRow) → alters ToMark op q ≡ true → reaches op q ≡ true
marked_reach op q h = (and_parts (reaches op q) (not (is_old_of op.number q.mark)) h).0

pub undone_reach : (op : Op) (q : LocalRow) → alters ToUndo op q ≡ true → reaches op q ≡ true
undone_reach op q h = (and_parts (reaches op q) (is_marked q.mark) h).0

-- those that pass two tests
fewer_twice : {A : Type 0} (f g h : A → Bool) (xs : List A) → ((x : A) → f x ≡ true → g x ≡ true → h x ≡ true) → length (filter f (filter g xs)) ≤ length (filter h xs)
fewer_twice f g h [] both = omega arith
fewer_twice f g h (x ∷ xs) both = by (g x) refl (fewer_twice f g h xs both)
  where
    by : (b : Bool) → g x ≡ b → length (filter f (filter g xs)) ≤ length (filter h xs) → length (filter f (cond b (x ∷ filter g xs) (filter g xs))) ≤ length (cond (h x) (x ∷ filter h xs) (filter h xs))
    by true e le = longer f h x (filter f (filter g xs)) (filter h xs) (f x) (h x) (λ t. both x t e) le
    by false e le = longer f h x (filter f (filter g xs)) (filter h xs) false (h x) (λ t. absurd (true≢false (sym t))) le

module _ (o : Outside) (site : Site) (work : Work) (op : Op) (reach : (q : LocalRow) → alters work op q ≡ true → reaches op q ≡ true) (rows seen : List LocalRow) (saw : seen ≡ rows)
    (found : IfContents o.told (λ image. rows ≡ altered work op (store_at o site image).locals)) where
  there : (location : Text) → IsSiteOf o site location → (image : Image) → rows ≡ altered work op (store_at o site image).locals → seen ≡ altered work op (locals_at image location)
  there location place image is = saw ∙ is ∙ ap (altered work op) (locals_of o site location place image)

  all_reach : (locals : Locals) → seen ≡ altered work op locals → AllReach op seen
  all_reach locals is row among = reach row (in_filter (alters work op) (fin.values locals) row (subst (λ xs. IsOneOf xs row) is among)).1

  -- the sweep of the rows
  abbrev pub Swept : Mark → List Edit → Image → Type 0
  Swept mark edits image = HasLog (global image).log op → (location : Text) → IsSiteOf o site location → edits ≡ edits_by (sweep (global image).log op mark) (altered work op (locals_at image location))

  pub swept_tells : (told : Told) → told ≡ o.told → (mark : Mark) (edits : List Edit) → IfContents told (λ image. is_logged (global image).log op.number ≡ true → AllReach op seen → edits ≡ edits_by (sweep (global image).log op mark) seen)
      → IfContents o.told (Swept mark edits)
  swept_tells told same mark edits sweeps = contents_weaker o.told (λ image. (rows ≡ altered work op (store_at o site image).locals) × Sweeps image) (Swept mark edits)
      (λ image both logged location place.
      let is = there location place image both.0 in
      both.1 (ap is_some logged) (all_reach (locals_at image location) is) ∙ ap (edits_by (sweep (global image).log op mark)) is)
      (contents_both o.told (λ image. rows ≡ altered work op (store_at o site image).locals) Sweeps found (subst (λ t. IfContents t Sweeps) same sweeps))
    where
      Sweeps : Image → Type 0
      Sweeps image = is_logged (global image).log op.number ≡ true → AllReach op seen → edits ≡ edits_by (sweep (global image).log op mark) seen

  -- its reads of the log
  pub reads_tells : (first before after : ℕ) → before ≡ first → after ≤ before + length (filter (is_foreign op.number) seen)
      → IfContents o.told (λ image. (location : Text) → IsSiteOf o site location → after ≤ first + foreign_marks op (locals_at image location))
  reads_tells first before after same le = contents_weaker o.told (λ image. rows ≡ altered work op (store_at o site image).locals)
      (λ image. (location : Text) → IsSiteOf o site location → after ≤ first + foreign_marks op (locals_at image location))
      (λ image is location place.
      let there_is = there location place image is in
      let few : length (filter (is_foreign op.number) seen) ≤ foreign_marks op (locals_at image location) =
      subst (λ xs. length (filter (is_foreign op.number) xs) ≤ foreign_marks op (locals_at image location)) (sym there_is)
      (fewer_twice (is_foreign op.number) (alters work op) (λ row. reaches op row && is_foreign op.number row) (fin.values (locals_at image location)) (λ q t a. and_from (reaches op q) (is_foreign op.number q) (reach q a) t)) in
      omega (arith, same, le, few))
      found

-- ---- undo

pub undo_tells : (o : Outside) (site : Site) (op : Op) (edits : List Edit) (answer : Option (List Edit)) → answer ≡ if_any edits
    → IfContents o.told (λ image. HasLog (global image).log op → (location : Text) → IsSiteOf o site location → edits ≡ edits_by (sweep (global image).log op Plain) (altered ToUndo op (locals_at image location)))
    → IfContents o.told (λ image. HasLog (global image).log op → (location : Text) → IsSiteOf o site location → answer ≡ if_any (to_undo (global image).log op (locals_at image location)))
undo_tells o site op edits answer is sweeps = contents_weaker o.told
    (λ image. HasLog (global image).log op → (location : Text) → IsSiteOf o site location → edits ≡ edits_by (sweep (global image).log op Plain) (altered ToUndo op (locals_at image location)))
    (λ image. HasLog (global image).log op → (location : Text) → IsSiteOf o site location → answer ≡ if_any (to_undo (global image).log op (locals_at image location)))
    (λ image h logged location place. is ∙ ap if_any (h logged location place)) sweeps

-- ---- the local step

news-append : (number : ℕ) (location : Text) (xs ys : List Piece) → news_edits number location (xs ++ ys) ≡ news_edits number location xs ++ news_edits number location ys
news-append number location [] ys = refl
news-append number location (x ∷ xs) ys = by (same x.location location) (news-append number location xs ys)
  where
    by : (b : Bool) → news_edits number location (xs ++ ys) ≡ news_edits number location xs ++ news_edits number location ys
        → cond b (Put (cell.Local (new_row number x)) ∷ []) [] ++ news_edits number location (xs ++ ys) ≡ (cond b (Put (cell.Local (new_row number x)) ∷ []) [] ++ news_edits number location xs) ++ news_edits number location ys
    by true e = ap (λ es. Put (cell.Local (new_row number x)) ∷ es) e
    by false e = e

pub mark_tells : (o later : Outside) (site : Site) → later.locations ≡ o.locations → (op : Op) (swept once edits : List Edit) (answer : Option (List Edit)) → answer ≡ if_any edits
    → ((location : Text) → IsSiteOf later site location → once ≡ swept ++ news_edits op.number location (option_to_list op.news.one))
    → ((location : Text) → IsSiteOf later site location → edits ≡ once ++ news_edits op.number location (option_to_list op.news.two))
    → IfContents o.told (λ image. HasLog (global image).log op → (location : Text) → IsSiteOf o site location → swept ≡ edits_by (sweep (global image).log op (Old op.number)) (altered ToMark op (locals_at image location)))
    → IfContents o.told (λ image. HasLog (global image).log op → (location : Text) → IsSiteOf o site location → answer ≡ if_any (to_mark (global image).log op location (locals_at image location)))
mark_tells o later site same_locations op swept once edits answer is one two sweeps = contents_weaker o.told
    (λ image. HasLog (global image).log op → (location : Text) → IsSiteOf o site location → swept ≡ edits_by (sweep (global image).log op (Old op.number)) (altered ToMark op (locals_at image location)))
    (λ image. HasLog (global image).log op → (location : Text) → IsSiteOf o site location → answer ≡ if_any (to_mark (global image).log op location (locals_at image location)))
    (λ image h logged location place.
    let there : IsSiteOf later site location = ap (λ ls. place_at ls site.0) same_locations ∙ place in
    let first = news_edits op.number location (option_to_list op.news.one) in
    let second = news_edits op.number location (option_to_list op.news.two) in
    is ∙ ap if_any
    (two location there ∙ ap (λ es. es ++ second) (one location there) ∙ append_assoc swept first second
    ∙ ap (λ es. es ++ (first ++ second)) (h logged location place)
    ∙ ap (λ es. edits_by (sweep (global image).log op (Old op.number)) (altered ToMark op (locals_at image location)) ++ es) (sym (news-append op.number location (option_to_list op.news.one) (option_to_list op.news.two)))))
    sweeps

-- ---- settling

pub settle_tells : (o : Outside) (site : Site) (op : Op) (rows seen : List LocalRow) (edits : List Edit) (answer : Option (List Edit)) → answer ≡ if_any edits → seen ≡ rows
    → IfContents o.told (λ image. rows ≡ altered ToSettle op (store_at o site image).locals) → (AllOwn op.number seen → edits ≡ edits_by (settle op.number) seen)
    → IfContents o.told (λ image. (location : Text) → IsSiteOf o site location → answer ≡ if_any (to_settle op (locals_at image location)))
settle_tells o site op rows seen edits answer is saw found settles = contents_weaker o.told (λ image. rows ≡ altered ToSettle op (store_at o site image).locals)
    (λ image. (location : Text) → IsSiteOf o site location → answer ≡ if_any (to_settle op (locals_at image location)))
    (λ image those location place.
    let there : seen ≡ altered ToSettle op (locals_at image location) = saw ∙ those ∙ ap (altered ToSettle op) (locals_of o site location place image) in
    let own : AllOwn op.number seen = λ row among. (in_filter (alters ToSettle op) (fin.values (locals_at image location)) row (subst (λ xs. IsOneOf xs row) there among)).1 in
    is ∙ ap if_any (settles own ∙ ap (edits_by (settle op.number)) there))
    found
