-- One step of the search, over what is told.
use Rattle.std.proofs.Common.{◌≡◌, ℕ, ◌+◌, ◌≤◌, ◌<◌, Bool, true, false, cond, Option, Some, None, option_map, refl, ap, subst, arith}
use Rattle.std.specs.Prelude.{Result, Ok, Err, IfOk, IsSome, unwrap_or, ◌==◌}
use Rattle.cell_world.specs.Texts.{Text}
use Rattle.cell_world.specs.Counts.{one_more}
use Rattle.cell_world.specs.Images.{Image, Place, global, IsImage, image_at, end_of_trail}
use Rattle.cell_world.specs.Stores.{IsStore, empty_store, Locals}
use Rattle.cell_world.specs.Finding.{IsFloor}
use Rattle.cell_world.specs.Outside.{Outside, Told, TellsNothing, TellsContents, TellsTrail, IfContents, TellsCells, IsSite, store_at, place_at, read_at}
use Rattle.cell_world.specs.declared.cells.Cell.TheVariants as cell
use Rattle.cell_world.specs.declared.cells.CellKey.{CellKey}
use Rattle.cell_world.specs.declared.cells.LocalRow.{LocalRow}
use Rattle.cell_world.specs.declared.cells.Site.{Site}
use Rattle.global_tables.specs.declared.faults.StepFault.{StepFault}
use Rattle.local_tables.specs.declared.judging.Look.{Look}
use Rattle.local_tables.specs.Resolving.{resolved, CountApart, marks_left, IsFrom, NoneAbove, Judges, reads_over, Looks, StaysFrom, left_after}
use Rattle.local_tables.proofs.Searching.{looks_row, stays_row, reads_row, looks_nothing}

-- what follows of two facts is so where they are told
pub told_both : (told : Told) → TellsCells told → (P Q R : Image → Type 0) → ((image : Image) → IsImage image → P image → Q image → R image) → IfContents told P → IfContents told Q → IfContents told R
told_both TellsNothing cells P Q R makes p q = tt
told_both (TellsContents image) cells P Q R makes p q = makes image cells p q
told_both (TellsTrail trail) cells P Q R makes p q = makes (image_at trail (end_of_trail trail)) (cells (end_of_trail trail)) p q

pub nothing_more : (told : Told) → IfContents told (λ image. Unit {0})
nothing_more TellsNothing = tt
nothing_more (TellsContents image) = tt
nothing_more (TellsTrail trail) = tt

-- a site's store holds nothing but cells
pub stored : (place : Option Place) (image : Image) → IsImage image → IsSome place → IsStore (unwrap_or (option_map image.at place) empty_store)
stored None image cells some = absurd (cc some)
stored (Some place) image cells some = cells place

-- reads of another site than 0 aren't counted
pub reads_stay : (o : Outside) (site : Site) → 0 < site.0 → (read_at o site).global_reads ≡ o.global_reads
reads_stay o site some = by (site.0 == 0) refl
  where
    by : (b : Bool) → (site.0 == 0) ≡ b → (read_at o site).global_reads ≡ o.global_reads
    by true e = let no : site.0 ≡ 0 = grind (arith, e) in absurd (omega (arith, no, some))
    by false e = ap (λ b. (cond b (record o { global_reads = one_more o.global_reads }) o).global_reads) e

module _ (o : Outside) (site : Site) (cells : TellsCells o.told) (is_site : IsSite o site) (name key : Text) (from : CellKey) where
  Locals_of : Image → Locals
  Locals_of image = (store_at o site image).locals

  -- the floor that was found
  abbrev Found : Option LocalRow → Image → Type 0
  Found below image = IsFloor (store_at o site image) from (option_map cell.Local below)

  pub looks_none : (below : Option LocalRow) → below ≡ None → IfContents o.told (Found below)
      → IfContents o.told (λ image. IsFrom name key from → CountApart (global image).log (store_at o site image).locals name → NoneAbove (global image).log (store_at o site image).locals name key from → None ≡ resolved (global image).log (store_at o site image).locals name key)
  looks_none below is found = told_both o.told cells (Found below) (λ image. Unit {0})
      (λ image. IsFrom name key from → CountApart (global image).log (store_at o site image).locals name → NoneAbove (global image).log (store_at o site image).locals name key from → None ≡ resolved (global image).log (store_at o site image).locals name key)
      (λ image all floor u at apart none.
      looks_nothing (store_at o site image) (stored (place_at o.locations site.0) image all is_site) (global image).log name key from at (subst (λ b. IsFloor (store_at o site image) from (option_map cell.Local b)) is floor) none)
      found (nothing_more o.told)

  module _ (below : Option LocalRow) (row : LocalRow) (is : below ≡ Some row) (found : IfContents o.told (Found below)) (told : Told) (same : told ≡ o.told) where
    floor_at : (image : Image) → Found below image → IsFloor (store_at o site image) from (Some (cell.Local row))
    floor_at image floor = subst (λ b. IsFloor (store_at o site image) from (option_map cell.Local b)) is floor

    here : (look : Look) → IfContents told (λ image. Judges (global image).log key row look) → IfContents o.told (λ image. Judges (global image).log key row look)
    here look j = subst (λ t. IfContents t (λ image. Judges (global image).log key row look)) same j

    pub looks_some : (r : Result Look StepFault) → IfOk r (λ look. IfContents told (λ image. Judges (global image).log key row look))
        → IfOk r (λ look. IfContents o.told (λ image. IsFrom name key from → CountApart (global image).log (store_at o site image).locals name → NoneAbove (global image).log (store_at o site image).locals name key from → Looks (global image).log (store_at o site image).locals name key look))
    looks_some (Err e) j = tt
    looks_some (Ok look) j = told_both o.told cells (Found below) (λ image. Judges (global image).log key row look)
        (λ image. IsFrom name key from → CountApart (global image).log (store_at o site image).locals name → NoneAbove (global image).log (store_at o site image).locals name key from → Looks (global image).log (store_at o site image).locals name key look)
        (λ image all floor judged at apart none. looks_row (store_at o site image) (stored (place_at o.locations site.0) image all is_site) (global image).log name key from at row (floor_at image floor) apart none look judged)
        found (here look j)

    pub stays_some : (r : Result Look StepFault) → IfOk r (λ look. IfContents told (λ image. Judges (global image).log key row look))
        → IfOk r (λ look. IfContents o.told (λ image. IsFrom name key from → StaysFrom name key look))
    stays_some (Err e) j = tt
    stays_some (Ok look) j = told_both o.told cells (Found below) (λ image. Judges (global image).log key row look) (λ image. IsFrom name key from → StaysFrom name key look)
        (λ image all floor judged at. stays_row (store_at o site image) (stored (place_at o.locations site.0) image all is_site) (global image).log name key from at row (floor_at image floor) look judged)
        found (here look j)

    pub reads_some : (before between after : ℕ) → between ≡ before → after ≤ between + reads_over key row → (r : Result Look StepFault) → IfOk r (λ look. IfContents told (λ image. Judges (global image).log key row look))
        → IfContents o.told (λ image. IsFrom name key from → after + left_after (store_at o site image).locals name key r ≤ before + marks_left (store_at o site image).locals name key from)
    reads_some before between after e le r j = told_both o.told cells (Found below) (λ image. IfOk r (Judges (global image).log key row))
        (λ image. IsFrom name key from → after + left_after (store_at o site image).locals name key r ≤ before + marks_left (store_at o site image).locals name key from)
        (λ image all floor judged at.
        let spent = reads_row (store_at o site image) (stored (place_at o.locations site.0) image all is_site) (global image).log name key from at row (floor_at image floor) (global image).log r judged in
        omega (arith, e, le, spent))
        found (judged_by r j)
      where
        judged_by : (r : Result Look StepFault) → IfOk r (λ look. IfContents told (λ image. Judges (global image).log key row look)) → IfContents o.told (λ image. IfOk r (Judges (global image).log key row))
        judged_by (Ok look) j = here look j
        judged_by (Err e) j = nothing_more o.told

-- what a site's read tells afterwards
pub told_stays : (o : Outside) (site : Site) → (read_at o site).told ≡ o.told
told_stays o site = by (site.0 == 0)
  where
    by : (b : Bool) → (cond b (record o { global_reads = one_more o.global_reads }) o).told ≡ o.told
    by true = refl
    by false = refl
