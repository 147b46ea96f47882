-- A read of the site of a mapping for the rows under its keys.
use Rattle.std.proofs.Common.{◌≡◌, Bool, true, false, cond, Option, Some, is_some, refl, sym, ap, ◌∙◌, subst}
use Rattle.std.specs.Prelude.{Err, IsErrOf, option_map, unwrap_or, ◌==◌}
use Rattle.cell_world.specs.Counts.{NeverFall, one_more}
use Rattle.cell_world.specs.Texts.{Text}
use Rattle.cell_world.specs.Finding.{IsNextKey}
use Rattle.cell_world.specs.Images.{Image, Place, Shard}
use Rattle.cell_world.specs.Keys.{low_of}
use Rattle.cell_world.specs.Lawful.{rows_at}
use Rattle.cell_world.specs.Meaning.{meaning}
use Rattle.cell_world.specs.Outside.{Outside, Told, FailsWithRise, IfContents, IsWorld, OfStore, SameButFaults, StoreRoseBy, read_at, site_number, store_at}
use Rattle.cell_world.specs.Plain.{is_location_of}
use Rattle.cell_world.specs.Stores.{Store, empty_store}
use Rattle.cell_world.specs.declared.cells.Site.{Site}
use Rattle.cell_world.specs.declared.operations.Op.{Op}
use Rattle.cell_world.specs.declared.operations.Piece.{Piece}
use Rattle.cell_world.specs.declared.outside.WorldError.{WorldError}
use Rattle.cell_world.specs.declared.outside.WorldError.TheVariants as error
use Rattle.cell_world.proofs.ContentsLaws.{contents_all, contents_weaker, contents_both}
use Rattle.global_tables.specs.declared.faults.StepFault.{StepFault}
use Rattle.global_tables.specs.declared.faults.StepFault.TheVariants as fault
use Rattle.plain_model.specs.declared.plans.PlanStop.{PlanStop}
use Rattle.plain_model.specs.declared.plans.PlanStop.TheVariants as stop
use Rattle.image_laws.proofs.SiteLaws.{place_of_number}
use Rattle.map_ops.proofs.KnownLocations.{location_known}
use Rattle.mapping_plans.specs.SiteRows.{HasRowsUnder, IsFault, PlansIfEmpty, is_over}
use Rattle.mapping_plans.proofs.RowsUnder.{next_decides}
use Rattle.mapping_plans.proofs.SiteFaults.{site_rose, err_is}

pub rows_read : (o : Outside) → IsWorld o → (p : Piece) (located : Option Site) → located ≡ site_number o.locations p.location → (site : Site) → located ≡ Some site → (low : Text) → low ≡ low_of p.span
    → (found : Option Text) → OfStore o site (λ s. IsNextKey s.rows p.map low false found) → (has : Bool) → has ≡ is_over p.span found → IfContents o.told (HasRowsUnder p has)
rows_read o world p located by_place site is low low_is found next has over =
    contents_weaker o.told (λ image. (is_some located ≡ is_location_of (meaning image) p.location) × IsNextKey (store_at o site image).rows p.map low false found) (HasRowsUnder p has)
    (λ image both. record {
      known = sym both.0 ∙ ap is_some is;
      present = λ sound stands here. over ∙ next_decides image sound p stands here found
          (subst (λ (l : Text). IsNextKey (rows_at image p.location) p.map l false found) low_is (subst (λ (s : Store). IsNextKey s.rows p.map low false found) (at_site image) both.1));
    })
    (contents_both o.told (λ image. is_some located ≡ is_location_of (meaning image) p.location) (λ image. IsNextKey (store_at o site image).rows p.map low false found)
    (location_known o world p.location located (is_some located) refl by_place) next)
  where
    at_site : (image : Image) → store_at o site image ≡ image.at (Shard p.location)
    at_site image = ap (λ (place : Option Place). unwrap_or (option_map image.at place) empty_store) (place_of_number o.locations p.location site (sym by_place ∙ is))

-- A stop by the store comes only where the store count rose.
pub read_rose : (o new : Outside) (p : Piece) (located : Option Site) → located ≡ site_number o.locations p.location → (site : Site) → located ≡ Some site → SameButFaults (read_at o site) new
    → (Found : Type 0) (e : WorldError) → FailsWithRise {T = Found} (Err e) (o.faults_at site.0) (new.faults_at site.0) → (f : StepFault) → (e ≡ error.Memory → f ≡ fault.Memory)
    → (result : PlanStop) → (f ≡ fault.Memory → result ≡ stop.Memory) → (Wanted : Type 0) → IsErrOf {T = Wanted} {E = PlanStop} (Err result) stop.Store → StoreRoseBy 1 o new
read_rose o new p located by_place site is same Found e rise f of_memory result stops Wanted wanted = by e rise of_memory
  where
    never_fell : (b : Bool) → NeverFall (cond b (record o { global_reads = one_more o.global_reads }) o).faults_at new.faults_at → NeverFall o.faults_at new.faults_at
    never_fell true h = h
    never_fell false h = h

    by : (e : WorldError) → FailsWithRise {T = Found} (Err e) (o.faults_at site.0) (new.faults_at site.0) → (e ≡ error.Memory → f ≡ fault.Memory) → StoreRoseBy 1 o new
    by error.Failed rise of_memory = site_rose o new site.0 (ap is_some (place_of_number o.locations p.location site (sym by_place ∙ is))) (never_fell (site.0 == 0) same.faults) (rise refl)
    by error.Memory rise of_memory = let wrong : stop.Memory ≡ stop.Store = sym (stops (of_memory refl)) ∙ err_is Wanted result stop.Store wanted in cc

-- so of what is planned where that is no refusal
pub fault_plans : (told : Told) (p : Piece) (op : Op) (e : PlanStop) → IsFault e → IfContents told (PlansIfEmpty p op (Err e))
fault_plans told p op (stop.Refused r) none = absurd none
fault_plans told p op stop.Store none = contents_all told (PlansIfEmpty p op (Err stop.Store)) (λ image. tt)
fault_plans told p op stop.Memory none = contents_all told (PlansIfEmpty p op (Err stop.Memory)) (λ image. tt)
