-- The world knows the locations that its contents tell.
use Rattle.std.proofs.Common.{◌≡◌, Bool, true, false, List, [], ◌∷◌, Option, is_some, refl, sym, ap, ◌∙◌, take}
use Rattle.cell_world.specs.Plain.{is_location_of}
use Rattle.cell_world.specs.Texts.{Text}
use Rattle.cell_world.specs.Keys.{is_among}
use Rattle.cell_world.specs.Images.{Image, Happening, Committed, Wrote, Reopened, after_one, after_all, end_of_trail}
use Rattle.cell_world.specs.Meaning.{meaning}
use Rattle.cell_world.specs.Outside.{Outside, Told, TellsNothing, TellsContents, TellsTrail, IfContents, IsOver, IsWorld, site_number}
use Rattle.cell_world.specs.declared.cells.Site.{Site}
use Rattle.cell_world.proofs.ContentsLaws.{contents_weaker}
use Rattle.image_laws.proofs.SiteLaws.{number_known}

-- No happening changes the locations.
after_happening : (image : Image) (h : Happening) → (after_one image h).locations ≡ image.locations
after_happening image (Committed place change true) = refl
after_happening image (Committed place change false) = refl
after_happening image (Wrote bytes) = refl
after_happening image (Reopened place cells) = refl

after_happenings : (image : Image) (hs : List Happening) → (after_all image hs).locations ≡ image.locations
after_happenings image [] = refl
after_happenings image (h ∷ hs) = after_happenings (after_one image h) hs ∙ after_happening image h

-- What is told has the world's locations.
locations_told : (locations : List Text) (told : Told) → IsOver locations told → IfContents told (λ image. image.locations ≡ locations)
locations_told locations TellsNothing over = tt
locations_told locations (TellsContents image) over = over
locations_told locations (TellsTrail trail) over = after_happenings trail.start (take (end_of_trail trail) trail.happened) ∙ over

-- A location has a site exactly where it is one of those of the plain state.
pub location_known : (o : Outside) → IsWorld o → (at : Text) (found : Option Site) (known : Bool) → known ≡ is_some found → found ≡ site_number o.locations at
    → IfContents o.told (λ image. known ≡ is_location_of (meaning image) at)
location_known o world at found known some is = contents_weaker o.told (λ image. image.locations ≡ o.locations) (λ image. known ≡ is_location_of (meaning image) at)
    (λ image same. some ∙ ap is_some is ∙ number_known o.locations at ∙ ap (λ (ls : List Text). is_among ls at) (sym same))
    (locations_told o.locations o.told world.over)
