-- What a world in memory tells: its trail, made of what it keeps.
use Rattle.std.specs.Prelude.{ℕ, List, [], ◌∷◌, ◌++◌, true, false, min, option_map, unwrap_or, slice_index, take, drop}
use Rattle.cell_world.specs.Texts.{Text}
use Rattle.cell_world.specs.Counts.{last_count}
use Rattle.cell_world.specs.Images.{Image, Place, Happening, Committed, Wrote, Reopened, Trail, after_one, empty_image}
use Rattle.cell_world.specs.Outside.{Outside, TellsTrail, place_at}
use Rattle.cell_world.specs.declared.cells.Site.{Site}
use Rattle.world_memory.specs.declared.contents.Made.{Made}
use Rattle.world_memory.specs.declared.contents.Made.TheVariants as kept

-- what happens at the place of a site; where the world has no such site, nothing is written
abbrev pub at_place : List Text → Site → (Place → Happening) → Happening
at_place locations site h = unwrap_or (option_map h (place_at locations site.0)) (Wrote [])

-- an entry of what is kept, as it is told; the image is the one before it
abbrev pub told_as : List Text → Image → Made → Happening
told_as locations image (kept.Committed site change) = at_place locations site (λ place. Committed place change true)
told_as locations image (kept.Tried site change) = at_place locations site (λ place. Committed place change false)
told_as locations image (kept.Wrote bytes) = Wrote bytes
told_as locations image (kept.Reopened site) = at_place locations site (λ place. Reopened place (image.at place))

abbrev pub story : List Text → Image → List Made → List Happening
story locations image [] = []
story locations image (h ∷ hs) = told_as locations image h ∷ story locations (after_one image (told_as locations image h)) hs

-- the image after all this
abbrev pub leaves : List Text → Image → List Made → Image
leaves locations image [] = image
leaves locations image (h ∷ hs) = leaves locations (after_one image (told_as locations image h)) hs

-- the image that the first so many entries leave, from empty stores on
abbrev pub begins : List Text → List Made → ℕ → Image
begins locations happened start = leaves locations (empty_image locations) (take start happened)

-- the trail of the others
abbrev pub trail_from : List Text → List Made → ℕ → Trail
trail_from locations happened start = record { start = begins locations happened start; happened = story locations (begins locations happened start) (drop start happened) }

-- how often calls at a site failed, by a list with a place for each site
abbrev pub failed_at : List ℕ → ℕ → ℕ
failed_at failed site = min (slice_index failed site) last_count

-- a world that tells this trail
abbrev pub tells : List Text → Trail → List ℕ → ℕ → ℕ → Outside
tells locations trail failed sink reads = record { locations = locations; told = TellsTrail trail; faults_at = failed_at failed; sink_faults = sink; global_reads = reads }

-- a world that was just made over this image
abbrev pub fresh : List Text → Image → Outside
fresh locations image = record { locations = locations; told = TellsTrail (record { start = image; happened = [] }); faults_at = λ site. 0; sink_faults = 0; global_reads = 0 }

-- the bytes that were written
abbrev pub wrote : List Made → Text
wrote [] = []
wrote (kept.Wrote bytes ∷ hs) = bytes ++ wrote hs
wrote (kept.Committed site change ∷ hs) = wrote hs
wrote (kept.Tried site change ∷ hs) = wrote hs
wrote (kept.Reopened site ∷ hs) = wrote hs
