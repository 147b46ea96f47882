-- What a world tells of itself, and what its calls do.
use Rattle.std.specs.Prelude.{◌≡◌, ℕ, ◌+◌, ◌-◌, ◌≤◌, Bool, true, ◌==◌, List, [], length, take, drop, Option, Some, None, IsSome, Result, Ok, Err, option_map, slice_get, position, unwrap_or, IsErrOf, IsTrue, if◌then◌else◌}
use Rattle.std.specs.List.{IsDistinct, AllByRecursion}
use Rattle.cell_world.specs.Texts.{Text, is_location}
use Rattle.cell_world.specs.Keys.{same}
use Rattle.cell_world.specs.Stores.{Store, IsStore, empty_store}
use Rattle.cell_world.specs.Images.{Image, Place, Global, Shard, Happening, Committed, Wrote, Reopened, Trail, IsImage, after_one, image_at, end_of_trail, extended}
use Rattle.cell_world.specs.Counts.{last_count, one_more, Rose, StoreRose, NeverFall}
use Rattle.cell_world.specs.declared.cells.Site.{Site}
use Rattle.cell_world.specs.declared.changes.Edit.{Edit}
use Rattle.cell_world.specs.declared.limits.TheConstants.{MOST_LOCATIONS}
use Rattle.cell_world.specs.declared.outside.WorldError.{WorldError}
use Rattle.cell_world.specs.declared.outside.WorldError.TheVariants.{Failed, Memory}

-- ---- what is told

-- how much of its contents and trail a world tells
pub data Told : Type 0 where
  TellsNothing : Told
  TellsContents : (image : Image) → Told
  -- the contents are the trail's last image
  TellsTrail : (trail : Trail) → Told

-- the contents, where they are told
abbrev pub IfContents : Told → (Image → Type 0) → Type 0
IfContents TellsNothing P = Unit {0}
IfContents (TellsContents image) P = P image
IfContents (TellsTrail trail) P = P (image_at trail (end_of_trail trail))

-- the trail, where it is told
abbrev pub IfTrail : Told → (Trail → Type 0) → Type 0
IfTrail TellsNothing P = Unit {0}
IfTrail (TellsContents image) P = Unit {0}
IfTrail (TellsTrail trail) P = P trail

-- something more happened
abbrev pub told_after : Told → Happening → Told
told_after TellsNothing h = TellsNothing
told_after (TellsContents image) h = TellsContents (after_one image h)
told_after (TellsTrail trail) h = TellsTrail (extended trail h)

pub record Outside : Type 0 where
  pub locations : List Text  -- the first has site 1, the next site 2, and so on; site 0 is the global store
  pub told : Told  -- of its contents and its trail
  pub faults_at : ℕ → ℕ  -- by site: how often calls at it have failed
  pub sink_faults : ℕ  -- how often writing has failed
  pub global_reads : ℕ  -- how often site 0 was read

-- ---- sites

-- the site of a location, which is its place in the list, counted from 1
abbrev pub site_number : List Text → Text → Option Site
site_number locations location = option_map (λ n. record { 0 = n + 1 }) (position (same location) locations)

abbrev pub place_at : List Text → ℕ → Option Place
place_at locations site = if site == 0 then Some Global else option_map Shard (slice_get locations (site - 1))

-- the world has the site
abbrev pub IsSite : Outside → Site → Type 0
IsSite o site = IsSome (place_at o.locations site.0)

abbrev pub store_at : Outside → Site → Image → Store
store_at o site image = unwrap_or (option_map image.at (place_at o.locations site.0)) empty_store

-- what holds of the store of a site, where contents are told
abbrev pub OfStore : Outside → Site → (Store → Type 0) → Type 0
OfStore o site P = IfContents o.told (λ image. P (store_at o site image))

-- ---- what calls do

-- The same but for the counts of faults: they alone may differ, and none of them fell.
pub record SameButFaults (old new : Outside) : Type 0 where
  -- nothing but the counts of faults differs
  pub same : new ≡ record old { faults_at = new.faults_at; sink_faults = new.sink_faults }
  -- no site's count fell, nor the sink's
  pub faults : NeverFall old.faults_at new.faults_at
  pub sink : old.sink_faults ≤ new.sink_faults

-- a read of site 0 is counted
abbrev pub read_at : Outside → Site → Outside
read_at o site = if site.0 == 0 then record o { global_reads = one_more o.global_reads } else o

abbrev pub happens : Outside → Happening → Outside
happens o h = record o { told = told_after o.told h }

-- something happened at the place of a site
abbrev pub happens_at : Outside → Site → (Place → Happening) → Outside
happens_at o site h = unwrap_or (option_map (λ place. happens o (h place)) (place_at o.locations site.0)) o

-- a call failed only where its count rose
abbrev pub FailsWithRise : {T : Type 0} → Result T WorldError → ℕ → ℕ → Type 0
FailsWithRise result old new = IsErrOf result Failed → Rose old new

-- Ok: the change is made. Failed: it is made or not made, and the trail says which. Memory: it isn't made.
abbrev pub Commits : Outside → Outside → Site → List Edit → Result (Unit {0}) WorldError → Type 0
Commits old new site change (Ok done) = SameButFaults (happens_at old site (λ place. Committed place change true)) new
Commits old new site change (Err Failed) = (took : Bool) × SameButFaults (happens_at old site (λ place. Committed place change took)) new
Commits old new site change (Err Memory) = SameButFaults old new

-- Ok: all bytes are written. Failed: a front of them is. Memory: none.
abbrev pub Writes : Outside → Outside → Text → Result (Unit {0}) WorldError → Type 0
Writes old new bytes (Ok done) = SameButFaults (happens old (Wrote bytes)) new
Writes old new bytes (Err Failed) = (n : ℕ) × SameButFaults (happens old (Wrote (take n bytes))) new
Writes old new bytes (Err Memory) = SameButFaults old new

-- Ok: the site holds what the outside gives now, which is cells. Else nothing happened.
abbrev pub Reopens : Outside → Outside → Site → Result (Unit {0}) WorldError → Type 0
Reopens old new site (Ok done) = (cells : Store) × IsStore cells × SameButFaults (happens_at old site (λ place. Reopened place cells)) new
Reopens old new site (Err error) = SameButFaults old new

-- The same world later: its locations are the same, and no count fell.
pub record IsLater (old new : Outside) : Type 0 where
  pub locations : new.locations ≡ old.locations  -- it knows the same ones, in the same order
  pub faults : NeverFall old.faults_at new.faults_at  -- of the calls at each site
  pub sink : old.sink_faults ≤ new.sink_faults  -- of the writes
  pub reads : old.global_reads ≤ new.global_reads  -- how often the global store was read

-- The store count, over all sites of the world, rose by at least this number.
abbrev pub StoreRoseBy : ℕ → Outside → Outside → Type 0
StoreRoseBy by old new = StoreRose (length old.locations + 1) by old.faults_at new.faults_at

-- ---- laws of every world

-- nothing but cells stands in what is told, at whatever moment
abbrev pub TellsCells : Told → Type 0
TellsCells TellsNothing = Unit {0}
TellsCells (TellsContents image) = IsImage image
TellsCells (TellsTrail trail) = (moment : ℕ) → IsImage (image_at trail moment)

-- what is told is over the world's locations
abbrev pub IsOver : List Text → Told → Type 0
IsOver locations TellsNothing = Unit {0}
IsOver locations (TellsContents image) = image.locations ≡ locations
IsOver locations (TellsTrail trail) = trail.start.locations ≡ locations

pub record IsWorld (o : Outside) : Type 0 where
  -- each location is one by its grammar
  pub spelled : AllByRecursion (λ location. IsTrue (is_location location)) o.locations
  -- they are distinct, and not too many
  pub distinct : IsDistinct same o.locations
  pub few : length o.locations ≤ MOST_LOCATIONS
  -- each count is kept in 64 bits
  pub faults : (site : ℕ) → o.faults_at site ≤ last_count
  pub sink : o.sink_faults ≤ last_count
  pub reads : o.global_reads ≤ last_count
  -- what is told is over these locations
  pub over : IsOver o.locations o.told
  -- and nothing but cells stands there
  pub cells : TellsCells o.told

-- what is so of a world that was just made
pub record IsNewWorld (o : Outside) : Type 0 where
  pub faults : (site : ℕ) → o.faults_at site ≡ 0  -- no call at a site has failed
  pub sink : o.sink_faults ≡ 0  -- no writing has
  pub reads : o.global_reads ≡ 0  -- the global store wasn't read

-- ---- sources

-- The first n bytes of what is left, where it is told, are moved into the front of the buffer: at most its length, and none exactly where nothing is left.
pub record TakesFront (n : ℕ) (left : Text) (after : Option Text) (buffer : Text) : Type 0 where
  pub front : take n buffer ≡ take n left  -- they stand in front
  pub rest : after ≡ Some (drop n left)  -- and are no more left
  pub within : n ≤ length left  -- no more than there are
  pub none : n ≡ 0 → left ≡ []  -- none only at the end

abbrev pub Takes : ℕ → Option Text → Option Text → Text → Type 0
Takes n None after buffer = after ≡ None
Takes n (Some left) after buffer = TakesFront n left after buffer
