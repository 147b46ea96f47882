-- Calls that fail by a plan: which they are, and what they make of the outside.
use Rattle.std.specs.Prelude.{◌≡◌, ℕ, Bool, true, ◌==◌, ◌&&◌, if◌then◌else◌, List, [], take, Option, Some, None, Result, Ok, Err}
use Rattle.std.specs.List.{find}
use Rattle.cell_world.specs.Texts.{Text}
use Rattle.cell_world.specs.Counts.{one_more}
use Rattle.cell_world.specs.Stores.{Store, empty_store}
use Rattle.cell_world.specs.Images.{Place, Committed, Wrote, Reopened, image_at, end_of_trail}
use Rattle.cell_world.specs.Outside.{Outside, Told, TellsNothing, TellsContents, TellsTrail, read_at, happens, happens_at}
use Rattle.cell_world.specs.declared.cells.Site.{Site}
use Rattle.cell_world.specs.declared.changes.Edit.{Edit}
use Rattle.cell_world.specs.declared.outside.WorldError.{WorldError}
use Rattle.cell_world.specs.declared.outside.WorldError.TheVariants.{Failed, Memory}
use Rattle.world_memory.specs.declared.faults.CallName.{CallName}
use Rattle.world_memory.specs.declared.faults.CallName.TheVariants.{Read, Floor, Scan, NextKey, Commit, Write, Reopen}
use Rattle.world_memory.specs.declared.faults.PlannedFault.{PlannedFault}
use Rattle.world_memory.specs.declared.faults.FaultPlan.{FaultPlan}
use Rattle.world_memory.specs.declared.faults.Calls.{Calls}
use Rattle.world_memory.specs.declared.faults.Faults.{Faults}

-- ---- which call fails

-- the place of a name among the names of calls
abbrev pub place_of : CallName → ℕ
place_of Read = 0
place_of Floor = 1
place_of Scan = 2
place_of NextKey = 3
place_of Commit = 4
place_of Write = 5
place_of Reopen = 6

-- The fault is of the call of this name with this number.
abbrev pub names : CallName → ℕ → PlannedFault → Bool
names call number fault = (place_of fault.call == place_of call) && (fault.number == number)

-- what a plan says of the call of a name with a number, which is counted from 1
abbrev pub planned : List PlannedFault → CallName → ℕ → Option PlannedFault
planned plan call number = find (names call number) plan

abbrev pub none_made : Calls
none_made = record { read = 0; floor = 0; scan = 0; next_key = 0; commit = 0; write = 0; reopen = 0 }

-- how often a call was made
abbrev pub made_so_far : Calls → CallName → ℕ
made_so_far calls Read = calls.read
made_so_far calls Floor = calls.floor
made_so_far calls Scan = calls.scan
made_so_far calls NextKey = calls.next_key
made_so_far calls Commit = calls.commit
made_so_far calls Write = calls.write
made_so_far calls Reopen = calls.reopen

-- a call is made once more
abbrev pub one_call : Calls → CallName → Calls
one_call calls Read = record calls { read = one_more calls.read }
one_call calls Floor = record calls { floor = one_more calls.floor }
one_call calls Scan = record calls { scan = one_more calls.scan }
one_call calls NextKey = record calls { next_key = one_more calls.next_key }
one_call calls Commit = record calls { commit = one_more calls.commit }
one_call calls Write = record calls { write = one_more calls.write }
one_call calls Reopen = record calls { reopen = one_more calls.reopen }

-- the plan by which no call fails
abbrev pub no_plan : FaultPlan
no_plan = record { calls = [] }

-- a plan that was just given
abbrev pub with_plan : FaultPlan → Faults
with_plan plan = record { plan = plan; calls = none_made }

-- what the plan says of the next call of a name: the fault that it is to be, or none
abbrev pub says : Faults → CallName → Option PlannedFault
says faults call = planned faults.plan.calls call (one_more (made_so_far faults.calls call))

-- that call is made
abbrev pub called : Faults → CallName → Faults
called faults call = record faults { calls = one_call faults.calls call }

-- ---- what a call makes of the outside, by what the plan says of it

-- a call at the site failed
abbrev pub fails_at : Outside → Site → Outside
fails_at o site = record o { faults_at = λ n. if n == site.0 then one_more (o.faults_at n) else o.faults_at n }

-- the count of the site's faults rises by one where the call is named, and no other count
abbrev pub failed_by : Outside → Site → Option PlannedFault → Outside
failed_by o site None = o
failed_by o site (Some fault) = fails_at o site

-- and so does the sink's
abbrev pub sink_failed_by : Outside → Option PlannedFault → Outside
sink_failed_by o None = o
sink_failed_by o (Some fault) = record o { sink_faults = one_more o.sink_faults }

-- a commit that isn't named is made; a named one as the plan says
abbrev pub takes : Option PlannedFault → Bool
takes None = true
takes (Some fault) = fault.made

-- a write that isn't named writes all its bytes; a named one as many as the plan says
abbrev pub front : Option PlannedFault → Text → Text
front None bytes = bytes
front (Some fault) bytes = take fault.prefix bytes

-- what stands at a place now
abbrev pub held : Told → Place → Store
held TellsNothing place = empty_store
held (TellsContents image) place = image.at place
held (TellsTrail trail) place = (image_at trail (end_of_trail trail)).at place

abbrev pub read_by : Outside → Site → Option PlannedFault → Outside
read_by o site named = failed_by (read_at o site) site named

abbrev pub commit_by : Outside → Site → List Edit → Option PlannedFault → Outside
commit_by o site change named = failed_by (happens_at o site (λ place. Committed place change (takes named))) site named

abbrev pub write_by : Outside → Text → Option PlannedFault → Outside
write_by o bytes named = sink_failed_by (happens o (Wrote (front named bytes))) named

-- A site that is opened again holds what stood there.
abbrev pub reopen_by : Outside → Site → Option PlannedFault → Outside
reopen_by o site None = happens_at o site (λ place. Reopened place (held o.told place))
reopen_by o site (Some fault) = fails_at o site

-- A call fails exactly where the plan names it, and makes of the outside what it does by the plan. Want of memory stops it before that.
abbrev pub GoesByPlan : {T : Type 0} → Result T WorldError → Option PlannedFault → (Option PlannedFault → Outside) → Outside → Outside → Type 0
GoesByPlan (Ok value) named does stopped after = (named ≡ None) × (after ≡ does None)
GoesByPlan (Err Failed) named does stopped after = (fault : PlannedFault) × (named ≡ Some fault) × (after ≡ does (Some fault))
GoesByPlan (Err Memory) named does stopped after = after ≡ stopped
