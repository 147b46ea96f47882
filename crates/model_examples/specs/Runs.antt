-- Values of small runs: their scripts, entries, trails and bytes, worlds, and causes of statuses.
use Rattle.std.specs.Prelude.{◌≡◌, ℕ, true, false, ◌==◌, List, [], ◌∷◌, ◌++◌, Some, codes, if◌then◌else◌}
use Rattle.std.specs.FinSet as set
use Rattle.cell_world.specs.Texts.{Text}
use Rattle.cell_world.specs.Stores.{Store, empty_store}
use Rattle.cell_world.specs.Images.{Image, Trail, Happening, Global, Shard, Committed, Wrote}
use Rattle.cell_world.specs.Outside.{Outside, Told}
use Rattle.cell_world.specs.declared.cells.Away.TheVariants.{Suspect}
use Rattle.cell_world.specs.declared.cells.Cell.TheVariants as cell
use Rattle.cell_world.specs.declared.cells.LocalRow.{LocalRow}
use Rattle.cell_world.specs.declared.cells.Status.TheVariants.{Online}
use Rattle.cell_world.specs.declared.changes.Edit.TheVariants.{Put}
use Rattle.plain_model.specs.declared.commands.Asked.{Asked}
use Rattle.plain_model.specs.declared.commands.Command.{Command}
use Rattle.plain_model.specs.declared.commands.Command.TheVariants as command
use Rattle.plain_model.specs.declared.replies.Reply.{Reply}
use Rattle.plain_model.specs.declared.replies.Reply.TheVariants as reply
use Rattle.plain_model.specs.declared.replies.Refusal.TheVariants as refused
use Rattle.plain_model.specs.declared.finish.Reason.TheVariants.{BadByte}
use Rattle.plain_model.specs.declared.history.Entry.{Entry}
use Rattle.plain_model.specs.Legal.{Going}
use Rattle.plain_model.specs.Headline.{Causes}
use Rattle.plain_model.specs.Worked.{small_range, local_row_over}
use Rattle.model_examples.specs.Values.{make_map, answered, naming, silent, at_moment, trail_of, with_global, with_cells, local_cells}
use Rattle.world_examples.specs.Examples.{map_m, map_n, site_a, site_b, maps_m, away_of}

-- ---- trails

-- a commit that changes nothing: a moment at which nothing is written
abbrev pub nothing_done : Happening
nothing_done = Committed Global [] true

-- ---- entries

-- a step of a job at moment 2, without a reply
abbrev pub silent_step : Entry
silent_step = at_moment (silent 1 (command.Step 1)) 2

-- it names operation 1
abbrev pub named_step : Entry
named_step = naming silent_step 1

-- `step 1` is answered `done 1`
abbrev pub step_done : Entry
step_done = at_moment (answered 1 (command.Step 1) (reply.Done 1)) 3

-- `list m` is refused where no map stands, before anything happens
abbrev pub list_refused : Entry
list_refused = at_moment (answered 1 (command.List map_m) (reply.Refused refused.NoMap)) 0

-- `map m` is answered so
abbrev pub map_answered : Reply → Entry
map_answered r = answered 1 (make_map map_m) r

-- ---- scripts

abbrev pub asks : ℕ → Command → Asked
asks session c = record { session = session; command = c }

-- `map m` and then `map n`, of session 1
abbrev pub two_asked : List Asked
two_asked = asks 1 (make_map map_m) ∷ asks 1 (make_map map_n) ∷ []

-- the command is not answered, and has no operation
abbrev pub going_at : Command → Going
going_at c = record { command = c; operation = 0 }

-- ---- bytes

-- a line with its end
abbrev pub line : Text → Text
line words = words ++ 10 ∷ []

abbrev pub ok_line : Text
ok_line = line (codes "ok")

abbrev pub no_map_line : Text
no_map_line = line (codes "no-map")

-- the summary of one command that was answered `ok`
abbrev pub one_summed : Text
one_summed = line (codes "commands 1") ++ line (codes "ok 1") ++ line (codes "refused 0") ++ line (codes "fault 0")

-- ---- a small run

-- `list m` is asked
abbrev pub list_asked : List Asked
list_asked = asks 1 (command.List map_m) ∷ []

-- its line is written
abbrev pub list_trail : Trail
list_trail = trail_of (Wrote no_map_line ∷ [])

-- ---- worlds

-- the two sites, without a fault
abbrev pub world_of : Told → Outside
world_of told = record { locations = site_a ∷ site_b ∷ []; told = told; faults_at = λ site. 0; sink_faults = 0; global_reads = 0 }

-- calls at the site 1 have failed so often
abbrev pub with_faults : ℕ → Outside → Outside
with_faults n o = record o { faults_at = λ site. if site == 1 then n else 0 }

-- writing has failed once
abbrev pub with_sink_fault : Outside → Outside
with_sink_fault o = record o { sink_faults = 1 }

-- ---- stores

-- no number is left for the next operation, which is unsound
abbrev pub without_number : Store
without_number = record empty_store { counter = Some (record { operation = 0; job = 1 }) }

-- two locations that the world doesn't know
abbrev pub site_c : Text
site_c = codes "s/c"

abbrev pub site_d : Text
site_d = codes "s/d"

-- site states name both
abbrev pub unknown_store : Store
unknown_store = record empty_store { away = away_of ((site_c, Suspect) ∷ (site_d, Suspect) ∷ []) }

-- ---- causes

-- the words are in a grammar, the script is too, and all of it could be read
abbrev pub nothing_wrong : Causes
nothing_wrong = record { bad_words = λ place. ⊥; bad_script = λ line reason. ⊥; too_long = ⊥; source_rose = ⊥ }

-- the word at place 2 is wrong
abbrev pub wrong_words : Causes
wrong_words = record nothing_wrong { bad_words = λ place. place ≡ 2 }

-- line 3 has a bad byte
abbrev pub wrong_line : Causes
wrong_line = record nothing_wrong { bad_script = λ line reason. (line ≡ 3) × (reason ≡ BadByte) }

abbrev pub too_many_bytes : Causes
too_many_bytes = record nothing_wrong { too_long = Unit {0} }

abbrev pub source_failed : Causes
source_failed = record nothing_wrong { source_rose = Unit {0} }

-- ---- a suspect site

-- a local row of m that is online over a range
abbrev pub row_over : ℕ → ℕ → LocalRow
row_over low high = local_row_over (small_range low high) Online

-- the site `s/a`, a shard of m, is suspect, and has one local row
abbrev pub suspect_image : Image
suspect_image = with_cells (with_global (record empty_store { maps = maps_m; shards = set.insert set.empty (map_m, site_a); away = away_of ((site_a, Suspect) ∷ []) })) (local_cells (row_over 0 10 ∷ []))

-- what happened to these stores
abbrev pub suspect_trail : List Happening → Trail
suspect_trail happened = record { start = suspect_image; happened = happened }

-- the row is cut at 5
abbrev pub cut_commit : Happening
cut_commit = Committed (Shard site_a) (Put (cell.Local (row_over 0 5)) ∷ Put (cell.Local (row_over 5 10)) ∷ []) true

-- a `clear` of the site ends without memory, at a moment
abbrev pub clearing : ℕ → Entry
clearing moment = at_moment (answered 1 (command.Clear site_a) reply.Memory) moment
