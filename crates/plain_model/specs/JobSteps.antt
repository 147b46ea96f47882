-- Steps of jobs as the plain state sees them.
use Rattle.std.specs.Prelude.{◌≡◌, ℕ, ◌+◌, Bool, true, false, ◌&&◌, not, ◌==◌, List, [], ◌∷◌, Option, Some, None, option_and_then, if◌then◌else◌, IsTrue, is_some}
use Rattle.std.specs.FinMap as map
use Rattle.cell_world.specs.Texts.{Text}
use Rattle.cell_world.specs.Plain.{PlainState, owner}
use Rattle.cell_world.specs.Jobs.{Step, TableRow, Always, Replace, Finish, Stuck, table_row, IsBatchEnd, Gives, merge_due}
use Rattle.cell_world.specs.declared.operations.Piece.{Piece}
use Rattle.cell_world.specs.declared.operations.JobRow.{JobRow}
use Rattle.cell_world.specs.declared.operations.Extra.{Extra}
use Rattle.cell_world.specs.declared.operations.Extra.TheVariants as extra
use Rattle.cell_world.specs.declared.operations.Phase.{Phase}
use Rattle.cell_world.specs.declared.operations.Phase.TheVariants as phase
use Rattle.cell_world.specs.declared.cells.Token.{Token}
use Rattle.cell_world.specs.declared.cells.Status.TheVariants.{Offline}
use Rattle.plain_model.specs.declared.commands.Command.{Command}
use Rattle.plain_model.specs.declared.commands.Command.TheVariants as command
use Rattle.plain_model.specs.Timelines.{Past}
use Rattle.plain_model.specs.Refusing.{is_idle, if_there, job_of_number}
use Rattle.plain_model.specs.Steps.{exchanging, ended_under}

-- ---- the job of a command

-- the number in a `step` or a `run`
abbrev pub asked_number : Command → Option ℕ
asked_number (command.Step number) = Some number
asked_number (command.Run number) = Some number
asked_number other = None

abbrev pub asked_job : PlainState → Command → Option JobRow
asked_job s c = option_and_then (job_of_number s) (asked_number c)

-- ---- what a step does

abbrev pub with_extra : PlainState → Extra → PlainState
with_extra s extra.None = s
with_extra s (extra.JobPut job) = record s { jobs = map.insert s.jobs job.number job }
with_extra s (extra.JobDrop number) = record s { jobs = map.remove s.jobs number }

abbrev pub is_copying : Phase → Bool
is_copying (phase.Copying end) = true
is_copying other = false

-- the connections to the keys of the mapping are ended
abbrev pub with_ended : PlainState → Option Piece → PlainState
with_ended s piece = record s { connections = ended_under piece s.connections }

-- the step that puts phase Copying takes its mapping offline, and ends the connections to it as `offline` does
abbrev pub ended_by : PlainState → List Piece → Extra → PlainState
ended_by s (new ∷ []) (extra.JobPut job) = if is_copying job.phase then with_ended s (Some new) else s
ended_by s news put = s

abbrev pub has_number : ℕ → Option Token → Bool
has_number number None = false
has_number number (Some token) = token.0 == number

abbrev pub without_token : ℕ → Piece → Piece
without_token number p = if has_number number p.token then record p { token = None } else p

-- its mappings lose the job's token, and the job is gone
abbrev pub finished : PlainState → JobRow → PlainState
finished s job = record s { mappings = map.from_entries (freed (map.entries s.mappings)); jobs = map.remove s.jobs job.number }
  where
    freed : List ((Text × Text) × Piece) → List ((Text × Text) × Piece)
    freed [] = []
    freed (entry ∷ more) = (entry.0, without_token job.number entry.1) ∷ freed more

-- the state after a step of the job
abbrev pub stepped : PlainState → JobRow → Step → Option PlainState
stepped s job (Replace olds news put) = Some (ended_by (with_extra (exchanging s (olds, news)) put) news put)
stepped s job Finish = Some (finished s job)
stepped s job Stuck = None

-- B is A after the next row of the job's table; where the row depends on the batch end, with some end that a batch may have.
pub record TakesJobStep (A B : PlainState) (job : JobRow) : Type 0 where
  -- the row gives a step
  pub step : Step
  pub row : Gives (IsBatchEnd (owner A) job) (table_row (owner A) A.mappings job) step
  -- which makes B of A
  pub after : stepped A job step ≡ Some B

-- ---- which step it is

abbrev pub is_moved : Phase → Bool
is_moved (phase.Moved end) = true
is_moved other = false

-- the command's next step is the online of its job
abbrev pub is_online_step : PlainState → Command → Bool
is_online_step s c = if_there (λ job. is_moved job.phase) (asked_job s c)

-- it is a merge
abbrev pub is_merge_step : PlainState → Command → Bool
is_merge_step s c = if_there (λ job. is_idle job.phase && is_some (merge_due s.mappings job)) (asked_job s c)

abbrev pub is_finish : TableRow → Bool
is_finish (Always Finish) = true
is_finish row = false

-- it is the finish: no merge is due, and the cursor is the end of the range
abbrev pub is_finish_step : PlainState → Command → Bool
is_finish_step s c = if_there (λ job. is_finish (table_row (owner s) s.mappings job)) (asked_job s c)

-- how many of the session's entries since its previous one with a reply are onlines
abbrev pub onlines_since : Past → ℕ → ℕ
onlines_since [] session = 0
onlines_since (m ∷ past) session =
    if not (m.entry.session == session) then onlines_since past session
    else if is_some m.entry.reply then 0
    else (if is_online_step m.before m.entry.command then 1 else 0) + onlines_since past session

-- The entry just before is this session's, of this job, without a reply, and a step that passes the test.
abbrev pub JustBefore : Past → ℕ → ℕ → (PlainState → Command → Bool) → Type 0
JustBefore [] session number test = ⊥
JustBefore (m ∷ past) session number test = (m.entry.session ≡ session) × (m.entry.reply ≡ None) × (asked_number m.entry.command ≡ Some number) × IsTrue (test m.before m.entry.command)

-- The job's next step takes this mapping offline, which is its batch.
pub record IsOfflineStep (A : PlainState) (job : JobRow) (p : Piece) : Type 0 where
  pub put : Extra  -- what it does to the job
  pub row : Gives (IsBatchEnd (owner A) job) (table_row (owner A) A.mappings job) (Replace (p ∷ []) (record p { status = Offline } ∷ []) put)
