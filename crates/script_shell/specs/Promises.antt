-- What a whole run of a script promises.
use Rattle.std.specs.Prelude.{◌≡◌, ◌⊎◌, ℕ, ◌≤◌, ◌<◌, Bool, true, false, List, [], length, Option, Some, option_map}
use Rattle.std.specs.Bool.{MatchBool}
use Rattle.std.specs.List.{AllByRecursion}
use Rattle.cell_world.specs.Texts.{Text}
use Rattle.cell_world.specs.Counts.{Rose}
use Rattle.cell_world.specs.Images.{Image, Trail, image_at, end_of_trail}
use Rattle.cell_world.specs.Sound.{Sound}
use Rattle.cell_world.specs.Outside.{Outside, Told, TellsContents, TellsTrail, IfContents, IsLater, StoreRoseBy}
use Rattle.cell_world.specs.declared.operations.Op.{Op}
use Rattle.map_ops.specs.Planning.{is_long}
use Rattle.plain_model.specs.declared.commands.Asked.{Asked}
use Rattle.plain_model.specs.declared.finish.RunStatus.{RunStatus}
use Rattle.plain_model.specs.declared.finish.RunStatus.TheVariants as status
use Rattle.plain_model.specs.declared.history.Entry.{Entry}
use Rattle.plain_model.specs.declared.replies.Reply.TheVariants as reply
use Rattle.plain_model.specs.Written.{EachReply}
use Rattle.plain_model.specs.Headline.{Causes, has_stopped, is_done, EachOnceInOrder, KeepsToStatus, StatusHasCause, Headline, HeadlineAlone}
use Rattle.plain_model.specs.RunSoFar.{HoldsOnTrail, HoldsByStates}
use Rattle.plain_runs.specs.PlainRuns.{is_plain, AreAnswersTo, IsPlainRun}
use Rattle.script_lang.specs.declared.programs.Program.TheVariants.{Ctl}
use Rattle.script_lang.specs.CommandLine.{options_built, IsAccepted, IsBadAt}
use Rattle.script_lang.specs.Scripts.{built, IsScript, IsFirstFaulty}
use Rattle.script_lang.specs.Sources.{script_limit, IfTold, TookAtMost}
use Rattle.session_laws.specs.Contract.{at_rest, CoreGoesOn, CoreGoesTo}
use Rattle.manager_core.specs.Cores.{Parts, IsReady}
use Rattle.manager_core.specs.Steady.{IsSettledOp}

-- ---- statuses

-- the script was read, and the run came to the stores
abbrev pub has_begun : RunStatus → Bool
has_begun status.Done = true
has_begun status.Refused = true
has_begun status.WriteFault = true
has_begun status.StoreFault = true
has_begun (status.UnknownLocation location) = true
has_begun other = false

-- the statuses that commands come to
abbrev pub is_of_commands : RunStatus → Bool
is_of_commands status.Memory = true
is_of_commands (status.UnknownLocation location) = false
is_of_commands other = has_begun other

-- the source was read to its end
abbrev pub was_read : RunStatus → Bool
was_read (status.BadScript line reason) = true
was_read other = has_begun other

-- status 2, 3 or 7: the run didn't come to the stores
abbrev pub is_of_reading : RunStatus → Bool
is_of_reading (status.BadWords place) = true
is_of_reading (status.BadScript line reason) = true
is_of_reading status.ReadFault = true
is_of_reading status.TooLong = true
is_of_reading other = false

-- status 0, 1 or 6, or 8
abbrev pub is_complete : RunStatus → Bool
is_complete status.Memory = true
is_complete (status.UnknownLocation location) = true
is_complete other = is_done other

-- ---- causes

-- what the words, the bytes of the script and the source's count of faults say
abbrev pub causes_of : List Text → Text → ℕ → ℕ → Causes
causes_of words bytes faults_before faults_after = record {
  bad_words = IsBadAt (IsAccepted Ctl options_built) words;
  bad_script = IsFirstFaulty Ctl built bytes;
  too_long = script_limit < length bytes;
  source_rose = Rose faults_before faults_after;
}

-- none of the words, the script or the source
abbrev pub no_causes : Causes
no_causes = record { bad_words = λ place. ⊥; bad_script = λ line reason. ⊥; too_long = ⊥; source_rose = ⊥ }

-- ---- the commands alone

-- a command that is no long one names no operation
abbrev pub IsUnnumbered : Entry → Type 0
IsUnnumbered e = is_long e.command ≡ false → e.operation ≡ 0

-- a long command that was answered `ok` names an operation
abbrev pub IsNamed : Entry → Type 0
IsNamed e = is_long e.command ≡ true → e.reply ≡ Some reply.Ok → e.operation ≡ 0 → ⊥

-- The operation of this number was committed or undone: no log row has it, and no mark of it stands at any attached site.
abbrev pub IsSettledNumber : ℕ → Image → Type 0
IsSettledNumber number image = (op : Op) → op.number ≡ number → IsSettledOp op image

-- where contents are told, each operation of a command that was answered `ok` is settled
abbrev pub AreSettled : List Entry → Told → Type 0
AreSettled history told = AllByRecursion (λ (e : Entry). e.reply ≡ Some reply.Ok → (e.operation ≡ 0 → ⊥) → IfContents told (IsSettledNumber e.operation)) history

-- How the commands of a script were run, and what they left was settled, over a core that was ready.
pub record Runs (script : List Asked) (old : Parts) (new : Outside) (history : List Entry) (ending : RunStatus) : Type 0 where
  -- where a core began at the end of this trail, and rests now
  pub on_trail : (before : Trail) → CoreGoesOn (EachReply false) (end_of_trail before) (image_at before (end_of_trail before)) before old.outside.told (at_rest []) [] → IsReady old
      → HoldsOnTrail (EachReply false) (has_stopped ending) script before new.told history ending
  -- and where it began with these contents
  pub by_states : (first : Image) → CoreGoesTo first old.outside.told (at_rest []) → IsReady old → HoldsByStates (has_stopped ending) script first new.told history
  -- each command once and in order
  pub served : EachOnceInOrder script history ending
  -- what the status says besides its cause
  pub kept : KeepsToStatus old.outside new history ending
  -- a command that is no long one names no operation
  pub numbered : AllByRecursion IsUnnumbered history
  -- and a long one that was answered `ok` names one, where contents are told
  pub named : IsReady old → IfContents new.told (λ image. AllByRecursion IsNamed history)
  -- with status 0 or 1, where no store call failed: each operation is settled
  pub settled : is_done ending ≡ true → (StoreRoseBy 1 old.outside new → ⊥) → IsReady old → AreSettled history new.told
  -- with status 0 or 1, where all commands are plain: each has one entry, which names no operation
  pub answers : is_done ending ≡ true → AllByRecursion (λ (asked : Asked). is_plain asked.command ≡ true) script → AreAnswersTo script history
  -- the world is the same one later
  pub later : IsLater old.outside new

-- ---- the whole call

-- the bytes are those of this script; or the script wasn't come to, and nothing was asked
abbrev pub IsRead : Text → List Asked → List Entry → RunStatus → Type 0
IsRead bytes script history ending = MatchBool (has_begun ending) (IsScript Ctl built bytes script) (IsScript Ctl built bytes script ⊎ (history ≡ []))

-- What the whole call promises, from the words and the bytes on.
pub record RunsScript (words : List Text) (left after : Option Text) (faults_before faults_after : ℕ) (old new : Outside) (history : List Entry) (ending : RunStatus) : Type 0 where
  -- what the source had left, where it tells that
  pub bytes : Text
  pub given : IfTold left bytes
  -- its commands
  pub script : List Asked
  pub read : IsRead bytes script history ending
  -- bad words are found before the source is touched
  pub untouched : (place : ℕ) → ending ≡ status.BadWords place → (after ≡ left) × (faults_after ≡ faults_before)
  -- before a read fault no more bytes were taken than a script may have
  pub in_time : ending ≡ status.ReadFault → TookAtMost script_limit left after
  -- nothing is left where the source was read to its end
  pub drained : was_read ending ≡ true → after ≡ option_map (λ b. []) left
  -- the source's count doesn't fall
  pub source : faults_before ≤ faults_after
  -- for the statuses 2, 3 and 7 the world is handed back as it was
  pub handed_back : is_of_reading ending ≡ true → new ≡ old
  -- and else it is the same one later
  pub later : IsLater old new
  -- the headline, from a sound image on: over a world that tells its trail, and over one that tells its contents alone
  pub headline : (before : Trail) → old.told ≡ TellsTrail before → Sound (image_at before (end_of_trail before))
      → Headline (EachReply false) (causes_of words bytes faults_before faults_after) script before old new history ending
  pub headline_alone : (first : Image) → old.told ≡ TellsContents first → Sound first → HeadlineAlone (causes_of words bytes faults_before faults_after) script first old new history ending
  -- over any world the two parts of it that speak of no store
  pub served : EachOnceInOrder script history ending
  pub status : StatusHasCause (causes_of words bytes faults_before faults_after) old new history ending
  -- with status 0 or 1, where all commands are plain, from a sound image on, where contents are told: the replies are those of the plain step, one command after the other, and the final stores stand for the state that it leaves
  pub plain : is_done ending ≡ true → AllByRecursion (λ (asked : Asked). is_plain asked.command ≡ true) script → IfContents old.told (λ first. Sound first → IfContents new.told (λ last. IsPlainRun script first last history))
  -- a command that is no long one names no operation
  pub numbered : AllByRecursion IsUnnumbered history
  -- and a long one that was answered `ok` names one, from a sound image on, where contents are told
  pub named : IfContents old.told Sound → IfContents new.told (λ image. AllByRecursion IsNamed history)
  -- with status 0 or 1, where the store count didn't rise, from a sound image on: each operation of a command that was answered `ok` is settled in the end, at all its sites
  pub settled : is_done ending ≡ true → (StoreRoseBy 1 old new → ⊥) → IfContents old.told Sound → AreSettled history new.told

-- With accepted words, with a script in the grammar that fits, and where no count rose, the script is run to its end unless memory is short or the stores name an unknown location.
abbrev pub Completes : List Text → Option Text → ℕ → ℕ → Outside → Outside → RunStatus → Type 0
Completes words left faults_before faults_after old new ending = (bytes : Text) (script : List Asked) → IsAccepted Ctl options_built words → left ≡ Some bytes → IsScript Ctl built bytes script → length bytes ≤ script_limit
    → (Rose faults_before faults_after → ⊥) → (Rose old.sink_faults new.sink_faults → ⊥) → (StoreRoseBy 1 old new → ⊥) → is_complete ending ≡ true
