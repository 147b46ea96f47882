-- A run that ended with status 0 or 1 is that of the plain step.
use Rattle.std.proofs.Common.{◌≡◌, true, false, List, [], ◌∷◌, refl, sym, subst}
use Rattle.std.specs.List.{AllByRecursion}
use Rattle.cell_world.specs.Images.{Image, Trail, image_at, end_of_trail}
use Rattle.cell_world.specs.Outside.{Outside, Told, TellsNothing, TellsContents, TellsTrail, IfContents}
use Rattle.cell_world.specs.Sound.{Sound}
use Rattle.plain_model.specs.declared.commands.Asked.{Asked}
use Rattle.plain_model.specs.declared.finish.RunStatus.{RunStatus}
use Rattle.plain_model.specs.declared.finish.RunStatus.TheVariants as status
use Rattle.plain_model.specs.declared.history.Entry.{Entry}
use Rattle.plain_model.specs.Summary.{replies_of, is_fault, is_memory}
use Rattle.plain_model.specs.Headline.{StatusCause, has_stopped, is_done, IsLegalByStates, IsLegalHistory}
use Rattle.plain_model.specs.RunSoFar.{HoldsOnTrail, HoldsByStates}
use Rattle.plain_model.specs.Written.{EachReply}
use Rattle.plain_runs.specs.PlainRuns.{is_plain, AreAnswersTo, IsPlainRun}
use Rattle.plain_runs.proofs.PlainHeadlines.{IsPlainAsked, plain_by_states, plain_on_trail}
use Rattle.manager_core.specs.Cores.{Parts, IsReady, Opens}
use Rattle.script_shell.specs.Promises.{Runs, no_causes}
use Rattle.script_shell.specs.Ran.{IsAskedAlone}

-- what holds where the contents are told is so at the end of a trail
pub on_its_trail : (told : Told) (P : Image → Type 0) (trail : Trail) → told ≡ TellsTrail trail → P (image_at trail (end_of_trail trail)) → IfContents told P
on_its_trail told P trail is p = subst (λ t. IfContents t P) (sym is) p

pub in_its_contents : (told : Told) (P : Image → Type 0) (image : Image) → told ≡ TellsContents image → P image → IfContents told P
in_its_contents told P image is p = subst (λ t. IfContents t P) (sym is) p

-- what a script asks is of session 1, and plain
both : (script : List Asked) → AllByRecursion IsAskedAlone script → AllByRecursion (λ (asked : Asked). is_plain asked.command ≡ true) script → AllByRecursion IsPlainAsked script
both [] alone plain = tt
both (asked ∷ script) alone plain = ((plain.0, alone.0.1), both script alone.1 plain.1)

module _ (script : List Asked) (alone : AllByRecursion IsAskedAlone script) (plain : AllByRecursion (λ (asked : Asked). is_plain asked.command ≡ true) script) (old : Parts) (new : Outside) (history : List Entry) where
  -- no run that ended so had stopped, or met a fault or want of memory
  record EndsCalmly (ending : RunStatus) : Type 0 where
    goes : has_stopped ending ≡ false
    no_fault : replies_of is_fault history ≡ 0
    no_memory : replies_of is_memory history ≡ 0

  calmly : (ending : RunStatus) → is_done ending ≡ true → StatusCause no_causes old.outside new history ending → EndsCalmly ending
  calmly status.Done is cause = record { goes = refl; no_fault = cause.1; no_memory = cause.2 }
  calmly status.Refused is cause = record { goes = refl; no_fault = cause.1; no_memory = cause.2 }
  calmly other is cause = absurd cc

  module _ (ending : RunStatus) (runs : Runs script old new history ending) (done : is_done ending ≡ true) (calm : EndsCalmly ending) where
    abbrev Plainly : Image → Image → Type 0
    Plainly first last = IsPlainRun script first last history

    by_states : (first : Image) → AreAnswersTo script history → HoldsByStates (has_stopped ending) script first new.told history → IfContents new.told (Plainly first)
    by_states first answers holds = in_its_contents new.told (Plainly first) holds.last holds.told
        (plain_by_states script history (both script alone plain) answers calm.no_fault calm.no_memory first holds.last
        (subst (λ stopped. IsLegalByStates stopped first holds.last script history) calm.goes holds.legal))

    on_trail : (before : Trail) → AreAnswersTo script history → HoldsOnTrail (EachReply false) (has_stopped ending) script before new.told history ending → IfContents new.told (Plainly (image_at before (end_of_trail before)))
    on_trail before answers holds = on_its_trail new.told (Plainly (image_at before (end_of_trail before))) holds.trail holds.told
        (plain_on_trail script history (both script alone plain) answers calm.no_fault calm.no_memory before holds.trail holds.goes_on
        (subst (λ stopped. IsLegalHistory stopped holds.trail (end_of_trail before) script history) calm.goes holds.legal))

    module _ (opened : Told) (opens : Opens opened old.outside.told) (ready : IfContents opened Sound → IsReady old) where
      by : (told : Told) → opened ≡ told → IfContents told (λ first. Sound first → IfContents new.told (Plainly first))
      by TellsNothing is = tt
      by (TellsContents first) is = λ sound.
          let gone = opens.by_states first is sound in
          let set = ready (in_its_contents opened Sound first is sound) in
          by_states first (runs.answers done plain) (runs.by_states first gone set)
      by (TellsTrail before) is = λ sound.
          let gone = opens.on_trail (EachReply false) before is sound in
          let set = ready (on_its_trail opened Sound before is sound) in
          on_trail before (runs.answers done plain) (runs.on_trail before gone set)

      ends_plainly : IfContents opened (λ first. Sound first → IfContents new.told (Plainly first))
      ends_plainly = by opened refl

  pub runs_plainly : (opened : Told) → Opens opened old.outside.told → (IfContents opened Sound → IsReady old) → (ending : RunStatus) → Runs script old new history ending → is_done ending ≡ true → StatusCause no_causes old.outside new history ending
      → IfContents opened (λ first. Sound first → IfContents new.told (λ last. IsPlainRun script first last history))
  runs_plainly opened opens ready ending runs done cause = ends_plainly ending runs done (calmly ending done cause) opened opens ready
