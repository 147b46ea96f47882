-- The end of a run: what the commands left is settled, and the promises of the run hold.
use Rattle.std.proofs.Common.{◌≡◌, ◌⊎◌, inl, inr, ◌<◌, Bool, true, false, List, [], ◌++◌, Some, None, refl, sym, ap, ◌∙◌, subst, arith}
use Rattle.std.specs.FinMap as map
use Rattle.std.specs.List.{AllByRecursion}
use Rattle.std.proofs.lemmas.List.{append-nil}
use Rattle.cell_world.specs.Images.{Image, Trail, image_at, end_of_trail}
use Rattle.cell_world.specs.Marked.{IsNew, mark_tables}
use Rattle.cell_world.specs.Outside.{Outside, IfContents, IsLater, StoreRoseBy}
use Rattle.cell_world.specs.declared.cells.Mark.TheVariants.{Old}
use Rattle.cell_world.specs.declared.operations.Op.{Op}
use Rattle.cell_world.proofs.ContentsLaws.{contents_weaker}
use Rattle.cell_world.proofs.OutsideLaws.{later_then}
use Rattle.plain_model.specs.declared.commands.Asked.{Asked}
use Rattle.plain_model.specs.declared.finish.RunStatus.{RunStatus}
use Rattle.plain_model.specs.declared.finish.RunStatus.TheVariants as status
use Rattle.plain_model.specs.declared.history.Entry.{Entry}
use Rattle.plain_model.specs.declared.replies.Reply.TheVariants as reply
use Rattle.plain_model.specs.Headline.{IsLeftGoing, StatusCause, did_nothing, faults, has_stopped, is_done, is_store_fault}
use Rattle.plain_model.specs.RunSoFar.{AreLeftGoing, EndsWritten, HoldsOnTrail, HoldsByStates}
use Rattle.plain_model.specs.Written.{EachReply}
use Rattle.plain_model.proofs.RunSoFar.{goes_on_then}
use Rattle.plain_model.proofs.RunsAreHeadlines.{ends_on_trail, ends_by_states}
use Rattle.plain_runs.specs.PlainRuns.{is_plain, AreAnswersTo}
use Rattle.op_steps.proofs.Rises.{rose_before, rose_after}
use Rattle.operation_laws.specs.Left.{left_of}
use Rattle.session_laws.specs.Contract.{at_rest, course_of, CoreOn, CoreGoesOn, CoreTo, CoreGoesTo, Seen}
use Rattle.session_laws.specs.Doing.{Doing, Resting, Working, Operating, going_of}
use Rattle.session_laws.proofs.ContractLaws.{core_has_gone_on, core_has_gone_to}
use Rattle.manager_core.specs.Cores.{Parts, IsReady, Finishes, seen_of}
use Rattle.manager_core.specs.Events.{IsResting}
use Rattle.manager_core.specs.Steady.{IsSettledOp, seen_with}
use Rattle.manager_core.proofs.OpeningLaws.{rose_by_then}
use Rattle.manager_core.specs.declared.opening.Tail.{Tail}
use Rattle.manager_core.specs.declared.opening.Tail.TheVariants as tail
use Rattle.script_shell.specs.Promises.{Runs, AreSettled, IsSettledNumber, is_of_commands, no_causes}
use Rattle.script_shell.specs.Ran.{Ran, IsSettledOrLeft}
use Rattle.script_shell.specs.Stops.{status_after}
use Rattle.script_shell.proofs.HistoryLaws.{all_answered, all_weaker, answers_plain, in_order}
use Rattle.script_shell.proofs.ToldLaws.{still_told}

-- ---- small facts

-- nothing is going with one who rests
not_going : (d : Doing) → IsResting d → going_of d ≡ None
not_going (Resting left) is = refl
not_going (Working c left) is = absurd is
not_going (Operating c op stage) is = absurd is

-- that an operation is settled turns on its number alone
settled_number : (op other : Op) (image : Image) → other.number ≡ op.number → IsSettledOp op image → IsSettledOp other image
settled_number op other image same s = record {
  out = subst (λ n. (map.get (mark_tables image).log n ≡ None) × (n < (mark_tables image).next)) (sym same) s.out;
  clean = λ location attached row has. subst (λ n. (row.mark ≡ Old n → ⊥) × (IsNew n row → ⊥)) (sym same) (s.clean location attached row has);
}

-- ---- the status

-- the status stays; or memory was short at the end, and that is told
record Stays (ending : RunStatus) (last : Tail) : Type 0 where
  same : status_after ending last ≡ ending
  enough : is_done ending ≡ true → last ≡ tail.Memory → ⊥

after_cases : (ending : RunStatus) (last : Tail) → Stays ending last ⊎ (status_after ending last ≡ status.Memory)
after_cases status.Done tail.Memory = inr refl
after_cases status.Refused tail.Memory = inr refl
after_cases status.StoreFault tail.Memory = inr refl
after_cases ending last = inl (record { same = refl; enough = λ done short. absurd cc })

-- after status 5 nothing was left
faulted_goes : (ending : RunStatus) → is_store_fault ending ≡ true → has_stopped ending ≡ false
faulted_goes status.StoreFault is = refl
faulted_goes ending is = absurd cc

-- what the run's status says, by that of its commands
record Follows (ending after : RunStatus) (last : Tail) : Type 0 where
  of_commands : is_of_commands ending ≡ true → is_of_commands after ≡ true
  stopped : has_stopped ending ≡ true → has_stopped after ≡ true
  goes : has_stopped after ≡ false → has_stopped ending ≡ false
  done : is_done after ≡ true → (is_done ending ≡ true) × (last ≡ tail.Memory → ⊥)
  caused : (old mid new : Outside) (history : List Entry) → IsLater mid new → IsLater old mid → StatusCause no_causes old mid history ending → StatusCause no_causes old new history after

follows : (ending : RunStatus) (last : Tail) → Follows ending (status_after ending last) last
follows ending last = by (after_cases ending last)
  where
    -- the cause is one later
    caused_still : (ending : RunStatus) (old mid new : Outside) (history : List Entry) → IsLater mid new → IsLater old mid → StatusCause no_causes old mid history ending → StatusCause no_causes old new history ending
    caused_still status.Done old mid new history later before cause = cause
    caused_still status.Refused old mid new history later before cause = cause
    caused_still (status.BadWords place) old mid new history later before cause = cause
    caused_still (status.BadScript line reason) old mid new history later before cause = cause
    caused_still status.ReadFault old mid new history later before cause = cause
    caused_still status.WriteFault old mid new history later before cause = (omega (arith, cause.0, later.sink), cause.1)
    caused_still status.StoreFault old mid new history later before cause = (rose_before old mid new cause.0 later before, cause.1, cause.2)
    caused_still status.Memory old mid new history later before cause = cause
    caused_still status.TooLong old mid new history later before cause = cause
    caused_still (status.UnknownLocation location) old mid new history later before cause = cause

    by : Stays ending last ⊎ (status_after ending last ≡ status.Memory) → Follows ending (status_after ending last) last
    by (inl stays) = subst (λ after. Follows ending after last) (sym stays.same) (record {
      of_commands = λ is. is;
      stopped = λ is. is;
      goes = λ is. is;
      done = λ is. (is, stays.enough is);
      caused = caused_still ending;
    })
    by (inr short) = subst (λ after. Follows ending after last) (sym short) (record {
      of_commands = λ is. refl;
      stopped = λ is. refl;
      goes = λ is. absurd cc;
      done = λ is. absurd cc;
      caused = λ old mid new history later before cause. tt;
    })

-- ---- the run

-- what a whole run comes to
abbrev pub Ends : List Asked → Parts → Outside → List Entry → RunStatus → Type 0
Ends script old new history ending = Runs script old new history ending × StatusCause no_causes old.outside new history ending × (is_of_commands ending ≡ true)

module _ (script : List Asked) (old mid : Parts) (new : Outside) (ending : RunStatus) (last : Tail) (began : seen_of old ≡ at_rest []) (ran : Ran script old mid ending) (finishes : Finishes mid new last) (later : IsLater mid.outside new) where
  abbrev after : RunStatus
  after = status_after ending last

  says : Follows ending after last
  says = follows ending last

  -- what is seen at the end
  abbrev seen : Seen
  seen = seen_with mid.history finishes.after

  left_going : (stopped : Bool) → AreLeftGoing stopped script mid.history (course_of seen).going
  left_going stopped session = subst (IsLeftGoing stopped script mid.history session) (sym (finishes.going.going session ∙ not_going (mid.doing session) (ran.resting session))) (record { none = λ goes. refl; next = tt })

  written : EndsWritten ran.unwritten ending mid.history → EndsWritten ran.unwritten after mid.history
  written (inl nothing) = inl nothing
  written (inr (stops, answered)) = inr (says.stopped stops, answered)

  onward : IsLater old.outside new
  onward = later_then old.outside mid.outside new ran.later later

  on_trail : (before : Trail) → CoreGoesOn (EachReply false) (end_of_trail before) (image_at before (end_of_trail before)) before old.outside.told (at_rest []) [] → IsReady old
      → HoldsOnTrail (EachReply false) (has_stopped after) script before new.told mid.history after
  on_trail before gone ready = ends_on_trail false (has_stopped after) script new.told (course_of seen) ran.unwritten after before
      (core_has_gone_on (EachReply false) (end_of_trail before) (image_at before (end_of_trail before)) before new.told seen ran.unwritten on) (left_going (has_stopped after)) (written ran.written)
    where
      on : CoreGoesOn (EachReply false) (end_of_trail before) (image_at before (end_of_trail before)) before new.told seen ran.unwritten
      on =
          let all = ran.keeps ready (end_of_trail before) (image_at before (end_of_trail before)) gone.trail gone.told
          (subst (λ s. CoreOn (EachReply false) (end_of_trail before) (image_at before (end_of_trail before)) gone.trail s []) (sym began) gone.core) in
          let ended = finishes.waits (ran.ready ready).steady (EachReply false) mid.history ran.unwritten (end_of_trail before) (image_at before (end_of_trail before)) all.trail all.told all.core in
          record { trail = ended.trail; told = ended.told; goes_on = goes_on_then before all.trail ended.trail (goes_on_then before gone.trail all.trail gone.goes_on all.goes_on) ended.goes_on; core = ended.core }

  by_states : (first : Image) → CoreGoesTo first old.outside.told (at_rest []) → IsReady old → HoldsByStates (has_stopped after) script first new.told mid.history
  by_states first gone ready =
      let all = ran.keeps_to ready first gone.image gone.told (subst (CoreTo first gone.image) (sym began) gone.core) in
      let ended = (finishes.becomes.leads (ran.ready ready).steady (EachReply false) mid.history).keeps_to first all.image all.told all.core in
      ends_by_states (has_stopped after) script first new.told (course_of seen) (core_has_gone_to first new.told seen ended) (left_going (has_stopped after))

  -- nothing is left to settle
  settled : is_done after ≡ true → (StoreRoseBy 1 old.outside new → ⊥) → IsReady old → AreSettled mid.history new.told
  settled done calm ready = all_weaker (IsSettledOrLeft mid) (λ (e : Entry). e.reply ≡ Some reply.Ok → (e.operation ≡ 0 → ⊥) → IfContents new.told (IsSettledNumber e.operation)) mid.history
      all (ran.settled (says.done done).0 ready (λ rose. calm (rose_before old.outside mid.outside new rose later ran.later)))
    where
      all_settled : (found : Tail) → last ≡ found → (found ≡ tail.Memory → ⊥) → (found ≡ tail.Store → StoreRoseBy 1 mid.outside new) → last ≡ tail.Settled
      all_settled tail.Settled is enough rose = is
      all_settled tail.Store is enough rose = absurd (calm (rose_after old.outside mid.outside new ran.later (rose refl)))
      all_settled tail.Memory is enough rose = absurd (enough refl)

      now : (op : Op) → IfContents mid.outside.told (IsSettledOp op) ⊎ (left_of (mid.doing 1) ≡ Some op) → IfContents new.told (IsSettledOp op)
      now op (inl held) = finishes.becomes.settled (ran.ready ready).steady op held
      now op (inr here) = finishes.settles (all_settled last refl (says.done done).1 finishes.cause) (ran.ready ready).steady 1 op here

      all : (e : Entry) → IsSettledOrLeft mid e → e.reply ≡ Some reply.Ok → (e.operation ≡ 0 → ⊥) → IfContents new.told (IsSettledNumber e.operation)
      all e held ok number =
          let it = held ok number in
          contents_weaker new.told (IsSettledOp it.0) (IsSettledNumber e.operation) (λ image s other named. settled_number it.0 other image (named ∙ sym it.1) s) (now it.0 it.2)

  -- all commands were answered
  none_left : is_done after ≡ true → ran.rest ≡ []
  none_left done = ran.all (says.goes (done_goes after done))
    where
      done_goes : (s : RunStatus) → is_done s ≡ true → has_stopped s ≡ false
      done_goes status.Done is = refl
      done_goes status.Refused is = refl
      done_goes other is = absurd cc

  whole_script : is_done after ≡ true → script ≡ ran.done
  whole_script done = ran.split ∙ ap (λ others. ran.done ++ others) (none_left done) ∙ append-nil ran.done

  answers : is_done after ≡ true → AllByRecursion (λ (asked : Asked). is_plain asked.command ≡ true) script → AreAnswersTo script mid.history
  answers done plain = subst (λ asked. AreAnswersTo asked mid.history) (sym (whole_script done))
      (answers_plain ran.done mid.history ran.answered (subst (AllByRecursion (λ (asked : Asked). is_plain asked.command ≡ true)) (whole_script done) plain) ran.numbered)

  did : did_nothing after ≡ true → ⊥
  did = by after (says.of_commands ran.of_commands)
    where
      by : (s : RunStatus) → is_of_commands s ≡ true → did_nothing s ≡ true → ⊥
      by status.Done of is = absurd cc
      by status.Refused of is = absurd cc
      by (status.BadWords place) of is = absurd cc
      by (status.BadScript line reason) of is = absurd cc
      by status.ReadFault of is = absurd cc
      by status.WriteFault of is = absurd cc
      by status.StoreFault of is = absurd cc
      by status.Memory of is = absurd cc
      by status.TooLong of is = absurd cc
      by (status.UnknownLocation location) of is = absurd cc

  runs : Runs script old new mid.history after
  runs = record {
    on_trail = on_trail;
    by_states = by_states;
    served = record {
      in_order = in_order script ran.done ran.rest ran.split mid.history ran.answered (has_stopped after);
      all = λ done. all_answered script ran.done ran.rest ran.split mid.history ran.answered (none_left done);
      all_after_fault = λ failed some. all_answered script ran.done ran.rest ran.split mid.history ran.answered (ran.all (says.goes (faulted_goes after failed)));
    };
    kept = record {
      few_faults = rose_by_then (faults mid.history) old.outside mid.outside new later ran.few_faults;
      ends_with_memory = ran.ends_with_memory;
      nothing = λ is. absurd (did is);
      unchanged = λ is. absurd (did is);
    };
    numbered = ran.numbered;
    named = λ ready. still_told mid.outside new (finishes.becomes.settled (ran.ready ready).steady) _ (ran.named ready);
    settled = settled;
    answers = answers;
    later = onward;
  }

  -- so it is of the history that is handed back, and of the status
  pub run_ends : (history : List Entry) (found : RunStatus) → history ≡ mid.history → found ≡ after → Ends script old new history found
  run_ends history found same is = subst (λ s. Ends script old new history s) (sym is) (subst (λ h. Ends script old new h after) (sym same)
      (runs, says.caused old.outside mid.outside new mid.history later ran.later ran.cause, says.of_commands ran.of_commands))
