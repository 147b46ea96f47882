-- What the whole call promises, by how it ends.
use Rattle.std.proofs.Common.{◌≡◌, ◌⊎◌, inl, inr, ⊎_elim, ℕ, ◌<◌, ◌≤◌, Bool, true, false, List, [], length, Option, Some, None, option_map, refl, sym, ap, ◌∙◌, subst, arith}
use Rattle.std.specs.Bool.{MatchBool}
use Rattle.cell_world.specs.Texts.{Text}
use Rattle.cell_world.specs.Counts.{Rose}
use Rattle.cell_world.specs.Images.{global, image_at, end_of_trail}
use Rattle.cell_world.specs.Outside.{Outside, Told, TellsNothing, TellsContents, TellsTrail, IfContents, IsLater}
use Rattle.cell_world.proofs.ContentsLaws.{contents_all}
use Rattle.cell_world.proofs.OutsideLaws.{later_same, later_then, store_rose_none}
use Rattle.plain_model.specs.declared.commands.Asked.{Asked}
use Rattle.plain_model.specs.declared.finish.Reason.{Reason}
use Rattle.plain_model.specs.declared.finish.RunStatus.{RunStatus}
use Rattle.plain_model.specs.declared.finish.RunStatus.TheVariants as status
use Rattle.plain_model.specs.declared.history.Entry.{Entry}
use Rattle.plain_model.specs.Written.{EachReply}
use Rattle.plain_model.specs.Headline.{has_stopped, is_done, Causes, StatusCause, ComesByInput, ComesByOpening, TellsUnknown, StatusHasCause, EachOnceInOrder, faults, did_nothing}
use Rattle.plain_model.proofs.RunsAreHeadlines.{ends_on_trail, ends_by_states, is_headline, is_headline_alone}
use Rattle.session_laws.specs.Contract.{at_rest, course_of}
use Rattle.session_laws.proofs.ContractLaws.{core_has_gone_on, core_has_gone_to}
use Rattle.cell_world.specs.Sound.{Sound}
use Rattle.site_names.specs.Named.{TellsFirst}
use Rattle.manager_core.specs.Cores.{Parts, IsReady, FaultHasCause, KnowsAll, Opens}
use Rattle.manager_core.proofs.OpeningLaws.{opens_untouched, rose_by_before}
use Rattle.manager_core.specs.declared.opening.StartFault.{StartFault}
use Rattle.manager_core.specs.declared.opening.StartFault.TheVariants as start
use Rattle.script_lang.specs.declared.programs.Program.TheVariants.{Ctl}
use Rattle.script_lang.specs.declared.command_line.Words.{Words}
use Rattle.script_lang.specs.CommandLine.{options_built, SaysWords, IsAccepted, IsBadAt}
use Rattle.script_lang.specs.Scripts.{built, IsScript, IsFirstFaulty}
use Rattle.script_lang.specs.Sources.{script_limit, IfTold, HasMore, TookAtMost}
use Rattle.script_shell.specs.Promises.{Runs, RunsScript, IsRead, Completes, causes_of, no_causes, has_begun, was_read, is_of_commands, is_of_reading, is_complete}
use Rattle.script_shell.specs.Reading.{IsReadScript, StopsReading, unopened}
use Rattle.script_shell.proofs.HistoryLaws.{in_order}
use Rattle.script_lang.proofs.WholeScripts.{script_is_whole, one_fault}
use Rattle.script_shell.proofs.PlainEnds.{in_its_contents, on_its_trail, runs_plainly}
use Rattle.script_shell.proofs.ScriptLaws.{script_is_asked}
use Rattle.script_shell.proofs.UnknownLaws.{one_unknown}
use Rattle.script_shell.proofs.WordLaws.{accepted_is_not_bad, one_bad_place}

-- ---- before the stores

-- where it isn't told, any bytes will do
bytes_left : (left : Option Text) → (bytes : Text) × IfTold left bytes
bytes_left None = ([], tt)
bytes_left (Some bytes) = (bytes, refl)

module _ (words : List Text) (left : Option Text) (faults : ℕ) where
  -- bad words, with an untouched source
  pub bad_words : (place : ℕ) → IsBadAt (IsAccepted Ctl options_built) words place → StopsReading words left left faults faults (status.BadWords place)
  bad_words place bad = record {
    bytes = (bytes_left left).0;
    given = (bytes_left left).1;
    untouched = λ other at. (refl, refl);
    in_time = λ at. absurd cc;
    drained = λ is. absurd cc;
    source = omega arith;
    unbegun = refl;
    before_opening = refl;
    cause = λ old new. bad;
    by_input = record {
      words = λ other also. inl (ap status.BadWords (one_bad_place (IsAccepted Ctl options_built) words place other bad also));
      reading = λ long. refl;
      script = λ line reason at. inr refl;
    };
  }

  pub words_memory : StopsReading words left left faults faults status.Memory
  words_memory = record {
    bytes = (bytes_left left).0;
    given = (bytes_left left).1;
    untouched = λ place at. absurd cc;
    in_time = λ at. absurd cc;
    drained = λ is. absurd cc;
    source = omega arith;
    unbegun = refl;
    before_opening = refl;
    cause = λ old new. tt;
    by_input = record { words = λ place at. inr refl; reading = λ long. refl; script = λ line reason at. inr refl };
  }

module _ (words : List Text) (left after : Option Text) (faults_before faults_after : ℕ) (says : Words) (accepted : SaysWords Ctl options_built words says) (falls : faults_before ≤ faults_after) where
  no_bad_words : (place : ℕ) → IsBadAt (IsAccepted Ctl options_built) words place → ⊥
  no_bad_words place bad = accepted_is_not_bad (IsAccepted Ctl options_built) words place bad (says, accepted)

  pub read_fault : Rose faults_before faults_after → TookAtMost script_limit left after → StopsReading words left after faults_before faults_after status.ReadFault
  read_fault rose in_time = record {
    bytes = (bytes_left left).0;
    given = (bytes_left left).1;
    untouched = λ place at. absurd cc;
    in_time = λ at. in_time;
    drained = λ is. absurd cc;
    source = falls;
    unbegun = refl;
    before_opening = refl;
    cause = λ old new. rose;
    by_input = record { words = λ place at. absurd (no_bad_words place at); reading = λ long. refl; script = λ line reason at. inr refl };
  }

  pub too_long : HasMore script_limit left → StopsReading words left after faults_before faults_after status.TooLong
  too_long more = record {
    bytes = more.bytes;
    given = more.told;
    untouched = λ place at. absurd cc;
    in_time = λ at. absurd cc;
    drained = λ is. absurd cc;
    source = falls;
    unbegun = refl;
    before_opening = refl;
    cause = λ old new. more.long;
    by_input = record { words = λ place at. absurd (no_bad_words place at); reading = λ long. refl; script = λ line reason at. inr refl };
  }

  pub read_memory : StopsReading words left after faults_before faults_after status.Memory
  read_memory = record {
    bytes = (bytes_left left).0;
    given = (bytes_left left).1;
    untouched = λ place at. absurd cc;
    in_time = λ at. absurd cc;
    drained = λ is. absurd cc;
    source = falls;
    unbegun = refl;
    before_opening = refl;
    cause = λ old new. tt;
    by_input = record { words = λ place at. inr refl; reading = λ long. refl; script = λ line reason at. inr refl };
  }

  pub bad_script : (bytes : Text) (line : ℕ) (reason : Reason) → IfTold left bytes → after ≡ option_map (λ b. []) left → length bytes ≤ script_limit → IsFirstFaulty Ctl built bytes line reason
      → StopsReading words left after faults_before faults_after (status.BadScript line reason)
  bad_script bytes line reason given drained short faulty = record {
    bytes = bytes;
    given = given;
    untouched = λ place at. absurd cc;
    in_time = λ at. absurd cc;
    drained = λ is. drained;
    source = falls;
    unbegun = refl;
    before_opening = refl;
    cause = λ old new. faulty;
    by_input = record {
      words = λ place at. absurd (no_bad_words place at);
      reading = λ long. absurd (omega (arith, long, short));
      script = λ other why at. let one = one_fault Ctl built bytes line other reason why faulty at in inl (λ i. status.BadScript (one.0 i) (one.1 i));
    };
  }

  pub script_read : (bytes : Text) (script : List Asked) → IfTold left bytes → after ≡ option_map (λ b. []) left → length bytes ≤ script_limit → IsScript Ctl built bytes script → IsReadScript words left after faults_before faults_after script
  script_read bytes script given drained short grammar = record { accepted = (says, accepted); bytes = bytes; given = given; drained = drained; short = short; grammar = grammar; source = falls }

-- ---- counts, from an earlier moment on

rose_before : (a b c : ℕ) → a ≤ b → Rose b c → Rose a c
rose_before a b c up rose = omega (arith, rose, up)

-- ---- nothing was asked

served_nothing : (ending : RunStatus) → EachOnceInOrder [] [] ending
served_nothing ending = record { in_order = in_order [] [] [] refl [] tt (has_stopped ending); all = λ is session. refl; all_after_fault = λ failed fault session. refl }

-- a script of which nothing was asked
served_none : (script : List Asked) (ending : RunStatus) → is_done ending ≡ false → EachOnceInOrder script [] ending
served_none script ending not_done = record {
  in_order = in_order script [] script refl [] tt (has_stopped ending);
  all = λ is. let both : true ≡ false = sym is ∙ not_done in absurd cc;
  all_after_fault = λ failed some. absurd (omega (arith, some));
}

-- the stores name no unknown location
none_unknown : (old : Outside) → KnowsAll old → (location : Text) → TellsUnknown old location → ⊥
none_unknown old all location = by old.told all
  where
    by : (told : Told) → IfContents told (λ image. TellsFirst (global image) old.locations None) → TellsUnknown (record old { told = told }) location → ⊥
    by TellsNothing all is = is
    by (TellsContents image) all is = all location is
    by (TellsTrail trail) all is = all location is

-- at most the stores were opened, where the world knows all locations
module _ (words : List Text) (left after : Option Text) (faults_before faults_after : ℕ) (old new : Outside) (ending : RunStatus) (bytes : Text) (script : List Asked) (opens : Opens old.told new.told) (untouched_or : (new.told ≡ old.told) ⊎ KnowsAll old) (unchanged : did_nothing ending ≡ true → new.told ≡ old.told) (later : IsLater old new) where
  abbrev causes : Causes
  causes = causes_of words bytes faults_before faults_after

  status_nothing : StatusCause causes old new [] ending → ComesByInput causes ending → ComesByOpening old ending → StatusHasCause causes old new [] ending
  status_nothing cause input opening = record {
    cause = cause;
    by_input = input;
    by_opening = opening;
    unknown = λ location told. (refl, ⊎_elim (λ same. same) (λ all. absurd (none_unknown old all location told)) untouched_or);
    kept = record { few_faults = store_rose_none old new later.faults; ends_with_memory = tt; nothing = λ is. refl; unchanged = unchanged };
  }

  module _ (given : IfTold left bytes) (read : IsRead bytes script [] ending) (untouched : (place : ℕ) → ending ≡ status.BadWords place → (after ≡ left) × (faults_after ≡ faults_before)) (in_time : ending ≡ status.ReadFault → TookAtMost script_limit left after)
      (drained : was_read ending ≡ true → after ≡ option_map (λ b. []) left) (source : faults_before ≤ faults_after) (handed_back : is_of_reading ending ≡ true → new ≡ old) (not_done : is_done ending ≡ false) (served : EachOnceInOrder script [] ending)
      (cause : StatusCause causes old new [] ending) (input : ComesByInput causes ending) (opening : ComesByOpening old ending) where
    pub runs_nothing : RunsScript words left after faults_before faults_after old new [] ending
    runs_nothing = record {
      bytes = bytes;
      given = given;
      script = script;
      read = read;
      untouched = untouched;
      in_time = in_time;
      drained = drained;
      source = source;
      handed_back = handed_back;
      later = later;
      headline = λ before told sound. is_headline false causes script before old new [] ending
          (ends_on_trail false (has_stopped ending) script new.told (course_of (at_rest [])) [] ending before
          (core_has_gone_on (EachReply false) (end_of_trail before) (image_at before (end_of_trail before)) before new.told (at_rest []) [] (opens.on_trail (EachReply false) before told sound))
          (λ session. record { none = λ goes. refl; next = tt }) (inl refl))
          served (status_nothing cause input opening);
      headline_alone = λ first told sound. is_headline_alone causes script first old new [] ending
          (ends_by_states (has_stopped ending) script first new.told (course_of (at_rest [])) (core_has_gone_to first new.told (at_rest []) (opens.by_states first told sound)) (λ session. record { none = λ goes. refl; next = tt }))
          served (status_nothing cause input opening);
      served = served;
      status = status_nothing cause input opening;
      plain = λ done plain. let both : true ≡ false = sym done ∙ not_done in absurd cc;
      numbered = tt;
      named = λ sound. contents_all new.told _ (λ image. tt);
      settled = λ done calm sound. tt;
    }

-- the run stopped before the stores
pub stops_reading : (words : List Text) (left after : Option Text) (faults_before faults_after : ℕ) (o : Outside) (history : List Entry) (found ending : RunStatus) → found ≡ ending → history ≡ [] → StopsReading words left after faults_before faults_after ending
    → RunsScript words left after faults_before faults_after o o history found
stops_reading words left after faults_before faults_after o history found ending is none stops =
    subst (λ s. RunsScript words left after faults_before faults_after o o history s) (sym is)
    (subst (λ h. RunsScript words left after faults_before faults_after o o h ending) (sym none)
    (runs_nothing words left after faults_before faults_after o o ending stops.bytes [] (opens_untouched o o refl (later_same o)) (inl refl) (λ is. refl) (later_same o) stops.given (unread (has_begun ending) stops.unbegun) stops.untouched stops.in_time stops.drained stops.source
    (λ of_reading. refl) (unbegun_not_done ending stops.unbegun) (served_nothing ending) (stops.cause o o) stops.by_input (λ location told. inr stops.before_opening)))
  where
    unbegun_not_done : (ending : RunStatus) → has_begun ending ≡ false → is_done ending ≡ false
    unbegun_not_done status.Done is = absurd cc
    unbegun_not_done status.Refused is = absurd cc
    unbegun_not_done status.Memory is = refl
    unbegun_not_done other is = refl

    -- the script wasn't come to
    unread : (begun : Bool) → begun ≡ false → MatchBool begun (IsScript Ctl built stops.bytes []) (IsScript Ctl built stops.bytes [] ⊎ (◌≡◌ {A = List Entry} [] []))
    unread true is = absurd cc
    unread false is = inr refl

-- ---- the script was read

module _ (words : List Text) (left after : Option Text) (faults_before faults_after : ℕ) (script : List Asked) (read : IsReadScript words left after faults_before faults_after script) where
  abbrev its_causes : Causes
  its_causes = causes_of words read.bytes faults_before faults_after

  -- nothing of the words and of the input is a cause
  by_input : (ending : RunStatus) → ComesByInput its_causes ending
  by_input ending = record {
    words = λ place bad. absurd (accepted_is_not_bad (IsAccepted Ctl options_built) words place bad read.accepted);
    reading = λ long. absurd (omega (arith, long, read.short));
    script = λ line reason at. absurd (script_is_whole Ctl built read.bytes script line reason read.grammar at);
  }

  is_read : (history : List Entry) (begun : Bool) → MatchBool begun (IsScript Ctl built read.bytes script) (IsScript Ctl built read.bytes script ⊎ (history ≡ []))
  is_read history true = read.grammar
  is_read history false = inl read.grammar

  -- ---- the stores couldn't be opened

  pub stops_opening : (old new : Outside) (history : List Entry) (fault : StartFault) (found : RunStatus) → found ≡ unopened fault → history ≡ [] → FaultHasCause old new fault → Opens old.told new.told → (new.told ≡ old.told) ⊎ KnowsAll old → IsLater old new
      → RunsScript words left after faults_before faults_after old new history found
  stops_opening old new history fault found is none caused opens untouched_or later =
      subst (λ s. RunsScript words left after faults_before faults_after old new history s) (sym is)
      (subst (λ h. RunsScript words left after faults_before faults_after old new h (unopened fault)) (sym none) (by fault caused))
    where
      by : (fault : StartFault) → FaultHasCause old new fault → RunsScript words left after faults_before faults_after old new [] (unopened fault)
      by start.Store rose = runs_nothing words left after faults_before faults_after old new status.StoreFault read.bytes script opens untouched_or (λ is. absurd cc) later read.given read.grammar (λ place at. absurd cc) (λ at. absurd cc) (λ is. read.drained) read.source (λ is. absurd cc) refl
          (served_none script status.StoreFault refl) (rose, inr refl, refl) (by_input status.StoreFault) (λ location told. inr refl)
      by start.Memory caused = runs_nothing words left after faults_before faults_after old new status.Memory read.bytes script opens untouched_or (λ is. absurd cc) later read.given (inl read.grammar) (λ place at. absurd cc) (λ at. absurd cc) (λ is. absurd cc) read.source (λ is. absurd cc) refl
          (served_none script status.Memory refl) tt (by_input status.Memory) (λ location told. inr refl)
      by (start.UnknownLocation location) caused = runs_nothing words left after faults_before faults_after old new (status.UnknownLocation location) read.bytes script opens untouched_or (λ is. caused.2) later read.given read.grammar (λ place at. absurd cc) (λ at. absurd cc)
          (λ is. read.drained) read.source (λ is. absurd cc) refl (served_none script (status.UnknownLocation location) refl) (caused.0, caused.1) (by_input (status.UnknownLocation location))
          (λ other told. inl (ap status.UnknownLocation (one_unknown old location other caused.1 told)))

  -- ---- the commands were run

  module _ (old : Outside) (core : Parts) (new : Outside) (history : List Entry) (ending : RunStatus) (opens : Opens old.told core.outside.told) (ready : IfContents old.told Sound → IsReady core) (later : IsLater old core.outside) (known : KnowsAll old)
      (runs : Runs script core new history ending) (cause : StatusCause no_causes core.outside new history ending) (of_commands : is_of_commands ending ≡ true) where
    -- a status that comes of the commands has its cause, whatever words and input say
    comes : StatusCause its_causes old new history ending × (did_nothing ending ≡ false)
    comes = by ending of_commands cause
      where
        by : (ending : RunStatus) → is_of_commands ending ≡ true → StatusCause no_causes core.outside new history ending → StatusCause its_causes old new history ending × (did_nothing ending ≡ false)
        by status.Done of cause = (cause, refl)
        by status.Refused of cause = (cause, refl)
        by (status.BadWords place) of cause = absurd cause
        by (status.BadScript line reason) of cause = absurd cause
        by status.ReadFault of cause = absurd cause
        by status.WriteFault of cause = ((rose_before old.sink_faults core.outside.sink_faults new.sink_faults later.sink cause.0, cause.1), refl)
        by status.StoreFault of cause = ((rose_by_before 1 old core.outside new later cause.0, cause.1, cause.2), refl)
        by status.Memory of cause = (cause, refl)
        by status.TooLong of cause = absurd cause
        by (status.UnknownLocation location) of cause = absurd cc

    caused : StatusHasCause its_causes old new history ending
    caused = record {
      cause = comes.0;
      by_input = by_input ending;
      by_opening = λ location told. absurd (none_unknown old known location told);
      unknown = λ location told. absurd (none_unknown old known location told);
      kept = record {
        few_faults = rose_by_before (faults history) old core.outside new later runs.kept.few_faults;
        ends_with_memory = runs.kept.ends_with_memory;
        nothing = runs.kept.nothing;
        unchanged = λ is. let both : true ≡ false = sym is ∙ comes.1 in absurd cc;
      };
    }

    pub commands_run : RunsScript words left after faults_before faults_after old new history ending
    commands_run = record {
      bytes = read.bytes;
      given = read.given;
      script = script;
      read = is_read history (has_begun ending);
      untouched = λ place at. let both : true ≡ false = sym of_commands ∙ ap is_of_commands at in absurd cc;
      in_time = λ at. let both : true ≡ false = sym of_commands ∙ ap is_of_commands at in absurd cc;
      drained = λ is. read.drained;
      source = read.source;
      handed_back = λ is. absurd (not_both ending of_commands is);
      later = later_then old core.outside new later runs.later;
      headline = λ before told sound. is_headline false its_causes script before old new history ending
          (runs.on_trail before (opens.on_trail (EachReply false) before told sound) (ready (on_its_trail old.told Sound before told sound))) runs.served caused;
      headline_alone = λ first told sound. is_headline_alone its_causes script first old new history ending (runs.by_states first (opens.by_states first told sound) (ready (in_its_contents old.told Sound first told sound))) runs.served caused;
      served = runs.served;
      status = caused;
      plain = λ done plain. runs_plainly script (script_is_asked read.bytes script read.grammar) plain core new history old.told opens ready ending runs done cause;
      numbered = runs.numbered;
      named = λ sound. runs.named (ready sound);
      settled = λ done calm sound. runs.settled done (λ rose. calm (rose_by_before 1 old core.outside new later rose)) (ready sound);
    }
      where
        not_both : (ending : RunStatus) → is_of_commands ending ≡ true → is_of_reading ending ≡ true → ⊥
        not_both status.Done of is = absurd cc
        not_both status.Refused of is = absurd cc
        not_both (status.BadWords place) of is = absurd cc
        not_both (status.BadScript line reason) of is = absurd cc
        not_both status.ReadFault of is = absurd cc
        not_both status.WriteFault of is = absurd cc
        not_both status.StoreFault of is = absurd cc
        not_both status.Memory of is = absurd cc
        not_both status.TooLong of is = absurd cc
        not_both (status.UnknownLocation location) of is = absurd cc

-- ---- completeness

pub completes : (words : List Text) (left after : Option Text) (faults_before faults_after : ℕ) (old new : Outside) (history : List Entry) (ending : RunStatus)
    → RunsScript words left after faults_before faults_after old new history ending → Completes words left faults_before faults_after old new ending
completes words left after faults_before faults_after old new history ending runs bytes script accepted told grammar short source sink store = by ending runs.status.cause
  where
    same : runs.bytes ≡ bytes
    same = sym (let given : IfTold (Some bytes) runs.bytes = subst (λ o. IfTold o runs.bytes) told runs.given in given)

    by : (ending : RunStatus) → StatusCause (causes_of words runs.bytes faults_before faults_after) old new history ending → is_complete ending ≡ true
    by status.Done cause = refl
    by status.Refused cause = refl
    by (status.BadWords place) cause = absurd (accepted_is_not_bad (IsAccepted Ctl options_built) words place cause accepted)
    by (status.BadScript line reason) cause = absurd (script_is_whole Ctl built bytes script line reason grammar (subst (λ b. IsFirstFaulty Ctl built b line reason) same cause))
    by status.ReadFault cause = absurd (source cause)
    by status.WriteFault cause = absurd (sink cause.0)
    by status.StoreFault cause = absurd (store cause.0)
    by status.Memory cause = refl
    by status.TooLong cause = let long : script_limit < length bytes = subst (λ b. script_limit < length b) same cause in absurd (omega (arith, long, short))
    by (status.UnknownLocation location) cause = refl
