-- The run so far is a headline at its end.
use Rattle.std.proofs.Common.{◌≡◌, ◌⊎◌, inl, inr, ℕ, Bool, true, false, refl, sym, ◌∙◌, subst, List, []}
use Rattle.cell_world.specs.Texts.{Text}
use Rattle.cell_world.specs.Images.{Image, Trail, image_at, end_of_trail}
use Rattle.cell_world.specs.Plain.{with_connections}
use Rattle.cell_world.specs.Meaning.{meaning}
use Rattle.cell_world.specs.Sound.{Sound}
use Rattle.cell_world.specs.Outside.{Outside, Told, TellsContents, TellsTrail}
use Rattle.plain_model.specs.declared.commands.Asked.{Asked}
use Rattle.plain_model.specs.declared.finish.RunStatus.{RunStatus}
use Rattle.plain_model.specs.declared.history.Entry.{Entry}
use Rattle.plain_model.specs.Timelines.{history_of}
use Rattle.plain_model.specs.Legal.{KeepsPromises}
use Rattle.plain_model.specs.Written.{EachReply, AllWritten}
use Rattle.plain_model.specs.Running.{Owing}
use Rattle.plain_model.specs.ByMoments.{RunsByMoments}
use Rattle.plain_model.specs.Headline.{Causes, EndsAnswered, has_stopped, SoundAtEachMoment, IsLegalHistory, OnlyWhatHappened, EachOnceInOrder, StatusHasCause, Headline, HeadlineAlone, FollowsTo}
use Rattle.plain_model.specs.RunSoFar.{Course, RunsOn, HasGoneOn, KeepsRun, HasGoneTo, KeepsContents, EndsWritten, AreLeftGoing, HoldsOnTrail, HoldsByStates, resting}
use Rattle.plain_model.proofs.RunsAtMoments.{runs_by_moments, all_lines_written}
use Rattle.plain_model.proofs.AloneLaws.{alone_follows}
use Rattle.plain_model.proofs.RunSoFar.{run_begins, run_begins_to}

-- ---- over a world that tells its trail

-- the three parts that speak of the trail
record Parts (tagged stopped : Bool) (script : List Asked) (trail : Trail) (t0 : ℕ) (ending : RunStatus) (history : List Entry) : Type 0 where
  sound : SoundAtEachMoment trail t0
  legal : IsLegalHistory stopped trail t0 script history
  written : OnlyWhatHappened (EachReply tagged) trail t0 history ending

module _ (tagged stopped : Bool) (script : List Asked) (ending : RunStatus) (t0 : ℕ) (start : Image) (trail : Trail) (course : Course) (rest : Text) (run : RunsOn (EachReply tagged) t0 start trail course rest) where
  owing : Owing t0 (image_at trail t0) (EachReply tagged) run.past run.connections rest
  owing = subst (λ i. Owing t0 i (EachReply tagged) run.past run.connections rest) (sym run.since.starts) run.owing

  parts : AreLeftGoing stopped script (history_of run.past) course.going → EndsWritten rest ending (history_of run.past) → Parts tagged stopped script trail t0 ending (history_of run.past)
  parts left ends =
      let moments : RunsByMoments (EachReply tagged) trail t0 course.going (history_of run.past) =
      runs_by_moments (EachReply tagged) trail t0 course.going run.past run.connections run.since.began run.since.happened owing.run run.looks.promises run.looks.named in
      record {
        sound = record { sound = moments.sound };
        legal = record { going = course.going; left = left; legal = moments.legal };
        written = record { written = moments.written; all = λ goes. all ends goes; last = last ends };
      }
    where
      all_of : rest ≡ [] → AllWritten (EachReply tagged) trail t0 (history_of run.past)
      all_of none = all_lines_written tagged trail t0 run.past run.connections run.since.began run.since.happened (subst (Owing t0 (image_at trail t0) (EachReply tagged) run.past run.connections) none owing)

      all : EndsWritten rest ending (history_of run.past) → has_stopped ending ≡ false → AllWritten (EachReply tagged) trail t0 (history_of run.past)
      all (inl none) goes = all_of none
      all (inr (stops, answered)) goes = let no : true ≡ false = sym stops ∙ goes in absurd cc

      last : EndsWritten rest ending (history_of run.past) → AllWritten (EachReply tagged) trail t0 (history_of run.past) ⊎ EndsAnswered (history_of run.past)
      last (inl none) = inl (all_of none)
      last (inr (stops, answered)) = inr answered

  three : AreLeftGoing stopped script course.history course.going → EndsWritten rest ending course.history → Parts tagged stopped script trail t0 ending course.history
  three = subst (λ h. AreLeftGoing stopped script h course.going → EndsWritten rest ending h → Parts tagged stopped script trail t0 ending h) run.entries parts

-- a run that began at the end of a trail, and has gone on to this
pub ends_on_trail : (tagged stopped : Bool) (script : List Asked) (new : Told) (course : Course) (rest : Text) (ending : RunStatus) (before : Trail)
    → HasGoneOn (EachReply tagged) (end_of_trail before) (image_at before (end_of_trail before)) before new course rest → AreLeftGoing stopped script course.history course.going → EndsWritten rest ending course.history
    → HoldsOnTrail (EachReply tagged) stopped script before new course.history ending
ends_on_trail tagged stopped script new course rest ending before gone left ends =
    let all = three tagged stopped script ending (end_of_trail before) (image_at before (end_of_trail before)) gone.trail course rest gone.runs left ends in
    record { trail = gone.trail; told = gone.told; goes_on = gone.goes_on; sound = all.sound; legal = all.legal; written = all.written }

pub holds_on_trail : (tagged stopped : Bool) (script : List Asked) (old new : Told) (course : Course) (rest : Text) (ending : RunStatus)
    → KeepsRun (EachReply tagged) old (resting []) new course rest → AreLeftGoing stopped script course.history course.going → EndsWritten rest ending course.history
    → (before : Trail) → old ≡ TellsTrail before → Sound (image_at before (end_of_trail before)) → HoldsOnTrail (EachReply tagged) stopped script before new course.history ending
holds_on_trail tagged stopped script old new course rest ending keeps left ends before told sound =
    ends_on_trail tagged stopped script new course rest ending before (keeps (end_of_trail before) (image_at before (end_of_trail before)) before told (run_begins (EachReply tagged) before sound)) left ends

pub is_headline : (tagged : Bool) (causes : Causes) (script : List Asked) (before : Trail) (old new : Outside) (history : List Entry) (ending : RunStatus)
    → HoldsOnTrail (EachReply tagged) (has_stopped ending) script before new.told history ending
    → EachOnceInOrder script history ending → StatusHasCause causes old new history ending → Headline (EachReply tagged) causes script before old new history ending
is_headline tagged causes script before old new history ending holds served caused =
    record { trail = holds.trail; told = holds.told; goes_on = holds.goes_on; sound = holds.sound; legal = holds.legal; written = holds.written; served = served; status = caused }

-- ---- over a world that tells its contents alone

-- a run that began with these contents, and has gone on to others
pub ends_by_states : (stopped : Bool) (script : List Asked) (first : Image) (new : Told) (course : Course) → HasGoneTo first new course → AreLeftGoing stopped script course.history course.going
    → HoldsByStates stopped script first new course.history
ends_by_states stopped script first new course gone left = record {
  last = gone.image;
  told = gone.told;
  sound = gone.runs.run.sound;
  legal = record {
    end = with_connections (meaning gone.image) gone.runs.connections;
    follows = subst (λ es. FollowsTo [] (meaning first) es (with_connections (meaning gone.image) gone.runs.connections)) gone.runs.entries (alone_follows first gone.runs.past gone.runs.connections gone.image gone.runs.run);
    stands = refl;
    going = course.going;
    left = left;
    promises = subst (KeepsPromises course.going) gone.runs.entries gone.runs.promises;
  };
}

pub holds_by_states : (stopped : Bool) (script : List Asked) (old new : Told) (course : Course) → KeepsContents old (resting []) new course → AreLeftGoing stopped script course.history course.going
    → (first : Image) → old ≡ TellsContents first → Sound first → HoldsByStates stopped script first new course.history
holds_by_states stopped script old new course keeps left first told sound = ends_by_states stopped script first new course (keeps first first told (run_begins_to first sound)) left

pub is_headline_alone : (causes : Causes) (script : List Asked) (first : Image) (old new : Outside) (history : List Entry) (ending : RunStatus)
    → HoldsByStates (has_stopped ending) script first new.told history
    → EachOnceInOrder script history ending → StatusHasCause causes old new history ending → HeadlineAlone causes script first old new history ending
is_headline_alone causes script first old new history ending holds served caused =
    record { last = holds.last; told = holds.told; sound = holds.sound; legal = holds.legal; served = served; status = caused }
