-- The run so far goes on by one thing more, as its trail does.
use Rattle.std.proofs.Common.{◌≡◌, ℕ, ◌+◌, refl, sym, ap, ◌∙◌, subst, Some, [], ◌∷◌, ◌++◌, length, take, drop, arith}
use Rattle.std.proofs.lemmas.List.{take_at, take-append-drop, append_assoc, length_push, take_all, drop_all}
use Rattle.cell_world.specs.Texts.{Text}
use Rattle.cell_world.specs.Images.{Image, Trail, Happening, Wrote, image_at, end_of_trail, extended, after_one}
use Rattle.cell_world.specs.Plain.{Connections, nobody}
use Rattle.cell_world.specs.Meaning.{meaning}
use Rattle.cell_world.specs.Sound.{Sound}
use Rattle.cell_world.specs.Outside.{Told}
use Rattle.cell_world.proofs.ImageLaws.{earlier_images}
use Rattle.plain_model.specs.declared.history.Entry.{Entry}
use Rattle.plain_model.specs.declared.replies.Reply.{Reply}
use Rattle.plain_model.specs.declared.replies.Reply.TheVariants as reply
use Rattle.plain_model.specs.Timelines.{Timeline, Happened, Entered, image_of, facts_of, happened_of}
use Rattle.plain_model.specs.OnTrail.{tried_by}
use Rattle.plain_model.specs.Legal.{Promises, MayHappen, MayEnter}
use Rattle.plain_model.specs.GoingOn.{GoesOn}
use Rattle.plain_model.specs.Written.{Mode}
use Rattle.plain_model.specs.Running.{bytes_of, text_of}
use Rattle.plain_model.specs.Headline.{GoesOnFrom}
use Rattle.plain_model.specs.RunSoFar.{Course, IsSince, RunsOn, KeepsRun, RunsTo, KeepsContents, resting, nothing_going}
use Rattle.plain_model.proofs.OneTimeline.{moment_now, image_now, stretch_grows}
use Rattle.plain_model.proofs.RunLaws.{begins, owing-entered, owing-committed, owing-wrote_all, owing-wrote_front, sound_now}
use Rattle.plain_model.proofs.Looking.{looks_first, looks_happened, looks_entered}
use Rattle.plain_model.proofs.AloneLaws.{alone_begins}

-- ---- trails

pub goes_on_same : (trail : Trail) → GoesOnFrom trail trail
goes_on_same trail = record { start = refl; front = take_all (end_of_trail trail) trail.happened (omega arith) }

pub goes_on_more : (before trail : Trail) (h : Happening) → GoesOnFrom before trail → GoesOnFrom before (extended trail h)
goes_on_more before trail h goes = record {
  start = goes.start;
  front =
      let split : trail.happened ≡ before.happened ++ drop (end_of_trail before) trail.happened =
      sym (take-append-drop (end_of_trail before) trail.happened) ∙ ap (λ hs. hs ++ drop (end_of_trail before) trail.happened) goes.front in
      ap (λ hs. take (end_of_trail before) (hs ++ h ∷ [])) split
      ∙ ap (take (end_of_trail before)) (append_assoc before.happened (drop (end_of_trail before) trail.happened) (h ∷ []))
      ∙ take_at before.happened (drop (end_of_trail before) trail.happened ++ h ∷ []) (end_of_trail before) refl;
}

pub goes_on_then : (a b c : Trail) → GoesOnFrom a b → GoesOnFrom b c → GoesOnFrom a c
goes_on_then a b c ab bc = record {
  start = bc.start ∙ ab.start;
  front =
      let one : b.happened ≡ a.happened ++ drop (end_of_trail a) b.happened = sym (take-append-drop (end_of_trail a) b.happened) ∙ ap (λ hs. hs ++ drop (end_of_trail a) b.happened) ab.front in
      let two : c.happened ≡ b.happened ++ drop (end_of_trail b) c.happened = sym (take-append-drop (end_of_trail b) c.happened) ∙ ap (λ hs. hs ++ drop (end_of_trail b) c.happened) bc.front in
      ap (take (end_of_trail a)) (two ∙ ap (λ hs. hs ++ drop (end_of_trail b) c.happened) one ∙ append_assoc a.happened (drop (end_of_trail a) b.happened) (drop (end_of_trail b) c.happened))
      ∙ take_at a.happened (drop (end_of_trail a) b.happened ++ drop (end_of_trail b) c.happened) (end_of_trail a) refl;
}

-- ---- what came since a moment

pub since_first : (trail : Trail) → IsSince (end_of_trail trail) (image_at trail (end_of_trail trail)) trail []
since_first trail = record { began = omega arith; starts = refl; happened = sym (drop_all (end_of_trail trail) trail.happened (omega arith)) }

module _ (t0 : ℕ) (start : Image) (trail : Trail) (past : Timeline) (since : IsSince t0 start trail past) where
  pub since_happened : (h : Happening) → IsSince t0 start (extended trail h) (Happened h ∷ past)
  since_happened h = record {
    began = omega (arith, since.began, length_push trail.happened h);
    starts = earlier_images trail h t0 since.began ∙ since.starts;
    happened = stretch_grows trail t0 past h since.began since.happened;
  }

  pub since_entered : (e : Entry) → IsSince t0 start trail (Entered e ∷ past)
  since_entered e = record { began = since.began; starts = since.starts; happened = since.happened }

  -- the stores are the trail's last image
  pub image_is : image_of start past ≡ image_at trail (end_of_trail trail)
  image_is = ap (λ i. image_of i past) (sym since.starts) ∙ image_now trail t0 past since.began since.happened

  pub moment_is : t0 + length (happened_of past) ≡ end_of_trail trail
  moment_is = moment_now trail t0 past since.began since.happened

-- ---- the run

-- A run begins at the end of a trail.
pub run_begins : (mode : Mode) (trail : Trail) → Sound (image_at trail (end_of_trail trail)) → RunsOn mode (end_of_trail trail) (image_at trail (end_of_trail trail)) trail (resting []) []
run_begins mode trail sound = record {
  past = [];
  connections = nobody;
  since = since_first trail;
  entries = refl;
  owing = begins (end_of_trail trail) (image_at trail (end_of_trail trail)) mode sound;
  looks = looks_first nothing_going;
}

module _ (mode : Mode) (t0 : ℕ) (start : Image) (trail : Trail) (course : Course) (rest : Text) (run : RunsOn mode t0 start trail course rest) where
  -- the stores are sound, and stand for the state after the latest entry
  pub sound_is : Sound (image_at trail (end_of_trail trail))
  sound_is = subst Sound (image_is t0 start trail run.past run.since) (sound_now start run.past run.owing.run.sound)

  pub stands_is : meaning (image_at trail (end_of_trail trail)) ≡ facts_of start run.past
  stands_is = ap meaning (sym (image_is t0 start trail run.past run.since)) ∙ run.owing.run.exact

  -- what is to be written is written, or a front of it
  pub run_wrote : RunsOn mode t0 start (extended trail (Wrote rest)) course []
  run_wrote = record {
    past = Happened (Wrote rest) ∷ run.past;
    connections = run.connections;
    since = since_happened t0 start trail run.past run.since (Wrote rest);
    entries = run.entries;
    owing = owing-wrote_all t0 start mode run.past run.connections rest run.owing;
    looks = looks_happened course.going run.past (Wrote rest) refl run.looks;
  }

  pub run_wrote_front : (n : ℕ) → RunsOn mode t0 start (extended trail (Wrote (take n rest))) course (drop n rest)
  run_wrote_front n = record {
    past = Happened (Wrote (take n rest)) ∷ run.past;
    connections = run.connections;
    since = since_happened t0 start trail run.past run.since (Wrote (take n rest));
    entries = run.entries;
    owing = owing-wrote_front t0 start mode run.past run.connections n rest run.owing;
    looks = looks_happened course.going run.past (Wrote (take n rest)) refl run.looks;
  }

-- An entry with a reply comes alone, or with the commit that it stands for.
module _ (mode : Mode) (t0 : ℕ) (start : Image) (trail : Trail) (before after : Course) (run : RunsOn mode t0 start trail before []) (e : Entry) (answer : Reply) (is : e.reply ≡ Some answer)
    (added : after.history ≡ before.history ++ e ∷ []) (on : GoesOn before.going after.going e) (promise : Promises after.going e [] e.reply) (some : e.reply ≡ Some (reply.Pending 0) → ⊥) (now : Connections) where
  pub run_answered : MayEnter t0 start run.past e run.connections now → RunsOn mode t0 start trail after (text_of mode e)
  run_answered enters = record {
    past = Entered e ∷ run.past;
    connections = now;
    since = since_entered t0 start trail run.past run.since e;
    entries = ap (λ es. es ++ e ∷ []) run.entries ∙ sym added;
    owing = owing-entered t0 start mode run.past run.connections now e answer run.owing is enters;
    looks = looks_entered before.going after.going e run.past on promise some run.looks;
  }

  pub run_committed : (h : Happening) → bytes_of h ≡ [] → tried_by h ≡ [] → MayHappen start run.past h → Sound (after_one (image_of start run.past) h)
      → MayEnter t0 start (Happened h ∷ run.past) e run.connections now → RunsOn mode t0 start (extended trail h) after (text_of mode e)
  run_committed h silent tries may sound enters = record {
    past = Entered e ∷ Happened h ∷ run.past;
    connections = now;
    since = since_entered t0 start (extended trail h) (Happened h ∷ run.past) (since_happened t0 start trail run.past run.since h) e;
    entries = ap (λ es. es ++ e ∷ []) run.entries ∙ sym added;
    owing = owing-committed t0 start mode run.past run.connections now h e answer run.owing silent is may sound enters;
    looks = looks_entered before.going after.going e (Happened h ∷ run.past) on promise some (looks_happened before.going run.past h tries run.looks);
  }

-- ---- runs one after the other

pub keeps_none : (mode : Mode) (told : Told) (course : Course) → KeepsRun mode told course told course []
keeps_none mode told course t0 start trail is run = record { trail = trail; told = is; goes_on = goes_on_same trail; runs = run }

pub keeps_then : (mode : Mode) (old mid new : Told) (none one two : Course) (rest : Text) → KeepsRun mode old none mid one [] → KeepsRun mode mid one new two rest → KeepsRun mode old none new two rest
keeps_then mode old mid new none one two rest first second t0 start trail is run =
    let mids = first t0 start trail is run in
    let all = second t0 start mids.trail mids.told mids.runs in
    record { trail = all.trail; told = all.told; goes_on = goes_on_then trail mids.trail all.trail mids.goes_on all.goes_on; runs = all.runs }

pub contents_none : (told : Told) (course : Course) → KeepsContents told course told course
contents_none told course first image is run = record { image = image; told = is; runs = run }

pub contents_then : (old mid new : Told) (none one two : Course) → KeepsContents old none mid one → KeepsContents mid one new two → KeepsContents old none new two
contents_then old mid new none one two first second start image is run = let mids = first start image is run in second start mids.image mids.told mids.runs

-- over a world that tells its contents alone a run begins likewise
pub run_begins_to : (first : Image) → Sound first → RunsTo first first (resting [])
run_begins_to first sound = record { past = []; connections = nobody; entries = refl; run = alone_begins first sound; promises = tt; pendings = tt }
