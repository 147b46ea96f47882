-- How the run so far goes on by one thing more.
use Rattle.std.proofs.Common.{◌≡◌, ℕ, Bool, cond, refl, sym, ap, ◌∙◌, subst, Some, None, Option, is_some, [], ◌∷◌, ◌++◌, take, drop}
use Rattle.std.proofs.lemmas.List.{append-nil, append_assoc, take-append-drop}
use Rattle.std.proofs.lemmas.Grind.{flat_map-append}
use Rattle.cell_world.specs.Texts.{Text}
use Rattle.cell_world.specs.Images.{Image, Happening, Wrote, after_one}
use Rattle.cell_world.specs.Plain.{Connections, nobody}
use Rattle.cell_world.specs.Meaning.{meaning}
use Rattle.cell_world.specs.Sound.{Sound}
use Rattle.plain_model.specs.declared.replies.Reply.{Reply}
use Rattle.plain_model.specs.declared.history.Entry.{Entry}
use Rattle.plain_model.specs.Lines.{lines, entry_text}
use Rattle.plain_model.specs.Timelines.{Timeline, Happened, Entered, image_of, facts_of, history_of, written_of}
use Rattle.plain_model.specs.OnTrail.{NoneOwed}
use Rattle.plain_model.specs.Legal.{IsAtRest, MayHappen, MayEnter}
use Rattle.plain_model.specs.Written.{Mode, EachReply, Summary, summary, IsPrefixOf, IsQuietAt, surely_written, WrittenSoFar}
use Rattle.plain_model.specs.Running.{AllSound, Running, bytes_of, text_of, Owes, Owing, Recovering}
use Rattle.plain_model.proofs.NearLaws.{near_of}
use Rattle.plain_model.proofs.WrittenAtMoments.{written_of_next, lines_none}

-- ---- what is still to be written

both_empty : (a b : Text) → a ++ b ≡ [] → (a ≡ []) × (b ≡ [])
both_empty [] b e = (refl, e)
both_empty (x ∷ a) b e = absurd cc

nothing_more : (tagged : Bool) (past : Timeline) → Owes (EachReply tagged) past [] → written_of past ≡ lines tagged (history_of past)
nothing_more tagged past owes = sym (append-nil (written_of past)) ∙ owes

-- an entry adds its text
owes-entry : (mode : Mode) (past : Timeline) (e : Entry) → Owes mode past [] → Owes mode (Entered e ∷ past) (text_of mode e)
owes-entry (EachReply tagged) past e owes =
    ap (λ bs. bs ++ entry_text tagged e) (nothing_more tagged past owes) ∙ ap (λ bs. lines tagged (history_of past) ++ bs) (sym (append-nil (entry_text tagged e)))
    ∙ sym (flat_map-append (entry_text tagged) (history_of past) (e ∷ []))
owes-entry Summary past e owes = owes

-- an entry without a reply adds nothing
owes-silent : (mode : Mode) (past : Timeline) (e : Entry) (rest : Text) → e.reply ≡ None → Owes mode past rest → Owes mode (Entered e ∷ past) rest
owes-silent (EachReply tagged) past e rest silent owes = owes ∙ sym (lines_none tagged (history_of past) e silent)
owes-silent Summary past e rest silent owes = owes

-- what writes nothing changes nothing of it
owes-quiet : (mode : Mode) (past : Timeline) (h : Happening) (rest : Text) → bytes_of h ≡ [] → Owes mode past rest → Owes mode (Happened h ∷ past) rest
owes-quiet mode past h rest quiet owes = by mode (written_of_next h past ∙ ap (λ bs. written_of past ++ bs) quiet ∙ append-nil (written_of past)) owes
  where
    by : (mode : Mode) → written_of (Happened h ∷ past) ≡ written_of past → Owes mode past rest → Owes mode (Happened h ∷ past) rest
    by (EachReply tagged) same owes = ap (λ bs. bs ++ rest) same ∙ owes
    by Summary same owes = (same ∙ owes.0, owes.1)

-- a part of it was written
owes-wrote : (mode : Mode) (past : Timeline) (part rest : Text) → Owes mode past (part ++ rest) → Owes mode (Happened (Wrote part) ∷ past) rest
owes-wrote (EachReply tagged) past part rest owes = append_assoc (written_of past) part rest ∙ owes
owes-wrote Summary past part rest owes = let none : (part ≡ []) × (rest ≡ []) = both_empty part rest owes.1 in (ap (λ bs. bs ++ part) owes.0 ∙ none.0, none.1)

-- ---- what is written

-- the lines that are surely written are a front of all
pub surely_front : (tagged : Bool) (past : Timeline) → IsPrefixOf (lines tagged (surely_written past)) (lines tagged (history_of past))
surely_front tagged [] = ([], refl)
surely_front tagged (Happened h ∷ past) = surely_front tagged past
surely_front tagged (Entered e ∷ past) = by e.reply (surely_front tagged past)
  where
    by : (r : Option Reply) → IsPrefixOf (lines tagged (surely_written past)) (lines tagged (history_of past)) → IsPrefixOf (lines tagged (cond (is_some r) (history_of past) (surely_written past))) (lines tagged (history_of past ++ e ∷ []))
    by (Some r) m = (lines tagged (e ∷ []), sym (flat_map-append (entry_text tagged) (history_of past) (e ∷ [])))
    by None m = (m.0 ++ lines tagged (e ∷ []), sym (append_assoc (lines tagged (surely_written past)) m.0 (lines tagged (e ∷ []))) ∙ ap (λ x. x ++ lines tagged (e ∷ [])) m.1 ∙ sym (flat_map-append (entry_text tagged) (history_of past) (e ∷ [])))

-- what the lines of an entry find written is as much as before it, or all
enough_with : (tagged : Bool) (past : Timeline) (e : Entry) (r : Option Reply) → e.reply ≡ r → IsPrefixOf (lines tagged (cond (is_some r) (history_of past) (surely_written past))) (written_of past)
    → IsPrefixOf (lines tagged (surely_written (Entered e ∷ past))) (written_of past)
enough_with tagged past e r is front = subst (λ (r : Option Reply). IsPrefixOf (lines tagged (cond (is_some r) (history_of past) (surely_written past))) (written_of past)) (sym is) front

-- an entry finds with a summary nothing written
quiet_at : (mode : Mode) (past : Timeline) (rest : Text) → Owes mode past rest → IsQuietAt mode past
quiet_at (EachReply tagged) past rest owes = tt
quiet_at Summary past rest owes = owes.0

written-none : (past : Timeline) → written_of past ≡ [] → IsPrefixOf (written_of past) (summary (history_of past))
written-none past none = (summary (history_of past), ap (λ bs. bs ++ summary (history_of past)) none)

-- after an entry with a reply
written-entry : (mode : Mode) (past : Timeline) (e : Entry) (reply : Reply) → e.reply ≡ Some reply → Owes mode past [] → WrittenSoFar mode (Entered e ∷ past)
written-entry (EachReply tagged) past e reply is owes = record {
  enough = enough_with tagged past e (Some reply) is ([], append-nil (lines tagged (history_of past)) ∙ sym (nothing_more tagged past owes));
  no_more = (entry_text tagged e, owes-entry (EachReply tagged) past e owes);
}
written-entry Summary past e reply is owes = written-none (Entered e ∷ past) owes.0

-- after an entry without a reply
written-silent : (mode : Mode) (past : Timeline) (e : Entry) (rest : Text) → e.reply ≡ None → Owes mode past rest → WrittenSoFar mode past → WrittenSoFar mode (Entered e ∷ past)
written-silent (EachReply tagged) past e rest is owes w = record {
  enough = enough_with tagged past e None is w.enough;
  no_more = (w.no_more.0, owes-silent (EachReply tagged) past e w.no_more.0 is w.no_more.1);
}
written-silent Summary past e rest is owes w = written-none (Entered e ∷ past) owes.0

-- after what writes nothing
written-quiet : (mode : Mode) (past : Timeline) (h : Happening) → bytes_of h ≡ [] → WrittenSoFar mode past → WrittenSoFar mode (Happened h ∷ past)
written-quiet mode past h quiet w = by mode (sym (written_of_next h past ∙ ap (λ bs. written_of past ++ bs) quiet ∙ append-nil (written_of past))) w
  where
    by : (mode : Mode) → written_of past ≡ written_of (Happened h ∷ past) → WrittenSoFar mode past → WrittenSoFar mode (Happened h ∷ past)
    by (EachReply tagged) same w = record { enough = subst (IsPrefixOf (lines tagged (surely_written past))) same w.enough; no_more = subst (λ (bs : Text). IsPrefixOf bs (lines tagged (history_of past))) same w.no_more }
    by Summary same w = subst (λ (bs : Text). IsPrefixOf bs (summary (history_of past))) same w

-- after a part of what is to be written
written-part : (mode : Mode) (past : Timeline) (part rest : Text) → WrittenSoFar mode past → Owes mode past (part ++ rest) → WrittenSoFar mode (Happened (Wrote part) ∷ past)
written-part (EachReply tagged) past part rest w owes = record {
  enough = (w.enough.0 ++ part, sym (append_assoc (lines tagged (surely_written past)) w.enough.0 part) ∙ ap (λ bs. bs ++ part) w.enough.1);
  no_more = (rest, owes-wrote (EachReply tagged) past part rest owes);
}
written-part Summary past part rest w owes = written-none (Happened (Wrote part) ∷ past) (owes-wrote Summary past part rest owes).0

-- ---- runs

pub sound_now : (start : Image) (past : Timeline) → AllSound start past → Sound (image_of start past)
sound_now start [] all = all
sound_now start (Happened h ∷ past) all = all.0
sound_now start (Entered e ∷ past) all = sound_now start past all

module _ (since : ℕ) (start : Image) (mode : Mode) where
  -- a run begins
  pub begins : Sound start → Owing since start mode [] nobody []
  begins sound = by mode sound
    where
      by : (mode : Mode) → Sound start → Owing since start mode [] nobody []
      by (EachReply tagged) sound = record { run = record { unfolds = refl; exact = refl; none_owed = λ number is. absurd cc; sound = sound; was_written = tt; written = record { enough = ([], refl); no_more = ([], refl) } }; owes = refl }
      by Summary sound = record { run = record { unfolds = refl; exact = refl; none_owed = λ number is. absurd cc; sound = sound; was_written = tt; written = ([], refl) }; owes = (refl, refl) }

  -- something happened that leaves what the stores stand for
  pub goes_on : (past : Timeline) (connections : Connections) (h : Happening) → Running since start mode past connections
      → MayHappen start past h → Sound (after_one (image_of start past) h) → meaning (after_one (image_of start past) h) ≡ meaning (image_of start past)
      → NoneOwed start (Happened h ∷ past) → WrittenSoFar mode (Happened h ∷ past) → Running since start mode (Happened h ∷ past) connections
  goes_on past connections h run happens sound same none written = record {
    unfolds = (run.unfolds, near_of (meaning (image_of start past)) (facts_of start past) run.exact, happens, run.none_owed);
    exact = same ∙ run.exact;
    none_owed = none;
    sound = (sound, run.sound);
    was_written = (run.was_written, run.written);
    written = written;
  }

  -- what stands exactly stands up to near
  pub recovers : (past : Timeline) (connections : Connections) (rest : Text) → Owing since start mode past connections rest → Recovering since start mode past connections rest
  recovers past connections rest owing = record {
    unfolds = owing.run.unfolds;
    rests = near_of (meaning (image_of start past)) (facts_of start past) owing.run.exact;
    none_owed = owing.run.none_owed;
    sound = owing.run.sound;
    was_written = owing.run.was_written;
    written = owing.run.written;
    owes = owing.owes;
  }

  -- an entry alone: the stores stand exactly for the new state at once
  enters_alone : (past : Timeline) (before after : Connections) (rest : Text) (e : Entry) → Recovering since start mode past before rest
      → MayEnter since start past e before after → WrittenSoFar mode (Entered e ∷ past) → Running since start mode (Entered e ∷ past) after
  enters_alone past before after rest e run enters written = record {
    unfolds = (before, run.unfolds, enters);
    exact = refl;
    none_owed = enters.none_owed;
    sound = run.sound;
    was_written = (run.was_written, quiet_at mode past rest run.owes);
    written = written;
  }

  -- and so what happened last with its entry
  enters_with : (past : Timeline) (before after : Connections) (rest : Text) (h : Happening) (e : Entry) → Recovering since start mode past before rest → bytes_of h ≡ [] → MayHappen start past h
      → Sound (after_one (image_of start past) h) → MayEnter since start (Happened h ∷ past) e before after → WrittenSoFar mode (Entered e ∷ Happened h ∷ past) → Running since start mode (Entered e ∷ Happened h ∷ past) after
  enters_with past before after rest h e run quiet happens sound enters written = record {
    unfolds = (before, (run.unfolds, run.rests, happens, run.none_owed), enters);
    exact = refl;
    none_owed = enters.none_owed;
    sound = (sound, run.sound);
    was_written = ((run.was_written, run.written), quiet_at mode (Happened h ∷ past) rest (owes-quiet mode past h rest quiet run.owes));
    written = written;
  }

  -- ---- up to near

  -- something happened that writes nothing and leaves what the stores stand for, up to near
  pub recovering-happened : (past : Timeline) (connections : Connections) (rest : Text) (h : Happening) → Recovering since start mode past connections rest
      → bytes_of h ≡ [] → MayHappen start past h → Sound (after_one (image_of start past) h) → IsAtRest start (Happened h ∷ past) → NoneOwed start (Happened h ∷ past) → Recovering since start mode (Happened h ∷ past) connections rest
  recovering-happened past connections rest h run quiet happens sound near none = record {
    unfolds = (run.unfolds, run.rests, happens, run.none_owed);
    rests = near;
    none_owed = none;
    sound = (sound, run.sound);
    was_written = (run.was_written, run.written);
    written = written-quiet mode past h quiet run.written;
    owes = owes-quiet mode past h rest quiet run.owes;
  }

  -- an entry with a reply
  pub recovering-entered : (past : Timeline) (before after : Connections) (e : Entry) (reply : Reply) → Recovering since start mode past before []
      → e.reply ≡ Some reply → MayEnter since start past e before after → Owing since start mode (Entered e ∷ past) after (text_of mode e)
  recovering-entered past before after e reply run is enters = record {
    run = enters_alone past before after [] e run enters (written-entry mode past e reply is run.owes);
    owes = owes-entry mode past e run.owes;
  }

  -- what happened last, and the entry with a reply that it stands for
  pub recovering-committed : (past : Timeline) (before after : Connections) (h : Happening) (e : Entry) (reply : Reply) → Recovering since start mode past before []
      → bytes_of h ≡ [] → e.reply ≡ Some reply → MayHappen start past h → Sound (after_one (image_of start past) h) → MayEnter since start (Happened h ∷ past) e before after
      → Owing since start mode (Entered e ∷ Happened h ∷ past) after (text_of mode e)
  recovering-committed past before after h e reply run quiet is happens sound enters =
      let owes : Owes mode (Happened h ∷ past) [] = owes-quiet mode past h [] quiet run.owes in
      record { run = enters_with past before after [] h e run quiet happens sound enters (written-entry mode (Happened h ∷ past) e reply is owes); owes = owes-entry mode (Happened h ∷ past) e owes }

  -- ---- exactly

  -- something happened that writes nothing and leaves what the stores stand for
  pub owing-happened : (past : Timeline) (connections : Connections) (rest : Text) (h : Happening) → Owing since start mode past connections rest
      → bytes_of h ≡ [] → MayHappen start past h → Sound (after_one (image_of start past) h) → meaning (after_one (image_of start past) h) ≡ meaning (image_of start past)
      → NoneOwed start (Happened h ∷ past) → Owing since start mode (Happened h ∷ past) connections rest
  owing-happened past connections rest h owing quiet happens sound same none = record {
    run = goes_on past connections h owing.run happens sound same none (written-quiet mode past h quiet owing.run.written);
    owes = owes-quiet mode past h rest quiet owing.owes;
  }

  -- an entry with a reply
  pub owing-entered : (past : Timeline) (before after : Connections) (e : Entry) (reply : Reply) → Owing since start mode past before []
      → e.reply ≡ Some reply → MayEnter since start past e before after → Owing since start mode (Entered e ∷ past) after (text_of mode e)
  owing-entered past before after e reply owing is enters = recovering-entered past before after e reply (recovers past before [] owing) is enters

  -- an entry without a reply
  pub owing-silent : (past : Timeline) (before after : Connections) (rest : Text) (e : Entry) → Owing since start mode past before rest
      → e.reply ≡ None → MayEnter since start past e before after → Owing since start mode (Entered e ∷ past) after rest
  owing-silent past before after rest e owing is enters = record {
    run = enters_alone past before after rest e (recovers past before rest owing) enters (written-silent mode past e rest is owing.owes owing.run.written);
    owes = owes-silent mode past e rest is owing.owes;
  }

  -- what happened last, and the entry with a reply that it stands for
  pub owing-committed : (past : Timeline) (before after : Connections) (h : Happening) (e : Entry) (reply : Reply) → Owing since start mode past before []
      → bytes_of h ≡ [] → e.reply ≡ Some reply → MayHappen start past h → Sound (after_one (image_of start past) h) → MayEnter since start (Happened h ∷ past) e before after
      → Owing since start mode (Entered e ∷ Happened h ∷ past) after (text_of mode e)
  owing-committed past before after h e reply owing quiet is happens sound enters = recovering-committed past before after h e reply (recovers past before [] owing) quiet is happens sound enters

  -- a step of a job, and its entry
  pub owing-stepped : (past : Timeline) (before after : Connections) (rest : Text) (h : Happening) (e : Entry) → Owing since start mode past before rest
      → bytes_of h ≡ [] → e.reply ≡ None → MayHappen start past h → Sound (after_one (image_of start past) h) → MayEnter since start (Happened h ∷ past) e before after
      → Owing since start mode (Entered e ∷ Happened h ∷ past) after rest
  owing-stepped past before after rest h e owing quiet is happens sound enters =
      let owes : Owes mode (Happened h ∷ past) rest = owes-quiet mode past h rest quiet owing.owes in
      record {
        run = enters_with past before after rest h e (recovers past before rest owing) quiet happens sound enters
            (written-silent mode (Happened h ∷ past) e rest is owes (written-quiet mode past h quiet owing.run.written));
        owes = owes-silent mode (Happened h ∷ past) e rest is owes;
      }

  -- a part of what is to be written
  pub owing-wrote : (past : Timeline) (connections : Connections) (part rest : Text) → Owing since start mode past connections (part ++ rest) → Owing since start mode (Happened (Wrote part) ∷ past) connections rest
  owing-wrote past connections part rest owing = record {
    run = goes_on past connections (Wrote part) owing.run tt (sound_now start past owing.run.sound) refl owing.run.none_owed (written-part mode past part rest owing.run.written owing.owes);
    owes = owes-wrote mode past part rest owing.owes;
  }

  -- all of it
  pub owing-wrote_all : (past : Timeline) (connections : Connections) (rest : Text) → Owing since start mode past connections rest → Owing since start mode (Happened (Wrote rest) ∷ past) connections []
  owing-wrote_all past connections rest owing = owing-wrote past connections rest [] (record { run = owing.run; owes = subst (Owes mode past) (sym (append-nil rest)) owing.owes })

  -- a front of it
  pub owing-wrote_front : (past : Timeline) (connections : Connections) (n : ℕ) (rest : Text) → Owing since start mode past connections rest → Owing since start mode (Happened (Wrote (take n rest)) ∷ past) connections (drop n rest)
  owing-wrote_front past connections n rest owing = owing-wrote past connections (take n rest) (drop n rest) (record { run = owing.run; owes = subst (Owes mode past) (sym (take-append-drop n rest)) owing.owes })

-- ---- the summary

-- it is written in parts
pub summary-wrote : (since : ℕ) (start : Image) (past : Timeline) (connections : Connections) (part : Text) → Running since start Summary past connections
    → IsPrefixOf (written_of past ++ part) (summary (history_of past)) → Running since start Summary (Happened (Wrote part) ∷ past) connections
summary-wrote since start past connections part run front = goes_on since start Summary past connections (Wrote part) run tt (sound_now start past run.sound) refl run.none_owed front

-- a front of it, of which nothing was written before
pub summary-wrote_front : (since : ℕ) (start : Image) (past : Timeline) (connections : Connections) (n : ℕ) → Owing since start Summary past connections []
    → Running since start Summary (Happened (Wrote (take n (summary (history_of past)))) ∷ past) connections
summary-wrote_front since start past connections n owing =
    let text : Text = summary (history_of past) in
    summary-wrote since start past connections (take n text) owing.run (drop n text, ap (λ bs. (bs ++ take n text) ++ drop n text) owing.owes.0 ∙ take-append-drop n text)
