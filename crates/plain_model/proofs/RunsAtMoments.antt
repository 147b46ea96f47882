-- The run so far keeps to what a run promises, at each of its moments.
use Rattle.std.proofs.Common.{◌≡◌, ℕ, Bool, ◌+◌, ◌≤◌, refl, sym, ap, ◌∙◌, subst, [], ◌∷◌, ◌++◌, length, arith, drop, ⊎_elim}
use Rattle.std.proofs.lemmas.List.{append-nil, length-drop}
use Rattle.std.proofs.lemmas.Bool.{cases_lt}
use Rattle.cell_world.specs.Images.{Trail, Wrote, image_at, end_of_trail}
use Rattle.cell_world.specs.Plain.{Connections}
use Rattle.cell_world.specs.Sound.{Sound}
use Rattle.plain_model.specs.Timelines.{Timeline, Happened, Entered, happened_of, history_of, written_of}
use Rattle.plain_model.specs.Legal.{AllGoing, KeepsPromises, AreNamed}
use Rattle.plain_model.specs.Written.{Mode, EachReply, Summary, summary, AllWritten}
use Rattle.plain_model.specs.ByMoments.{RunsByMoments}
use Rattle.plain_model.specs.Running.{AllSound, Running, Owing}
use Rattle.plain_model.proofs.Moments.{Fits, fits_of, now_of, now_next, image_fits}
use Rattle.plain_model.proofs.LegalAtMoments.{legal_by_moments}
use Rattle.plain_model.proofs.WrittenAtMoments.{written_by_moments, all_by_moments}

sound_fits : (trail : Trail) (t0 : ℕ) (past : Timeline) → Fits trail t0 past → AllSound (image_at trail t0) past → (t : ℕ) → t0 ≤ t → t ≤ now_of t0 past → Sound (image_at trail t)
sound_fits trail t0 [] fits all t lo hi = let e : t0 ≡ t = omega (arith, lo, hi) in subst (λ m. Sound (image_at trail m)) e all
sound_fits trail t0 (Entered e ∷ past) fits all t lo hi = sound_fits trail t0 past fits all t lo hi
sound_fits trail t0 (Happened h ∷ past) fits all t lo hi = ⊎_elim
    (λ small. sound_fits trail t0 past fits.0 all.1 t lo (omega (arith, small)))
    (λ big. let e : now_of t0 (Happened h ∷ past) ≡ t = omega (arith, big, hi, now_next t0 past h) in
    subst (λ m. Sound (image_at trail m)) e (subst Sound (sym (image_fits trail t0 (Happened h ∷ past) fits)) all.0))
    (cases_lt t (now_of t0 past + 1))

pub sound_by_moments : (trail : Trail) (t0 : ℕ) (past : Timeline) → t0 ≤ end_of_trail trail → happened_of past ≡ drop t0 trail.happened → AllSound (image_at trail t0) past → (t : ℕ) → t0 ≤ t → t ≤ end_of_trail trail → Sound (image_at trail t)
sound_by_moments trail t0 past le happened all t lo hi =
    let now : now_of t0 past ≡ end_of_trail trail = omega (arith, le, ap length happened, length-drop t0 trail.happened) in
    sound_fits trail t0 past (fits_of trail t0 past [] (append-nil (happened_of past) ∙ happened)) all t lo (omega (arith, hi, now))

pub runs_by_moments : (mode : Mode) (trail : Trail) (t0 : ℕ) (going : AllGoing) (past : Timeline) (connections : Connections) → t0 ≤ end_of_trail trail → happened_of past ≡ drop t0 trail.happened
    → Running t0 (image_at trail t0) mode past connections → KeepsPromises going (history_of past) → AreNamed going past [] → RunsByMoments mode trail t0 going (history_of past)
runs_by_moments mode trail t0 going past connections le happened run promises named = record {
  sound = sound_by_moments trail t0 past le happened run.sound;
  legal = legal_by_moments trail t0 going (history_of past) le (record {
    timeline = past;
    happened = happened;
    entries = refl;
    connections = connections;
    unfolds = run.unfolds;
    stands = run.exact;
    none_owed = run.none_owed;
    promises = promises;
    named = named;
  });
  written = written_by_moments mode trail t0 past connections le run.unfolds happened run.was_written run.written;
}

-- where nothing is left to write
pub all_lines_written : (tagged : Bool) (trail : Trail) (t0 : ℕ) (past : Timeline) (connections : Connections) → t0 ≤ end_of_trail trail → happened_of past ≡ drop t0 trail.happened
    → Owing t0 (image_at trail t0) (EachReply tagged) past connections [] → AllWritten (EachReply tagged) trail t0 (history_of past)
all_lines_written tagged trail t0 past connections le happened owing = all_by_moments (EachReply tagged) trail t0 past le happened (sym (append-nil (written_of past)) ∙ owing.owes)

-- where the summary was written
pub summary_written : (trail : Trail) (t0 : ℕ) (past : Timeline) (connections : Connections) → t0 ≤ end_of_trail trail → happened_of (Happened (Wrote (summary (history_of past))) ∷ past) ≡ drop t0 trail.happened
    → Owing t0 (image_at trail t0) Summary past connections [] → AllWritten Summary trail t0 (history_of past)
summary_written trail t0 past connections le happened owing =
    all_by_moments Summary trail t0 (Happened (Wrote (summary (history_of past))) ∷ past) le happened (ap (λ bs. bs ++ summary (history_of past)) owing.owes.0)
