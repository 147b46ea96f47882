-- What is written so at each moment is written so in the timeline.
use Rattle.std.proofs.Common.{◌≡◌, ◌⊎◌, inl, inr, ℕ, ◌+◌, ◌≤◌, ◌<◌, Bool, refl, sym, ap, ◌∙◌, subst, List, [], ◌∷◌, ◌++◌, length, arith, ⊎_elim}
use Rattle.std.proofs.lemmas.List.{append-nil, append_assoc, length-drop}
use Rattle.std.proofs.lemmas.Bool.{cases_lt}
use Rattle.std.proofs.lemmas.Grind.{flat_map-append}
use Rattle.cell_world.specs.Texts.{Text}
use Rattle.cell_world.specs.Images.{Trail, image_at, end_of_trail, bytes_between}
use Rattle.cell_world.specs.Plain.{Connections}
use Rattle.plain_model.specs.declared.history.Entry.{Entry}
use Rattle.plain_model.specs.Timelines.{Timeline, Happened, Entered, happened_of, history_of, written_of}
use Rattle.plain_model.specs.Lines.{lines, entry_text}
use Rattle.plain_model.specs.Legal.{Unfolds, AllGoing, Legal}
use Rattle.plain_model.specs.Written.{Mode, EachReply, Summary, summary, all_lines, IsPrefixOf, last_moment, by_moment, without_last, LinesAt, SummaryAt, WrittenAt, WrittenByMoments, AllWritten, surely_written, LinesSoFar, WrittenSoFar, IsQuietAt, WasWritten}
use Rattle.plain_model.specs.ByMoments.{from_moment}
use Rattle.plain_model.proofs.Moments.{by_moment-later, last_moment_push, Fits, fits_of, now_of, now_next, all_by_now}
use Rattle.plain_model.proofs.WrittenAtMoments.{bytes_now, surely, written_by_moments, all_by_moments}
use Rattle.plain_model.proofs.RunLaws.{surely_front}

-- of two fronts of a text the shorter is a front of the longer
prefix_of_prefix : (a b whole : Text) → IsPrefixOf a whole → IsPrefixOf b whole → length a ≤ length b → IsPrefixOf a b
prefix_of_prefix [] b whole p q le = (b, refl)
prefix_of_prefix (x ∷ a) [] whole p q le = absurd (omega (arith, le))
prefix_of_prefix (x ∷ a) (y ∷ b) [] p q le = absurd cc
prefix_of_prefix (x ∷ a) (y ∷ b) (z ∷ whole) p q le =
    let r : IsPrefixOf a b = prefix_of_prefix a b whole (p.0, tail_is x z (a ++ p.0) whole p.1) (q.0, tail_is y z (b ++ q.0) whole q.1) (omega (arith, le)) in
    (r.0, ap (λ v. v ∷ (a ++ r.0)) (head_is x z (a ++ p.0) whole p.1 ∙ sym (head_is y z (b ++ q.0) whole q.1)) ∙ ap (λ bs. y ∷ bs) r.1)
  where
    head_is : (u v : ℕ) (us vs : Text) → u ∷ us ≡ v ∷ vs → u ≡ v
    head_is u v us vs e = cc

    tail_is : (u v : ℕ) (us vs : Text) → u ∷ us ≡ v ∷ vs → us ≡ vs
    tail_is u v us vs e = cc

prefix_on : (a b c : Text) → IsPrefixOf a b → IsPrefixOf b c → IsPrefixOf a c
prefix_on a b c p q = (p.0 ++ q.0, sym (append_assoc a p.0 q.0) ∙ ap (λ bs. bs ++ q.0) p.1 ∙ q.1)

-- the later entries come after now
abbrev Later : ℕ → ℕ → List Entry → List Entry → Type 0
Later t0 now later history = (later ≡ []) ⊎ (now ≤ last_moment t0 history)

module _ (trail : Trail) (t0 : ℕ) (history : List Entry) where
  -- ---- the lines of each reply

  lines_so_far : (tagged : Bool) (past : Timeline) (later : List Entry) → history_of past ++ later ≡ history → Fits trail t0 past → by_moment (now_of t0 past) history ≡ history_of past
      → LinesAt tagged history (now_of t0 past) (bytes_between trail t0 (now_of t0 past)) → LinesSoFar tagged past
  lines_so_far tagged past later whole fits by w =
      let bytes : bytes_between trail t0 (now_of t0 past) ≡ written_of past = bytes_now trail t0 past fits in
      let front : IsPrefixOf (written_of past) (lines tagged history) = subst (λ (bs : Text). IsPrefixOf bs (lines tagged history)) bytes w.front in
      let part : IsPrefixOf (lines tagged (history_of past)) (lines tagged history) = (lines tagged later, sym (flat_map-append (entry_text tagged) (history_of past) later) ∙ ap (lines tagged) whole) in
      record {
        enough = prefix_of_prefix (lines tagged (surely_written past)) (written_of past) (lines tagged history) (prefix_on (lines tagged (surely_written past)) (lines tagged (history_of past)) (lines tagged history) (surely_front tagged past) part) front
            (omega (arith, w.least, ap length bytes, ap (λ es. length (lines tagged (without_last es))) by, ap length (surely tagged past)));
        no_more = prefix_of_prefix (written_of past) (lines tagged (history_of past)) (lines tagged history) front part
            (omega (arith, w.most, ap length bytes, ap (λ es. length (lines tagged es)) by));
      }

  -- ---- the summary

  summary_so_far : (past : Timeline) (later : List Entry) → history_of past ++ later ≡ history → Fits trail t0 past → Later t0 (now_of t0 past) later history
      → SummaryAt t0 history (now_of t0 past) (bytes_between trail t0 (now_of t0 past)) → IsPrefixOf (written_of past) (summary (history_of past))
  summary_so_far past later whole fits l w =
      let bytes : bytes_between trail t0 (now_of t0 past) ≡ written_of past = bytes_now trail t0 past fits in
      let none : bytes_between trail t0 (now_of t0 past) ≡ [] → IsPrefixOf (written_of past) (summary (history_of past)) = λ q. (summary (history_of past), ap (λ bs. bs ++ summary (history_of past)) (sym bytes ∙ q)) in
      ⊎_elim
      (λ small. none (w.quiet (omega (arith, small))))
      (λ big. ⊎_elim
      (λ last. let same : history ≡ history_of past = sym whole ∙ ap (λ es. history_of past ++ es) last ∙ append-nil (history_of past) in
      subst (λ (bs : Text). IsPrefixOf bs (summary (history_of past))) bytes (subst (λ (es : List Entry). IsPrefixOf (bytes_between trail t0 (now_of t0 past)) (summary es)) same (w.front big)))
      (λ more. none (w.quiet more)) l)
      (cases_lt (now_of t0 past) (last_moment t0 history))

  -- ---- in both modes

  so_far : (mode : Mode) (past : Timeline) (later : List Entry) → history_of past ++ later ≡ history → Fits trail t0 past → Later t0 (now_of t0 past) later history → by_moment (now_of t0 past) history ≡ history_of past
      → WrittenAt mode trail t0 history (now_of t0 past) → WrittenSoFar mode past
  so_far (EachReply tagged) past later whole fits l by w = lines_so_far tagged past later whole fits by w
  so_far Summary past later whole fits l by w = summary_so_far past later whole fits l w

  -- nothing was written when an entry was made
  quiet_so_far : (mode : Mode) (past : Timeline) → Fits trail t0 past → now_of t0 past ≤ last_moment t0 history → WrittenAt mode trail t0 history (now_of t0 past) → IsQuietAt mode past
  quiet_so_far (EachReply tagged) past fits le w = tt
  quiet_so_far Summary past fits le w = sym (bytes_now trail t0 past fits) ∙ w.quiet le

  was_so : (mode : Mode) (past : Timeline) (cs : Connections) (later : List Entry) → Unfolds t0 (image_at trail t0) past cs → history_of past ++ later ≡ history → Fits trail t0 past → Later t0 (now_of t0 past) later history
      → ((t : ℕ) → t < now_of t0 past → by_moment t history ≡ by_moment t (history_of past)) → ((t : ℕ) → t0 ≤ t → t ≤ now_of t0 past → WrittenAt mode trail t0 history t) → WasWritten mode past
  was_so mode [] cs later u whole fits l by w = tt
  was_so mode (Entered e ∷ past) cs later u whole fits l by w =
      let last : now_of t0 past ≤ last_moment t0 history = ⊎_elim
      (λ none. omega (arith, u.2.moment, ap (last_moment t0) (sym whole ∙ ap (λ es. (history_of past ++ e ∷ []) ++ es) none ∙ append-nil (history_of past ++ e ∷ [])) ∙ last_moment_push t0 (history_of past) e))
      (λ more. more) l in (
        was_so mode past u.0 (e ∷ later) u.1 (sym (append_assoc (history_of past) (e ∷ []) later) ∙ whole) fits (inr last) (λ t lt. by t lt ∙ by_moment-later t (history_of past) e (omega (arith, lt, u.2.moment))) w,
        quiet_so_far mode past fits last (w (now_of t0 past) (omega arith) (omega arith)),
      )
  was_so mode (Happened h ∷ past) cs later u whole fits l by w =
      let next : now_of t0 (Happened h ∷ past) ≡ now_of t0 past + 1 = now_next t0 past h in
      let before : Later t0 (now_of t0 past) later history = ⊎_elim (λ none. inl none) (λ more. inr (omega (arith, more, next))) l in (
        was_so mode past cs later u.0 whole fits.0 before (λ t lt. by t (omega (arith, lt, next))) (λ t lo hi. w t lo (omega (arith, hi, next))),
        so_far mode past later whole fits.0 before (by (now_of t0 past) (omega (arith, next)) ∙ all_by_now trail t0 past cs u.0 (now_of t0 past) (omega arith)) (w (now_of t0 past) (omega arith) (omega (arith, next))),
      )

-- ---- over a legal history

module _ (mode : Mode) (trail : Trail) (t0 : ℕ) (going : AllGoing) (history : List Entry) (le : t0 ≤ end_of_trail trail) (legal : Legal t0 (from_moment trail t0) going history) where
  abbrev past : Timeline
  past = legal.timeline

  end : now_of t0 past ≡ end_of_trail trail
  end = omega (arith, le, ap length legal.happened, length-drop t0 trail.happened)

  fits : Fits trail t0 past
  fits = fits_of trail t0 past [] (append-nil (happened_of past) ∙ legal.happened)

  written_at : WrittenByMoments mode trail t0 history → (t : ℕ) → t0 ≤ t → t ≤ now_of t0 past → WrittenAt mode trail t0 (history_of past) t
  written_at w t lo hi = subst (λ (es : List Entry). WrittenAt mode trail t0 es t) (sym legal.entries) (w t lo (omega (arith, hi, end)))

  pub written_before_from : WrittenByMoments mode trail t0 history → WasWritten mode past
  written_before_from w = was_so trail t0 (history_of past) mode past legal.connections [] legal.unfolds (append-nil (history_of past)) fits (inl refl) (λ t lt. refl) (written_at w)

  pub written_now_from : WrittenByMoments mode trail t0 history → WrittenSoFar mode past
  written_now_from w =
      so_far trail t0 (history_of past) mode past [] (append-nil (history_of past)) fits (inl refl) (all_by_now trail t0 past legal.connections legal.unfolds (now_of t0 past) (omega arith)) (written_at w (now_of t0 past) (omega arith) (omega arith))

  pub written_at_moments : WasWritten mode past → WrittenSoFar mode past → WrittenByMoments mode trail t0 history
  written_at_moments before now = subst (WrittenByMoments mode trail t0) legal.entries (written_by_moments mode trail t0 past legal.connections le legal.unfolds legal.happened before now)

  pub all_at_end : written_of past ≡ all_lines mode history → AllWritten mode trail t0 history
  all_at_end all = subst (AllWritten mode trail t0) legal.entries (all_by_moments mode trail t0 past le legal.happened (all ∙ ap (all_lines mode) (sym legal.entries)))

  pub all_at_end_from : AllWritten mode trail t0 history → written_of past ≡ all_lines mode history
  all_at_end_from all = sym (bytes_now trail t0 past fits) ∙ ap (bytes_between trail t0) end ∙ all
