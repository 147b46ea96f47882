-- What is written in a timeline is written so at each of its moments.
use Rattle.std.proofs.Common.{◌≡◌, ℕ, ◌+◌, ◌≤◌, ◌<◌, refl, sym, ap, ◌∙◌, subst, Some, None, Option, is_some, Bool, true, false, ◌||◌, List, [], ◌∷◌, ◌++◌, length, arith, drop, ⊎_elim, cond}
use Rattle.std.proofs.lemmas.List.{append-nil, append_assoc, length-append, length-drop}
use Rattle.std.proofs.lemmas.Bool.{cases_lt}
use Rattle.std.proofs.lemmas.Grind.{flat_map-append}
use Rattle.cell_world.specs.Texts.{Text}
use Rattle.cell_world.specs.Images.{Happening, Committed, Wrote, Reopened, Trail, image_at, end_of_trail, stretch, written, bytes_between}
use Rattle.cell_world.specs.Plain.{Connections}
use Rattle.plain_model.specs.declared.replies.Reply.{Reply}
use Rattle.plain_model.specs.declared.history.Entry.{Entry}
use Rattle.plain_model.specs.Timelines.{Timeline, Happened, Entered, happened_of, history_of, written_of}
use Rattle.plain_model.specs.Lines.{lines, entry_text}
use Rattle.plain_model.specs.Legal.{Unfolds}
use Rattle.plain_model.specs.Written.{Mode, EachReply, Summary, summary, all_lines, IsPrefixOf, last_moment, by_moment, some_answered, without_last, LinesAt, SummaryAt, WrittenAt, WrittenByMoments, AllWritten, surely_written, LinesSoFar, WrittenSoFar, WasWritten}
use Rattle.plain_model.specs.Running.{bytes_of}
use Rattle.plain_model.proofs.Moments.{by_moment-later, last_moment_push, Fits, fits_of, now_of, now_next, last_le, stretch_next, stretch_none, all_by_now}

-- ---- bytes

written_push : (hs : List Happening) (h : Happening) → written (hs ++ h ∷ []) ≡ written hs ++ bytes_of h
written_push [] (Wrote bytes) = append-nil bytes
written_push [] (Committed place change took) = refl
written_push [] (Reopened place cells) = refl
written_push (Wrote bytes ∷ hs) h = ap (λ bs. bytes ++ bs) (written_push hs h) ∙ sym (append_assoc bytes (written hs) (bytes_of h))
written_push (Committed place change took ∷ hs) h = written_push hs h
written_push (Reopened place cells ∷ hs) h = written_push hs h

pub written_of_next : (h : Happening) (past : Timeline) → written_of (Happened h ∷ past) ≡ written_of past ++ bytes_of h
written_of_next (Wrote bytes) past = refl
written_of_next (Committed place change took) past = sym (append-nil (written_of past))
written_of_next (Reopened place cells) past = sym (append-nil (written_of past))

-- the bytes up to now
pub bytes_now : (trail : Trail) (t0 : ℕ) (past : Timeline) → Fits trail t0 past → bytes_between trail t0 (now_of t0 past) ≡ written_of past
bytes_now trail t0 [] fits = let e : t0 + 0 ≡ t0 = omega arith in ap (λ m. written (stretch trail t0 m)) e ∙ ap written (stretch_none trail t0)
bytes_now trail t0 (Entered e ∷ past) fits = bytes_now trail t0 past fits
bytes_now trail t0 (Happened h ∷ past) fits =
    ap (λ m. written (stretch trail t0 m)) (now_next t0 past h) ∙ ap written (stretch_next trail t0 (now_of t0 past) h (omega arith) fits.1) ∙ written_push (stretch trail t0 (now_of t0 past)) h
    ∙ ap (λ bs. bs ++ bytes_of h) (bytes_now trail t0 past fits.0) ∙ sym (written_of_next h past)

-- ---- all entries but the last answered

some_at_end : (entries : List Entry) (entry : Entry) (reply : Reply) → entry.reply ≡ Some reply → some_answered (entries ++ entry ∷ []) ≡ true
some_at_end [] entry reply is = ap (λ r. is_some r || false) is
some_at_end (e ∷ es) entry reply is = ap (λ b. is_some e.reply || b) (some_at_end es entry reply is) ∙ either (is_some e.reply)
  where
    either : (b : Bool) → (b || true) ≡ true
    either true = refl
    either false = refl

without_last-push : (entries : List Entry) (entry : Entry) (reply : Reply) → entry.reply ≡ Some reply → without_last (entries ++ entry ∷ []) ≡ entries
without_last-push [] entry reply is = ap (λ r. cond (is_some r) [] (entry ∷ [])) is
without_last-push (e ∷ es) entry reply is =
    ap (λ b. cond b (e ∷ without_last (es ++ entry ∷ [])) (cond (is_some e.reply) (es ++ entry ∷ []) (e ∷ (es ++ entry ∷ [])))) (some_at_end es entry reply is)
    ∙ ap (λ xs. e ∷ xs) (without_last-push es entry reply is)

none_at_end : (entries : List Entry) (entry : Entry) → entry.reply ≡ None → some_answered (entries ++ entry ∷ []) ≡ some_answered entries
none_at_end [] entry is = ap (λ r. is_some r || false) is
none_at_end (e ∷ es) entry is = ap (λ b. is_some e.reply || b) (none_at_end es entry is)

pub nothing : (tagged : Bool) (entry : Entry) → entry.reply ≡ None → entry_text tagged entry ≡ []
nothing tagged entry is = grind (arith, is)

pub lines_none : (tagged : Bool) (entries : List Entry) (entry : Entry) → entry.reply ≡ None → lines tagged (entries ++ entry ∷ []) ≡ lines tagged entries
lines_none tagged entries entry is = flat_map-append (entry_text tagged) entries (entry ∷ []) ∙ ap (λ bs. lines tagged entries ++ (bs ++ [])) (nothing tagged entry is) ∙ append-nil (lines tagged entries)

without_last-none : (tagged : Bool) (entries : List Entry) (entry : Entry) → entry.reply ≡ None → lines tagged (without_last (entries ++ entry ∷ [])) ≡ lines tagged (without_last entries)
without_last-none tagged [] entry is = ap (λ r. lines tagged (cond (is_some r) [] (entry ∷ []))) is ∙ ap (λ bs. bs ++ []) (nothing tagged entry is)
without_last-none tagged (e ∷ es) entry is =
    ap (λ b. lines tagged (cond b (e ∷ without_last (es ++ entry ∷ [])) (cond (is_some e.reply) (es ++ entry ∷ []) (e ∷ (es ++ entry ∷ []))))) (none_at_end es entry is)
    ∙ by (some_answered es) (is_some e.reply) (without_last-none tagged es entry is)
  where
    by : (b c : Bool) → lines tagged (without_last (es ++ entry ∷ [])) ≡ lines tagged (without_last es) → lines tagged (cond b (e ∷ without_last (es ++ entry ∷ [])) (cond c (es ++ entry ∷ []) (e ∷ (es ++ entry ∷ [])))) ≡ lines tagged (cond b (e ∷ without_last es) (cond c es (e ∷ es)))
    by true c before = ap (λ bs. entry_text tagged e ++ bs) before
    by false true before = lines_none tagged es entry is
    by false false before = ap (λ bs. entry_text tagged e ++ bs) (lines_none tagged es entry is)

pub surely : (tagged : Bool) (past : Timeline) → lines tagged (without_last (history_of past)) ≡ lines tagged (surely_written past)
surely tagged [] = refl
surely tagged (Happened h ∷ past) = surely tagged past
surely tagged (Entered e ∷ past) = by e.reply refl (surely tagged past)
  where
    by : (r : Option Reply) → e.reply ≡ r → lines tagged (without_last (history_of past)) ≡ lines tagged (surely_written past) → lines tagged (without_last (history_of past ++ e ∷ [])) ≡ lines tagged (cond (is_some e.reply) (history_of past) (surely_written past))
    by (Some r) is before = ap (lines tagged) (without_last-push (history_of past) e r is) ∙ ap (λ r. lines tagged (cond (is_some r) (history_of past) (surely_written past))) (sym is)
    by None is before = without_last-none tagged (history_of past) e is ∙ before ∙ ap (λ r. lines tagged (cond (is_some r) (history_of past) (surely_written past))) (sym is)

-- ---- moment by moment

prefix_length : (front whole : Text) → IsPrefixOf front whole → length front ≤ length whole
prefix_length front whole p = omega (arith, length-append front p.0, ap length p.1)

-- a front of nothing is nothing
prefix_none : (front whole : Text) → IsPrefixOf front whole → whole ≡ [] → front ≡ []
prefix_none [] whole p is = refl
prefix_none (b ∷ bs) whole p is = let e : b ∷ bs ++ p.0 ≡ [] = p.1 ∙ is in absurd cc

module _ (trail : Trail) (t0 : ℕ) where
  -- the bytes up to a moment are a front of those up to now
  pub bytes_front : (past : Timeline) → Fits trail t0 past → (t : ℕ) → t0 ≤ t → t ≤ now_of t0 past → IsPrefixOf (bytes_between trail t0 t) (written_of past)
  bytes_front [] fits t lo hi = let e : t0 ≡ t = omega (arith, lo, hi) in ([], append-nil (bytes_between trail t0 t) ∙ ap (bytes_between trail t0) (sym e) ∙ ap written (stretch_none trail t0))
  bytes_front (Entered e ∷ past) fits t lo hi = bytes_front past fits t lo hi
  bytes_front (Happened h ∷ past) fits t lo hi = ⊎_elim
      (λ small. let p : IsPrefixOf (bytes_between trail t0 t) (written_of past) = bytes_front past fits.0 t lo (omega (arith, small)) in
      (p.0 ++ bytes_of h, sym (append_assoc (bytes_between trail t0 t) p.0 (bytes_of h)) ∙ ap (λ bs. bs ++ bytes_of h) p.1 ∙ sym (written_of_next h past)))
      (λ big. let at : t ≡ now_of t0 (Happened h ∷ past) = omega (arith, big, hi, now_next t0 past h) in
      ([], append-nil (bytes_between trail t0 t) ∙ ap (bytes_between trail t0) at ∙ bytes_now trail t0 (Happened h ∷ past) fits))
      (cases_lt t (now_of t0 past + 1))

  -- ---- the lines of each reply

  module _ (tagged : Bool) where
    -- now
    lines_now : (past : Timeline) → Fits trail t0 past → LinesSoFar tagged past → (t : ℕ) → t ≡ now_of t0 past → by_moment t (history_of past) ≡ history_of past → LinesAt tagged (history_of past) t (bytes_between trail t0 t)
    lines_now past fits w t at all =
        let bytes : bytes_between trail t0 t ≡ written_of past = ap (bytes_between trail t0) at ∙ bytes_now trail t0 past fits in
        record {
          front = subst (λ (bs : Text). IsPrefixOf bs (lines tagged (history_of past))) (sym bytes) w.no_more;
          most = omega (arith, ap length bytes, ap (λ es. length (lines tagged es)) all, prefix_length (written_of past) (lines tagged (history_of past)) w.no_more);
          least = omega (arith, ap length bytes, ap (λ es. length (lines tagged (without_last es))) all, ap length (surely tagged past), prefix_length (lines tagged (surely_written past)) (written_of past) w.enough);
        }

    -- before the moment of one more entry nothing of it counts
    lines_earlier : (history : List Entry) (e : Entry) (t : ℕ) → t < e.moment → LinesAt tagged history t (bytes_between trail t0 t) → LinesAt tagged (history ++ e ∷ []) t (bytes_between trail t0 t)
    lines_earlier history e t lt w =
        let before : by_moment t (history ++ e ∷ []) ≡ by_moment t history = by_moment-later t history e lt in
        record {
          front = (
            w.front.0 ++ lines tagged (e ∷ []),
            sym (append_assoc (bytes_between trail t0 t) w.front.0 (lines tagged (e ∷ []))) ∙ ap (λ bs. bs ++ lines tagged (e ∷ [])) w.front.1 ∙ sym (flat_map-append (entry_text tagged) history (e ∷ [])),
          );
          most = omega (arith, w.most, ap (λ es. length (lines tagged es)) before);
          least = omega (arith, w.least, ap (λ es. length (lines tagged (without_last es))) before);
        }

  -- ---- the summary

  -- at the moment of the last entry nothing was written
  quiet_last : (past : Timeline) (cs : Connections) → Unfolds t0 (image_at trail t0) past cs → WasWritten Summary past → now_of t0 past ≤ last_moment t0 (history_of past) → written_of past ≡ []
  quiet_last [] cs u w le = refl
  quiet_last (Happened h ∷ past) cs u w le = absurd (omega (arith, le, last_le trail t0 past cs u.0, now_next t0 past h))
  quiet_last (Entered e ∷ past) cs u w le = w.1

  -- now
  summary_now : (past : Timeline) (cs : Connections) → Unfolds t0 (image_at trail t0) past cs → Fits trail t0 past → WasWritten Summary past → IsPrefixOf (written_of past) (summary (history_of past)) → (t : ℕ) → t ≡ now_of t0 past
      → SummaryAt t0 (history_of past) t (bytes_between trail t0 t)
  summary_now past cs u fits before w t at =
      let bytes : bytes_between trail t0 t ≡ written_of past = ap (bytes_between trail t0) at ∙ bytes_now trail t0 past fits in
      record {
        quiet = λ early. bytes ∙ quiet_last past cs u before (omega (arith, early, at));
        front = λ late. subst (λ (bs : Text). IsPrefixOf bs (summary (history_of past))) (sym bytes) w;
      }

  -- nothing was written before an entry
  summary_earlier : (past : Timeline) (e : Entry) → Fits trail t0 past → written_of past ≡ [] → (t : ℕ) → t0 ≤ t → t < e.moment → e.moment ≡ now_of t0 past → SummaryAt t0 (history_of past ++ e ∷ []) t (bytes_between trail t0 t)
  summary_earlier past e fits quiet t lo hi at = record {
    quiet = λ early. prefix_none (bytes_between trail t0 t) (written_of past) (bytes_front past fits t lo (omega (arith, hi, at))) quiet;
    front = λ late. absurd (omega (arith, late, hi, last_moment_push t0 (history_of past) e));
  }

  -- ---- in both modes

  written_now : (mode : Mode) (past : Timeline) (cs : Connections) → Unfolds t0 (image_at trail t0) past cs → Fits trail t0 past → WasWritten mode past → WrittenSoFar mode past → (t : ℕ) → t ≡ now_of t0 past → WrittenAt mode trail t0 (history_of past) t
  written_now (EachReply tagged) past cs u fits before w t at = lines_now tagged past fits w t at (all_by_now trail t0 past cs u t (omega (arith, at)))
  written_now Summary past cs u fits before w t at = summary_now past cs u fits before w t at

  written_before : (mode : Mode) (past : Timeline) (cs : Connections) → Unfolds t0 (image_at trail t0) past cs → Fits trail t0 past → WasWritten mode past → (t : ℕ) → t0 ≤ t → t < now_of t0 past → WrittenAt mode trail t0 (history_of past) t
  written_before mode [] cs u fits w t lo hi = absurd (omega (arith, lo, hi))
  written_before (EachReply tagged) (Entered e ∷ past) cs u fits w t lo hi = lines_earlier tagged (history_of past) e t (omega (arith, hi, u.2.moment)) (written_before (EachReply tagged) past u.0 u.1 fits w.0 t lo hi)
  written_before Summary (Entered e ∷ past) cs u fits w t lo hi = summary_earlier past e fits w.1 t lo (omega (arith, hi, u.2.moment)) u.2.moment
  written_before mode (Happened h ∷ past) cs u fits w t lo hi = ⊎_elim
      (λ small. written_before mode past cs u.0 fits.0 w.0 t lo small)
      (λ big. written_now mode past cs u.0 fits.0 w.0 w.1 t (omega (arith, big, hi, now_next t0 past h)))
      (cases_lt t (now_of t0 past))

-- What is written in a timeline from t0 on is written so at each moment.
pub written_by_moments : (mode : Mode) (trail : Trail) (t0 : ℕ) (past : Timeline) (cs : Connections) → t0 ≤ end_of_trail trail → Unfolds t0 (image_at trail t0) past cs → happened_of past ≡ drop t0 trail.happened
    → WasWritten mode past → WrittenSoFar mode past → WrittenByMoments mode trail t0 (history_of past)
written_by_moments mode trail t0 past cs le u happened before now t lo hi =
    let fits : Fits trail t0 past = fits_of trail t0 past [] (append-nil (happened_of past) ∙ happened) in
    let end : now_of t0 past ≡ end_of_trail trail = omega (arith, le, ap length happened, length-drop t0 trail.happened) in
    ⊎_elim
    (λ small. written_before trail t0 mode past cs u fits before t lo small)
    (λ big. written_now trail t0 mode past cs u fits before now t (omega (arith, big, hi, end)))
    (cases_lt t (now_of t0 past))

-- What is written now is all that is written at the end.
pub all_by_moments : (mode : Mode) (trail : Trail) (t0 : ℕ) (past : Timeline) → t0 ≤ end_of_trail trail → happened_of past ≡ drop t0 trail.happened → written_of past ≡ all_lines mode (history_of past) → AllWritten mode trail t0 (history_of past)
all_by_moments mode trail t0 past le happened all =
    let end : now_of t0 past ≡ end_of_trail trail = omega (arith, le, ap length happened, length-drop t0 trail.happened) in
    ap (bytes_between trail t0) (sym end) ∙ bytes_now trail t0 past (fits_of trail t0 past [] (append-nil (happened_of past) ∙ happened)) ∙ all
