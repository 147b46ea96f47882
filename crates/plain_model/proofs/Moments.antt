-- A timeline is what its moments tell.
use Rattle.std.proofs.Common.{◌≡◌, ℕ, zero, suc, ◌+◌, ◌≤◌, ◌<◌, refl, sym, ap, ◌∙◌, Some, List, [], ◌∷◌, ◌++◌, length, arith, take, drop, slice_get, cond, nat_le}
use Rattle.std.proofs.lemmas.List.{take-append-le, take_all, length_push, take_more, drop_all, drop-append-le, length-take-le, length-take, append_assoc, append-nil}
use Rattle.std.proofs.lemmas.List.Elements.{filter-append}
use Rattle.std.proofs.lemmas.Option.{get_or_from_slice_get}
use Rattle.std.proofs.lemmas.Bool.{le-leb, lt-leb}
use Rattle.cell_world.specs.Images.{Image, Happening, after_one, after_all, Trail, image_at, stretch}
use Rattle.cell_world.specs.Plain.{Connections}
use Rattle.cell_world.specs.Meaning.{meaning}
use Rattle.plain_model.specs.declared.history.Entry.{Entry}
use Rattle.plain_model.specs.Timelines.{Timeline, Happened, Entered, image_of, facts_of, happened_of, history_of}
use Rattle.plain_model.specs.Legal.{Unfolds}
use Rattle.plain_model.specs.Written.{last_moment, by_moment}
use Rattle.plain_model.specs.ByMoments.{moment_of, with_happened, woven, timeline_at}

-- ---- lists

module _ {X : Type 0} where
  pub get_left : (xs ys : List X) (i : ℕ) → i < length xs → slice_get (xs ++ ys) i ≡ slice_get xs i
  get_left [] ys i lt = absurd (omega (arith, lt))
  get_left (x ∷ xs) ys zero lt = refl
  get_left (x ∷ xs) ys (suc i) lt = get_left xs ys i (omega (arith, lt))

  pub get_mid : (xs ys : List X) (y : X) → slice_get (xs ++ y ∷ ys) (length xs) ≡ Some y
  get_mid [] ys y = refl
  get_mid (x ∷ xs) ys y = get_mid xs ys y

  pub get_within : (xs : List X) (i : ℕ) (x : X) → slice_get xs i ≡ Some x → i < length xs
  get_within [] i x at = absurd cc
  get_within (y ∷ ys) zero x at = omega arith
  get_within (y ∷ ys) (suc i) x at = omega (arith, get_within ys i x at)

  pub get_drop : (n : ℕ) (xs : List X) (i : ℕ) → slice_get (drop n xs) i ≡ slice_get xs (n + i)
  get_drop zero xs i = let e : i ≡ zero + i = omega arith in ap (slice_get xs) e
  get_drop (suc n) [] i = refl
  get_drop (suc n) (x ∷ xs) i = let e : suc (n + i) ≡ suc n + i = omega arith in get_drop n xs i ∙ ap (slice_get (x ∷ xs)) e

  pub take_next : (xs : List X) (i : ℕ) (x : X) → slice_get xs i ≡ Some x → take (i + 1) xs ≡ take i xs ++ x ∷ []
  take_next xs i x at = take_more xs i x (get_within xs i x at) ∙ ap (λ y. take i xs ++ y ∷ []) (get_or_from_slice_get xs i x x at)

  pub take_push : (xs : List X) (x : X) → take (length xs + 1) (xs ++ x ∷ []) ≡ xs ++ x ∷ []
  take_push xs x = take_all (length xs + 1) (xs ++ x ∷ []) (omega (arith, length_push xs x))

-- ---- entries by moments

pub last_moment_push : (t : ℕ) (es : List Entry) (e : Entry) → last_moment t (es ++ e ∷ []) ≡ e.moment
last_moment_push t [] e = refl
last_moment_push t (x ∷ es) e = last_moment_push x.moment es e

pub moment_early : (t0 : ℕ) (es : List Entry) (e : Entry) (i : ℕ) → i ≤ length es → moment_of t0 (es ++ e ∷ []) i ≡ moment_of t0 es i
moment_early t0 es e i le = ap (last_moment t0) (take-append-le i es (e ∷ []) le)

pub moment_last : (t0 : ℕ) (es : List Entry) (e : Entry) → moment_of t0 (es ++ e ∷ []) (length es + 1) ≡ e.moment
moment_last t0 es e = ap (last_moment t0) (take_push es e) ∙ last_moment_push t0 es e

pub moment_end : (t0 : ℕ) (es : List Entry) → moment_of t0 es (length es) ≡ last_moment t0 es
moment_end t0 es = ap (last_moment t0) (take_all (length es) es (omega arith))

pub by_moment-later : (t : ℕ) (entries : List Entry) (entry : Entry) → t < entry.moment → by_moment t (entries ++ entry ∷ []) ≡ by_moment t entries
by_moment-later t entries entry later =
    filter-append (λ (e : Entry). nat_le e.moment t) entries (entry ∷ []) ∙ ap (λ b. by_moment t entries ++ cond b (entry ∷ []) []) (lt-leb entry.moment t later) ∙ append-nil (by_moment t entries)

pub by_moment-push : (t : ℕ) (entries : List Entry) (entry : Entry) → entry.moment ≤ t → by_moment t entries ≡ entries → by_moment t (entries ++ entry ∷ []) ≡ entries ++ entry ∷ []
by_moment-push t entries entry by all =
    filter-append (λ (e : Entry). nat_le e.moment t) entries (entry ∷ []) ∙ ap (λ es. es ++ cond (nat_le entry.moment t) (entry ∷ []) []) all ∙ ap (λ b. entries ++ cond b (entry ∷ []) []) (le-leb entry.moment t by)

-- ---- the trail

pub after_push : (image : Image) (hs : List Happening) (h : Happening) → after_all image (hs ++ h ∷ []) ≡ after_one (after_all image hs) h
after_push image [] h = refl
after_push image (g ∷ hs) h = after_push (after_one image g) hs h

pub with_happened_push : (past : Timeline) (hs : List Happening) (h : Happening) → with_happened past (hs ++ h ∷ []) ≡ Happened h ∷ with_happened past hs
with_happened_push past [] h = refl
with_happened_push past (g ∷ hs) h = with_happened_push (Happened g ∷ past) hs h

module _ (trail : Trail) where
  pub image_more : (n : ℕ) (h : Happening) → slice_get trail.happened n ≡ Some h → image_at trail (n + 1) ≡ after_one (image_at trail n) h
  image_more n h at = ap (after_all trail.start) (take_next trail.happened n h at) ∙ after_push trail.start (take n trail.happened) h

  pub stretch_next : (a b : ℕ) (h : Happening) → a ≤ b → slice_get trail.happened b ≡ Some h → stretch trail a (b + 1) ≡ stretch trail a b ++ h ∷ []
  stretch_next a b h le at = ap (drop a) (take_next trail.happened b h at)
      ∙ drop-append-le a (take b trail.happened) (h ∷ []) (omega (arith, le, length-take-le b trail.happened (omega (arith, get_within trail.happened b h at))))

  pub stretch_none : (a : ℕ) → stretch trail a a ≡ []
  stretch_none a = drop_all a (take a trail.happened) (omega (arith, length-take a trail.happened))

  pub woven_next : (past : Timeline) (t : ℕ) (es : List Entry) (m : ℕ) (h : Happening) → last_moment t es ≤ m → slice_get trail.happened m ≡ Some h → woven trail past t es (m + 1) ≡ Happened h ∷ woven trail past t es m
  woven_next past t [] m h le at = ap (with_happened past) (stretch_next t m h le at) ∙ with_happened_push past (stretch trail t m) h
  woven_next past t (e ∷ es) m h le at = woven_next (Entered e ∷ with_happened past (stretch trail t e.moment)) e.moment es m h le at

  pub woven_entry : (past : Timeline) (t : ℕ) (es : List Entry) (e : Entry) (m : ℕ) → woven trail past t (es ++ e ∷ []) m ≡ with_happened (Entered e ∷ woven trail past t es e.moment) (stretch trail e.moment m)
  woven_entry past t [] e m = refl
  woven_entry past t (x ∷ es) e m = woven_entry (Entered x ∷ with_happened past (stretch trail t x.moment)) x.moment es e m

-- the timeline's things are those of the trail from moment t0 on
abbrev pub Fits : Trail → ℕ → Timeline → Type 0
Fits trail t0 [] = Unit {0}
Fits trail t0 (Happened h ∷ past) = Fits trail t0 past × (slice_get trail.happened (t0 + length (happened_of past)) ≡ Some h)
Fits trail t0 (Entered e ∷ past) = Fits trail t0 past

-- the moment that is now
abbrev pub now_of : ℕ → Timeline → ℕ
now_of t0 past = t0 + length (happened_of past)

pub now_next : (t0 : ℕ) (past : Timeline) (h : Happening) → now_of t0 (Happened h ∷ past) ≡ now_of t0 past + 1
now_next t0 past h = omega (arith, length_push (happened_of past) h)

pub fits_of : (trail : Trail) (t0 : ℕ) (past : Timeline) (later : List Happening) → happened_of past ++ later ≡ drop t0 trail.happened → Fits trail t0 past
fits_of trail t0 [] later same = tt
fits_of trail t0 (Entered e ∷ past) later same = fits_of trail t0 past later same
fits_of trail t0 (Happened h ∷ past) later same =
    let longer : happened_of past ++ h ∷ later ≡ drop t0 trail.happened = sym (append_assoc (happened_of past) (h ∷ []) later) ∙ same in (
      fits_of trail t0 past (h ∷ later) longer,
      sym (get_drop t0 trail.happened (length (happened_of past))) ∙ ap (λ hs. slice_get hs (length (happened_of past))) (sym longer) ∙ get_mid (happened_of past) later h,
    )

module _ (trail : Trail) (t0 : ℕ) where
  -- the image now
  pub image_fits : (past : Timeline) → Fits trail t0 past → image_at trail (now_of t0 past) ≡ image_of (image_at trail t0) past
  image_fits [] fits = let e : t0 + 0 ≡ t0 = omega arith in ap (image_at trail) e
  image_fits (Entered e ∷ past) fits = image_fits past fits
  image_fits (Happened h ∷ past) fits = ap (image_at trail) (now_next t0 past h) ∙ image_more trail (now_of t0 past) h fits.1 ∙ ap (λ i. after_one i h) (image_fits past fits.0)

  pub last_le : (past : Timeline) (cs : Connections) → Unfolds t0 (image_at trail t0) past cs → last_moment t0 (history_of past) ≤ now_of t0 past
  last_le [] cs u = omega arith
  last_le (Happened h ∷ past) cs u = omega (arith, now_next t0 past h, last_le past cs u.0)
  last_le (Entered e ∷ past) cs u = omega (arith, last_moment_push t0 (history_of past) e, u.2.moment)

  -- what the stores stood for at the latest entry's moment
  pub facts_fit : (past : Timeline) (cs : Connections) → Unfolds t0 (image_at trail t0) past cs → Fits trail t0 past → meaning (image_at trail (last_moment t0 (history_of past))) ≡ facts_of (image_at trail t0) past
  facts_fit [] cs u fits = refl
  facts_fit (Happened h ∷ past) cs u fits = facts_fit past cs u.0 fits.0
  facts_fit (Entered e ∷ past) cs u fits = ap (λ m. meaning (image_at trail m)) (last_moment_push t0 (history_of past) e ∙ u.2.moment) ∙ ap meaning (image_fits past fits)

  -- the moments tell the timeline
  pub weaves : (past : Timeline) (cs : Connections) → Unfolds t0 (image_at trail t0) past cs → Fits trail t0 past → timeline_at trail t0 (history_of past) (now_of t0 past) ≡ past
  weaves [] cs u fits = let e : t0 + 0 ≡ t0 = omega arith in ap (λ m. with_happened [] (stretch trail t0 m)) e ∙ ap (with_happened []) (stretch_none trail t0)
  weaves (Happened h ∷ past) cs u fits = ap (timeline_at trail t0 (history_of past)) (now_next t0 past h) ∙ woven_next trail [] t0 (history_of past) (now_of t0 past) h (last_le past cs u.0) fits.1 ∙ ap (λ p. Happened h ∷ p) (weaves past cs u.0 fits.0)
  weaves (Entered e ∷ past) cs u fits = woven_entry trail [] t0 (history_of past) e (now_of t0 past)
      ∙ ap (λ m. with_happened (Entered e ∷ timeline_at trail t0 (history_of past) e.moment) (stretch trail e.moment m)) (sym u.2.moment)
      ∙ ap (with_happened (Entered e ∷ timeline_at trail t0 (history_of past) e.moment)) (stretch_none trail e.moment)
      ∙ ap (λ m. Entered e ∷ timeline_at trail t0 (history_of past) m) u.2.moment ∙ ap (λ p. Entered e ∷ p) (weaves past u.0 u.1 fits)

  -- by now all entries are made
  pub all_by_now : (past : Timeline) (cs : Connections) → Unfolds t0 (image_at trail t0) past cs → (t : ℕ) → now_of t0 past ≤ t → by_moment t (history_of past) ≡ history_of past
  all_by_now [] cs u t le = refl
  all_by_now (Happened h ∷ past) cs u t le = all_by_now past cs u.0 t (omega (arith, now_next t0 past h, le))
  all_by_now (Entered e ∷ past) cs u t le = by_moment-push t (history_of past) e (omega (arith, u.2.moment, le)) (all_by_now past u.0 u.1 t le)
