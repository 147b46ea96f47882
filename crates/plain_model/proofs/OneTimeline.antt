-- The timeline that a trail and a history have: there is but one, and it goes on as they do.
use Rattle.std.proofs.Common.{◌≡◌, ℕ, ◌+◌, ◌≤◌, sym, ap, ◌∙◌, List, [], ◌++◌, ◌∷◌, length, arith, drop}
use Rattle.std.proofs.lemmas.List.{append-nil, length-drop, drop-append-le}
use Rattle.cell_world.specs.Images.{Happening, Trail, image_at, end_of_trail, extended}
use Rattle.plain_model.specs.declared.history.Entry.{Entry}
use Rattle.plain_model.specs.Timelines.{Timeline, Happened, image_of, happened_of, history_of}
use Rattle.plain_model.specs.Legal.{AllGoing, Legal}
use Rattle.plain_model.specs.ByMoments.{from_moment, timeline_at}
use Rattle.plain_model.proofs.Moments.{Fits, fits_of, now_of, image_fits, weaves}

pub one_timeline : (trail : Trail) (t0 : ℕ) (going : AllGoing) (history : List Entry) → t0 ≤ end_of_trail trail → (legal : Legal t0 (from_moment trail t0) going history) → legal.timeline ≡ timeline_at trail t0 history (end_of_trail trail)
one_timeline trail t0 going history le legal =
    let past : Timeline = legal.timeline in
    let fits : Fits trail t0 past = fits_of trail t0 past [] (append-nil (happened_of past) ∙ legal.happened) in
    let now : now_of t0 past ≡ end_of_trail trail = omega (arith, le, ap length legal.happened, length-drop t0 trail.happened) in
    sym (ap (λ es. timeline_at trail t0 es (end_of_trail trail)) (sym legal.entries) ∙ ap (timeline_at trail t0 (history_of past)) (sym now) ∙ weaves trail t0 past legal.connections legal.unfolds fits)

-- the trail goes on with one thing more
pub stretch_grows : (trail : Trail) (t0 : ℕ) (past : Timeline) (h : Happening) → t0 ≤ end_of_trail trail → happened_of past ≡ drop t0 trail.happened → happened_of (Happened h ∷ past) ≡ drop t0 (extended trail h).happened
stretch_grows trail t0 past h le happened = ap (λ hs. hs ++ h ∷ []) happened ∙ sym (drop-append-le t0 trail.happened (h ∷ []) le)

-- the moment that is now is the end of the trail
pub moment_now : (trail : Trail) (t0 : ℕ) (past : Timeline) → t0 ≤ end_of_trail trail → happened_of past ≡ drop t0 trail.happened → t0 + length (happened_of past) ≡ end_of_trail trail
moment_now trail t0 past le happened = omega (arith, le, ap length happened, length-drop t0 trail.happened)

-- and the stores are its last image
pub image_now : (trail : Trail) (t0 : ℕ) (past : Timeline) → t0 ≤ end_of_trail trail → happened_of past ≡ drop t0 trail.happened → image_of (image_at trail t0) past ≡ image_at trail (end_of_trail trail)
image_now trail t0 past le happened = sym (image_fits trail t0 past (fits_of trail t0 past [] (append-nil (happened_of past) ∙ happened))) ∙ ap (image_at trail) (moment_now trail t0 past le happened)
