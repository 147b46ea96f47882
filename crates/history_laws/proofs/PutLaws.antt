-- That what was put stays put as the run goes on, for whatever it was put; and what was put was tried.
use Rattle.std.proofs.Common.{◌≡◌, inl, inr, ⊎_elim, ℕ, Bool, true, false, refl, sym, subst, List, [], ◌∷◌, ◌++◌}
use Rattle.std.specs.Prelude.{◌==◌}
use Rattle.std.specs.Bool.{MatchBool}
use Rattle.cell_world.specs.Lists.{SomeOf, IsOneOf}
use Rattle.cell_world.specs.Images.{Image, Place, Happening, Committed, Wrote, Reopened}
use Rattle.cell_world.specs.declared.operations.Op.{Op}
use Rattle.cell_world.specs.declared.changes.Edit.{Edit}
use Rattle.cell_world.proofs.ListLaws.{some_at, some_from, in_first, in_second}
use Rattle.plain_model.specs.declared.history.Entry.{Entry}
use Rattle.plain_model.specs.Timelines.{Timeline, Happened, Entered, image_of, history_of}
use Rattle.plain_model.specs.OnTrail.{logs_put, WasTried, WasPut}
use Rattle.history_laws.proofs.OpenLaws.{not_eqb}

module _ (start : Image) (session : ℕ) (P : Image → Op → Type 0) where
  pub put_now : (past : Timeline) (place : Place) (change : List Edit) (op : Op) → logs_put change ≡ op ∷ [] → P (image_of start past) op → WasPut start session P (Happened (Committed place change true) ∷ past)
  put_now past place change op puts here = inl (subst (SomeOf (P (image_of start past))) (sym puts) (inl here))

  pub put_happened : (past : Timeline) (h : Happening) → WasPut start session P past → WasPut start session P (Happened h ∷ past)
  put_happened past (Committed place change true) was = inr was
  put_happened past (Committed place change false) was = was
  put_happened past (Wrote bytes) was = was
  put_happened past (Reopened place cells) was = was

  pub put_entered : (past : Timeline) (e : Entry) → (e.session ≡ session → ⊥) → WasPut start session P past → WasPut start session P (Entered e ∷ past)
  put_entered past e other was = subst (λ b. MatchBool b ⊥ (WasPut start session P past)) (sym (not_eqb e.session session other)) was

  pub put_later : (later past : Timeline) → ((e : Entry) → IsOneOf (history_of later) e → e.session ≡ session → ⊥) → WasPut start session P past → WasPut start session P (later ++ past)
  put_later [] past others was = was
  put_later (Happened h ∷ later) past others was = put_happened (later ++ past) h (put_later later past others was)
  put_later (Entered e ∷ later) past others was =
      put_entered (later ++ past) e (others e (in_second (history_of later) (e ∷ []) e (inl refl))) (put_later later past (λ d one. others d (in_first (history_of later) (e ∷ []) d one)) was)

-- what was put for one purpose was put for a wider one
pub put_wider : (start : Image) (session : ℕ) (P Q : Image → Op → Type 0) (past : Timeline) → ((image : Image) (op : Op) → P image op → Q image op) → WasPut start session P past → WasPut start session Q past
put_wider start session P Q [] wider was = absurd was
put_wider start session P Q (Happened (Committed place change true) ∷ past) wider was = ⊎_elim
    (λ here. let s = some_at (P (image_of start past)) (logs_put change) here in inl (some_from (Q (image_of start past)) (logs_put change) s.0 s.1 (wider (image_of start past) s.0 s.2)))
    (λ before. inr (put_wider start session P Q past wider before)) was
put_wider start session P Q (Happened (Committed place change false) ∷ past) wider was = put_wider start session P Q past wider was
put_wider start session P Q (Happened (Wrote bytes) ∷ past) wider was = put_wider start session P Q past wider was
put_wider start session P Q (Happened (Reopened place cells) ∷ past) wider was = put_wider start session P Q past wider was
put_wider start session P Q (Entered e ∷ past) wider was = by (e.session == session) was (put_wider start session P Q past wider)
  where
    by : (b : Bool) → MatchBool b ⊥ (WasPut start session P past) → (WasPut start session P past → WasPut start session Q past) → MatchBool b ⊥ (WasPut start session Q past)
    by true was more = absurd was
    by false was more = more was

pub put_tried : (start : Image) (session : ℕ) (P : Image → Op → Type 0) (past : Timeline) → WasPut start session P past → WasTried start session P past
put_tried start session P [] was = absurd was
put_tried start session P (Happened (Committed place change true) ∷ past) was = ⊎_elim (λ here. inl here) (λ before. inr (put_tried start session P past before)) was
put_tried start session P (Happened (Committed place change false) ∷ past) was = inr (put_tried start session P past was)
put_tried start session P (Happened (Wrote bytes) ∷ past) was = put_tried start session P past was
put_tried start session P (Happened (Reopened place cells) ∷ past) was = put_tried start session P past was
put_tried start session P (Entered e ∷ past) was = by (e.session == session) was (put_tried start session P past)
  where
    by : (b : Bool) → MatchBool b ⊥ (WasPut start session P past) → (WasPut start session P past → WasTried start session P past) → MatchBool b ⊥ (WasTried start session P past)
    by true was more = absurd was
    by false was more = more was
