-- That what was tried stays tried as the run goes on, for whatever it was tried.
use Rattle.std.proofs.Common.{◌≡◌, inl, inr, ⊎_elim, ℕ, Bool, true, false, refl, sym, subst, List, [], ◌∷◌, ◌++◌}
use Rattle.std.specs.Prelude.{◌==◌}
use Rattle.std.specs.Bool.{MatchBool}
use Rattle.cell_world.specs.Lists.{SomeOf, IsOneOf}
use Rattle.cell_world.specs.Images.{Image, Place, Happening, Committed, Wrote, Reopened}
use Rattle.cell_world.specs.declared.operations.Op.{Op}
use Rattle.cell_world.specs.declared.changes.Edit.{Edit}
use Rattle.cell_world.proofs.ListLaws.{some_at, some_from, in_first, in_second}
use Rattle.plain_model.specs.declared.history.Entry.{Entry}
use Rattle.plain_model.specs.Timelines.{Timeline, Happened, Entered, image_of, history_of}
use Rattle.plain_model.specs.OnTrail.{logs_put, WasTried}
use Rattle.history_laws.proofs.OpenLaws.{not_eqb}

module _ (start : Image) (session : ℕ) (P : Image → Op → Type 0) where
  pub tried_now : (past : Timeline) (place : Place) (change : List Edit) (took : Bool) (op : Op) → logs_put change ≡ op ∷ [] → P (image_of start past) op → WasTried start session P (Happened (Committed place change took) ∷ past)
  tried_now past place change took op puts here = inl (subst (SomeOf (P (image_of start past))) (sym puts) (inl here))

  pub tried_happened : (past : Timeline) (h : Happening) → WasTried start session P past → WasTried start session P (Happened h ∷ past)
  tried_happened past (Committed place change took) was = inr was
  tried_happened past (Wrote bytes) was = was
  tried_happened past (Reopened place cells) was = was

  pub tried_entered : (past : Timeline) (e : Entry) → (e.session ≡ session → ⊥) → WasTried start session P past → WasTried start session P (Entered e ∷ past)
  tried_entered past e other was = subst (λ b. MatchBool b ⊥ (WasTried start session P past)) (sym (not_eqb e.session session other)) was

  pub tried_later : (later past : Timeline) → ((e : Entry) → IsOneOf (history_of later) e → e.session ≡ session → ⊥) → WasTried start session P past → WasTried start session P (later ++ past)
  tried_later [] past others was = was
  tried_later (Happened h ∷ later) past others was = tried_happened (later ++ past) h (tried_later later past others was)
  tried_later (Entered e ∷ later) past others was =
      tried_entered (later ++ past) e (others e (in_second (history_of later) (e ∷ []) e (inl refl))) (tried_later later past (λ d one. others d (in_first (history_of later) (e ∷ []) d one)) was)

-- what was tried for one purpose was tried for a wider one
pub tried_wider : (start : Image) (session : ℕ) (P Q : Image → Op → Type 0) (past : Timeline) → ((image : Image) (op : Op) → P image op → Q image op) → WasTried start session P past → WasTried start session Q past
tried_wider start session P Q [] wider was = absurd was
tried_wider start session P Q (Happened (Committed place change took) ∷ past) wider was = ⊎_elim
    (λ here. let s = some_at (P (image_of start past)) (logs_put change) here in inl (some_from (Q (image_of start past)) (logs_put change) s.0 s.1 (wider (image_of start past) s.0 s.2)))
    (λ before. inr (tried_wider start session P Q past wider before)) was
tried_wider start session P Q (Happened (Wrote bytes) ∷ past) wider was = tried_wider start session P Q past wider was
tried_wider start session P Q (Happened (Reopened place cells) ∷ past) wider was = tried_wider start session P Q past wider was
tried_wider start session P Q (Entered e ∷ past) wider was = by (e.session == session) was (tried_wider start session P Q past wider)
  where
    by : (b : Bool) → MatchBool b ⊥ (WasTried start session P past) → (WasTried start session P past → WasTried start session Q past) → MatchBool b ⊥ (WasTried start session Q past)
    by true was more = absurd was
    by false was more = more was

-- it was some operation, on some image
abbrev pub TriedSome : Image → ℕ → (Image → Op → Type 0) → Timeline → Type 0
TriedSome start session P past = (image : Image) × (op : Op) × P image op × WasTried start session (λ at tried. (at ≡ image) × (tried ≡ op)) past

pub tried_some : (start : Image) (session : ℕ) (P : Image → Op → Type 0) (past : Timeline) → WasTried start session P past → TriedSome start session P past
tried_some start session P [] was = absurd was
tried_some start session P (Happened (Committed place change took) ∷ past) was = ⊎_elim
    (λ here. let s = some_at (P (image_of start past)) (logs_put change) here in
    (image_of start past, s.0, s.2, inl (some_from (λ (tried : Op). (image_of start past ≡ image_of start past) × (tried ≡ s.0)) (logs_put change) s.0 s.1 (refl, refl))))
    (λ before. let s = tried_some start session P past before in (s.0, s.1, s.2, inr s.3)) was
tried_some start session P (Happened (Wrote bytes) ∷ past) was = tried_some start session P past was
tried_some start session P (Happened (Reopened place cells) ∷ past) was = tried_some start session P past was
tried_some start session P (Entered e ∷ past) was = by (e.session == session) refl was (tried_some start session P past)
  where
    by : (b : Bool) → (e.session == session) ≡ b → MatchBool b ⊥ (WasTried start session P past) → (WasTried start session P past → TriedSome start session P past) → TriedSome start session P (Entered e ∷ past)
    by true is was before = absurd was
    by false is was before = let s = before was in
        (s.0, s.1, s.2, subst (λ b. MatchBool b ⊥ (WasTried start session (λ at tried. (at ≡ s.0) × (tried ≡ s.1)) past)) (sym is) s.3)
