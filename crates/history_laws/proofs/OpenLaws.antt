-- That a number stays open as the run goes on.
use Rattle.std.proofs.Common.{◌≡◌, ℕ, Bool, true, false, ◌||◌, ◌&&◌, not, refl, ap, ◌∙◌, List, [], ◌∷◌, ◌++◌, inl, eqb, eq-eqb}
use Rattle.std.specs.Prelude.{◌==◌}
use Rattle.std.specs.List.{list_any}
use Rattle.std.proofs.lemmas.Bool.{eqb-true}
use Rattle.cell_world.specs.Images.{Place, Happening, Committed, Wrote, Reopened}
use Rattle.cell_world.specs.Lists.{IsOneOf}
use Rattle.cell_world.specs.declared.operations.Op.{Op}
use Rattle.cell_world.specs.declared.changes.Edit.{Edit}
use Rattle.cell_world.proofs.ListLaws.{in_first, in_second}
use Rattle.plain_model.specs.declared.history.Entry.{Entry}
use Rattle.plain_model.specs.Timelines.{Timeline, Happened, Entered, history_of}
use Rattle.plain_model.specs.OnTrail.{logs_put, logs, is_open}

or_true : (b : Bool) → (b || true) ≡ true
or_true true = refl
or_true false = refl

-- numbers that differ are told apart
pub not_eqb : (a b : ℕ) → (a ≡ b → ⊥) → eqb a b ≡ false
not_eqb a b differ = by (eqb a b) refl
  where
    by : (c : Bool) → eqb a b ≡ c → c ≡ false
    by true is = absurd (differ (eqb-true a b is))
    by false is = refl

pub open_happened : (number : ℕ) (past : Timeline) (h : Happening) → is_open number past ≡ true → is_open number (Happened h ∷ past) ≡ true
open_happened number past (Committed place change took) is = ap (λ b. logs number change || b) is ∙ or_true (logs number change)
open_happened number past (Wrote bytes) is = is
open_happened number past (Reopened place cells) is = is

pub open_entered : (number : ℕ) (past : Timeline) (e : Entry) → (e.operation ≡ number → ⊥) → is_open number past ≡ true → is_open number (Entered e ∷ past) ≡ true
open_entered number past e other is = ap (λ b. is_open number past && not b) (not_eqb e.operation number other) ∙ ap (λ b. b && true) is

pub open_now : (past : Timeline) (place : Place) (change : List Edit) (took : Bool) (op : Op) → logs_put change ≡ op ∷ [] → is_open op.number (Happened (Committed place change took) ∷ past) ≡ true
open_now past place change took op puts =
    ap (λ ops. list_any (λ (o : Op). o.number == op.number) ops || is_open op.number past) puts ∙ ap (λ b. (b || false) || is_open op.number past) (eq-eqb op.number op.number refl)

pub open_later : (number : ℕ) (later past : Timeline) → ((e : Entry) → IsOneOf (history_of later) e → e.operation ≡ number → ⊥) → is_open number past ≡ true → is_open number (later ++ past) ≡ true
open_later number [] past others is = is
open_later number (Happened h ∷ later) past others is = open_happened number (later ++ past) h (open_later number later past others is)
open_later number (Entered e ∷ later) past others is =
    open_entered number (later ++ past) e (others e (in_second (history_of later) (e ∷ []) e (inl refl))) (open_later number later past (λ d one. others d (in_first (history_of later) (e ∷ []) d one)) is)
