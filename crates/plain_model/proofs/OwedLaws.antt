-- When no entry is owed.
use Rattle.std.proofs.Common.{◌≡◌, ℕ, Bool, true, false, ◌||◌, ◌&&◌, not, eqb, eq-eqb, refl, sym, ap, ◌∙◌, subst, [], ◌∷◌, List}
use Rattle.std.specs.Prelude.{◌==◌}
use Rattle.std.specs.List.{list_any}
use Rattle.std.proofs.lemmas.Bool.{eqb-true}
use Rattle.cell_world.specs.Texts.{Text}
use Rattle.cell_world.specs.Stores.{Store}
use Rattle.cell_world.specs.Images.{Image, Place, Global, Shard, Committed, Wrote, Reopened, after_one}
use Rattle.cell_world.specs.declared.changes.Edit.{Edit}
use Rattle.cell_world.specs.declared.operations.Op.{Op}
use Rattle.plain_model.specs.declared.history.Entry.{Entry}
use Rattle.plain_model.specs.Timelines.{Timeline, Happened, Entered, image_of}
use Rattle.plain_model.specs.OnTrail.{logs_put, logs, is_open, InLog, NoneOwed}

logs_none : (number : ℕ) (change : List Edit) → logs_put change ≡ [] → logs number change ≡ false
logs_none number change none = ap (λ ops. list_any (λ (op : Op). op.number == number) ops) none

logs_one : (number : ℕ) (change : List Edit) (op : Op) → logs_put change ≡ op ∷ [] → logs number change ≡ ((op.number == number) || false)
logs_one number change op one = ap (λ ops. list_any (λ (op : Op). op.number == number) ops) one

both : (a b : Bool) → (a && b) ≡ true → (a ≡ true) × (b ≡ true)
both true true is = (refl, refl)
both true false is = absurd cc
both false b is = absurd cc

either : (a b : Bool) → (a || b) ≡ true → a ≡ false → b ≡ true
either true b is f = absurd cc
either false b is f = is

not_same : (a b : ℕ) → not (eqb a b) ≡ true → a ≡ b → ⊥
not_same a b is same = let e : eqb a b ≡ true = eq-eqb a b same in let f : not (eqb a b) ≡ false = ap not e in absurd cc

-- what is open after a commit that puts no log cell was open before
pub open_before : (number : ℕ) (past : Timeline) (place : Place) (change : List Edit) (took : Bool) → logs_put change ≡ [] → is_open number (Happened (Committed place change took) ∷ past) ≡ true → is_open number past ≡ true
open_before number past place change took none is = either (logs number change) (is_open number past) is (logs_none number change none)

-- what is open after an entry was open before, and isn't the number that the entry names
pub open_unnamed : (number : ℕ) (past : Timeline) (e : Entry) → is_open number (Entered e ∷ past) ≡ true → (is_open number past ≡ true) × (e.operation ≡ number → ⊥)
open_unnamed number past e is = let b : (is_open number past ≡ true) × (not (e.operation == number) ≡ true) = both _ _ is in (b.0, not_same e.operation number b.1)

-- a number is open that was tried just now, or was open before
pub tried_or_open : (number : ℕ) (past : Timeline) (place : Place) (change : List Edit) (took : Bool) (op : Op) (P : Type 0) → logs_put change ≡ op ∷ [] → is_open number (Happened (Committed place change took) ∷ past) ≡ true
    → (op.number ≡ number → P) → (is_open number past ≡ true → P) → P
tried_or_open number past place change took op P one is f g = by (op.number == number) refl (sym (ap (λ b. b || is_open number past) (logs_one number change op one)) ∙ is)
  where
    by : (b : Bool) → (op.number == number) ≡ b → ((b || false) || is_open number past) ≡ true → P
    by true same is = f (eqb-true op.number number same)
    by false differs is = g is

pub none_at_first : (start : Image) → NoneOwed start []
none_at_first start number is = absurd cc

pub none_after_write : (start : Image) (past : Timeline) (bytes : Text) → NoneOwed start past → NoneOwed start (Happened (Wrote bytes) ∷ past)
none_after_write start past bytes none = none

pub none_after_reopening : (start : Image) (past : Timeline) (location : Text) (cells : Store) → NoneOwed start past → NoneOwed start (Happened (Reopened (Shard location) cells) ∷ past)
none_after_reopening start past location cells none = none

-- a commit at a shard
pub none_after_local : (start : Image) (past : Timeline) (location : Text) (change : List Edit) (took : Bool) → logs_put change ≡ [] → NoneOwed start past → NoneOwed start (Happened (Committed (Shard location) change took) ∷ past)
none_after_local start past location change true puts none = λ number is. none number (open_before number past (Shard location) change true puts is)
none_after_local start past location change false puts none = λ number is. none number (open_before number past (Shard location) change false puts is)

-- a commit at the global store that puts no log cell and leaves those that are open
pub none_after_global : (start : Image) (past : Timeline) (change : List Edit) (took : Bool) → logs_put change ≡ []
    → ((number : ℕ) → is_open number past ≡ true → InLog (after_one (image_of start past) (Committed Global change took)) number) → NoneOwed start (Happened (Committed Global change took) ∷ past)
none_after_global start past change took puts stay = λ number is. stay number (open_before number past Global change took puts is)

-- the commit of a log cell
pub none_after_log : (start : Image) (past : Timeline) (change : List Edit) (op : Op) → logs_put change ≡ op ∷ [] → InLog (after_one (image_of start past) (Committed Global change true)) op.number
    → ((number : ℕ) → is_open number past ≡ true → InLog (after_one (image_of start past) (Committed Global change true)) number) → NoneOwed start (Happened (Committed Global change true) ∷ past)
none_after_log start past change op puts it stay = λ number is.
    tried_or_open number past Global change true op (InLog (after_one (image_of start past) (Committed Global change true)) number) puts is
    (λ same. subst (InLog (after_one (image_of start past) (Committed Global change true))) same it) (λ before. stay number before)

-- an entry alone
pub none_after_entry : (start : Image) (past : Timeline) (e : Entry) → NoneOwed start past → NoneOwed start (Entered e ∷ past)
none_after_entry start past e none = λ number is. none number (open_unnamed number past e is).0

-- a commit at the global store without a log cell, and the entry of the operation whose log cell it may take away
pub none_after_commit : (start : Image) (past : Timeline) (change : List Edit) (took : Bool) (e : Entry) → logs_put change ≡ []
    → ((number : ℕ) → is_open number past ≡ true → (e.operation ≡ number → ⊥) → InLog (after_one (image_of start past) (Committed Global change took)) number)
    → NoneOwed start (Entered e ∷ Happened (Committed Global change took) ∷ past)
none_after_commit start past change took e puts stay = λ number is.
    let o = open_unnamed number (Happened (Committed Global change took) ∷ past) e is in
    stay number (open_before number past Global change took puts o.0) o.1

-- a try of a log cell, made or not, and the entry that names it
pub none_after_try : (start : Image) (past : Timeline) (change : List Edit) (took : Bool) (op : Op) (e : Entry) → logs_put change ≡ op ∷ [] → e.operation ≡ op.number
    → ((number : ℕ) → is_open number past ≡ true → (e.operation ≡ number → ⊥) → InLog (after_one (image_of start past) (Committed Global change took)) number)
    → NoneOwed start (Entered e ∷ Happened (Committed Global change took) ∷ past)
none_after_try start past change took op e puts names stay = λ number is.
    let o = open_unnamed number (Happened (Committed Global change took) ∷ past) e is in
    tried_or_open number past Global change took op (InLog (after_one (image_of start past) (Committed Global change took)) number) puts o.0
    (λ same. absurd (o.1 (names ∙ same))) (λ before. stay number before o.1)
