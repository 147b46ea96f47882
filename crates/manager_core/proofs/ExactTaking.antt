-- How a planned operation came to its answer: what happened of the stores, and which live operation was in its way.
use Rattle.std.proofs.Common.{◌≡◌, ◌<◌, ◌^◌, inr, ℕ, Bool, true, false, ◌&&◌, refl, sym, ap, ◌∙◌, subst, List, [], ◌∷◌}
use Rattle.std.specs.Prelude.{Ok, Err}
use Rattle.cell_world.specs.Images.{Image, Place, Global, Happening, Committed, after_all, image_at, end_of_trail}
use Rattle.cell_world.specs.Meaning.{next_operation}
use Rattle.cell_world.specs.Operations.{conflicts, reach_of}
use Rattle.cell_world.specs.Outside.{Outside, Told, TellsNothing, TellsContents, TellsTrail, IfContents}
use Rattle.cell_world.specs.Sound.{Sound}
use Rattle.cell_world.specs.declared.cells.Cell.TheVariants as cell
use Rattle.cell_world.specs.declared.changes.Edit.{Edit}
use Rattle.cell_world.specs.declared.changes.Edit.TheVariants.{Put}
use Rattle.cell_world.specs.declared.operations.Op.{Op}
use Rattle.cell_world.proofs.ContentsLaws.{contents_all, contents_both, contents_weaker}
use Rattle.map_ops.specs.Planning.{PlansLong}
use Rattle.op_steps.specs.Beginning.{Begins, ClearsAndTries, Logs, numbered}
use Rattle.op_steps.specs.Clearing as way
use Rattle.op_steps.specs.Clearing.{IsAbandonedInWay}
use Rattle.op_steps.specs.Live.{is_live}
use Rattle.op_steps.specs.Passing.{IsCourse, Passes, told_after_all}
use Rattle.op_steps.specs.Undoing.{UndoStepOf}
use Rattle.op_steps.specs.declared.beginning.BeginFault.TheVariants as begin
use Rattle.op_steps.specs.declared.beginning.Begun.TheVariants.{Going, Pending}
use Rattle.op_steps.specs.declared.stages.Stage.{Stage}
use Rattle.op_steps.proofs.NumberLaws.{log_tries_number}
use Rattle.plain_model.specs.declared.commands.Command.{Command}
use Rattle.session_laws.specs.Doing.{AllDoing}
use Rattle.operation_laws.specs.LiveNumbers.{AreTheLive, HasLive}
use Rattle.manager_core.specs.Beginnings.{TakesExactly, WaitsExactly, answer_of, number_in}
use Rattle.manager_core.specs.declared.beginning.Taken.{Taken}
use Rattle.manager_core.specs.declared.beginning.Taken.TheVariants as taken
use Rattle.manager_core.specs.Coming.{ClearStep, ClearsNone, IsFirstInWay, IsInWay, IsTidied, LeavesAll, LogsUnder, TriesFor}
use Rattle.manager_core.specs.Steady.{AreSteady, IsSteady}
use Rattle.manager_core.proofs.Steadiness.{contents_after_all}
use Rattle.manager_core.proofs.TidyLaws.{clear_step, leaves_course, tidied_cleared, tidied_none, tidied_weaker, told_then, undo_leaves_each}
use Rattle.manager_core.proofs.WayLaws.{first_in_way, none_in_way}

-- ---- what happened

nothing_told : (hs : List Happening) → told_after_all TellsNothing hs ≡ TellsNothing
nothing_told [] = refl
nothing_told (h ∷ hs) = nothing_told hs

-- nothing is told; or this is the image that is told
from_told : (told : Told) (P : Image → Type 0) (G : Type 0) → IfContents told P → (told ≡ TellsNothing → G) → ((image : Image) → P image → ((Q : Image → Type 0) → Q image → IfContents told Q) → G) → G
from_told TellsNothing P G p none some = none refl
from_told (TellsContents image) P G p none some = some image p (λ Q q. q)
from_told (TellsTrail trail) P G p none some = some (image_at trail (end_of_trail trail)) p (λ Q q. q)

-- The way was cleared, and then the log row was tried.
pub record TriedRow (doing : AllDoing) (op : Op) (number : ℕ) (Took : Bool → Type 0) (old new : Told) : Type 0 where
  pub between : Told
  pub clears : IsTidied (ClearStep doing (reach_of op)) old between
  pub took : Bool
  pub so : Took took
  pub logs : LogsUnder number took between new

module _ (live : List ℕ) (op : Op) (doing : AllDoing) (are : AreTheLive live doing) where
  abbrev Undoing : Image → Place → List Edit → Type 0
  Undoing = UndoStepOf (IsAbandonedInWay live (reach_of op))

  pub log_row : (made : Op) (Took : Bool → Type 0) → Took true → (old new : Told) (hs : List Happening) → new ≡ told_after_all old hs → IfContents old (λ image. (took : Bool) × Took took × ClearsAndTries live op made took image hs) → TriedRow doing op made.number Took old new
  log_row made Took one old new hs told p = from_told old (λ image. (took : Bool) × Took took × ClearsAndTries live op made took image hs) (TriedRow doing op made.number Took old new) p
      (λ none. record {
        between = TellsNothing;
        clears = tidied_none (ClearStep doing (reach_of op)) old TellsNothing (sym none);
        took = true;
        so = one;
        logs = record { op = made; named = refl; change = Put (cell.Log made) ∷ []; puts = refl; told = told ∙ ap (λ t. told_after_all t hs) none ∙ nothing_told hs; logs = tt };
      })
      (λ image t back. record {
        between = told_after_all old t.2.cleared;
        clears = tidied_weaker Undoing (ClearStep doing (reach_of op)) (clear_step live doing are (reach_of op)) old (told_after_all old t.2.cleared) (record {
          happened = t.2.cleared;
          told = refl;
          course = back (λ i. IsCourse Undoing i t.2.cleared) t.2.course;
          leaves = back (λ i. LeavesAll i t.2.cleared) (leaves_course Undoing (undo_leaves_each (IsAbandonedInWay live (reach_of op))) image t.2.cleared t.2.course);
        });
        took = t.0;
        so = t.1;
        logs = record {
          op = made;
          named = refl;
          change = t.2.change;
          puts = (log_tries_number made (after_all image t.2.cleared) Global t.2.change t.2.logs).0;
          told = told ∙ ap (told_after_all old) t.2.split ∙ sym (told_then old t.2.cleared (Committed Global t.2.change t.0 ∷ []));
          logs = contents_after_all old t.2.cleared (λ i. Logs made (after_all i t.2.cleared) Global t.2.change) (λ i. Logs made i Global t.2.change) (λ i l. l) (back (λ i. Logs made (after_all i t.2.cleared) Global t.2.change) t.2.logs);
        };
      })

-- ---- by the answers

-- where its log row wasn't tried
exact_by : (op : Op) (doing : AllDoing) (old new : Outside) (result : Taken) → TriesFor (answer_of result) (number_in result) new.told new.told → WaitsExactly result doing (reach_of op) → ClearsNone (answer_of result) old.told new.told → IsTidied (ClearStep doing (reach_of op)) old.told new.told
    → TakesExactly op doing result old new
exact_by op doing old new result tries waits none clears = record {
  between = new.told;
  clears = clears;
  none = none;
  tries = tries;
  waits = contents_all old.told (λ image. WaitsExactly result doing (reach_of op)) (λ image. waits);
}

pub exact_same : (op : Op) (doing : AllDoing) (old new : Outside) (result : Taken) → TriesFor (answer_of result) (number_in result) new.told new.told → WaitsExactly result doing (reach_of op) → ClearsNone (answer_of result) old.told new.told → new.told ≡ old.told → TakesExactly op doing result old new
exact_same op doing old new result tries waits none same = exact_by op doing old new result tries waits none (tidied_none (ClearStep doing (reach_of op)) old.told new.told same)

pub exact_quiet : (live : List ℕ) (op : Op) (doing : AllDoing) → AreTheLive live doing → (old new : Outside) (result : Taken) → TriesFor (answer_of result) (number_in result) new.told new.told → WaitsExactly result doing (reach_of op) → ClearsNone (answer_of result) old.told new.told → AreSteady doing old
    → Passes (λ image hs. Sound image → IsCourse (UndoStepOf (IsAbandonedInWay live (reach_of op))) image hs) old new → TakesExactly op doing result old new
exact_quiet live op doing are old new result tries waits none steady passes = exact_by op doing old new result tries waits none (tidied_cleared live doing are (reach_of op) old new passes steady)

-- of steady stores nothing changes, where a live operation is in the way
module _ (live : List ℕ) (op : Op) (doing : AllDoing) (old new : Outside) (steady : AreSteady doing old) (other : Op) (passes : Passes (Begins live op (Ok (Pending other))) old new) where
  waiting : IfContents old.told (λ image. IsSteady doing image × Begins live op (Ok (Pending other)) image passes.happened)
  waiting = contents_both old.told (IsSteady doing) (λ image. Begins live op (Ok (Pending other)) image passes.happened) steady passes.each

  pub pending_same : new.told ≡ old.told
  pending_same = from_told old.told (λ image. IsSteady doing image × Begins live op (Ok (Pending other)) image passes.happened) (new.told ≡ old.told) waiting
      (λ none. passes.told ∙ ap (λ t. told_after_all t passes.happened) none ∙ nothing_told passes.happened ∙ sym none)
      (λ image h back. passes.told ∙ ap (told_after_all old.told) (h.1 h.0.sound).0)

  pub pending_first : AreTheLive live doing → IfContents old.told (λ image. IsFirstInWay doing (reach_of op) other.number)
  pending_first are = contents_weaker old.told (λ image. IsSteady doing image × Begins live op (Ok (Pending other)) image passes.happened) (λ image. IsFirstInWay doing (reach_of op) other.number)
      (λ image h. first_in_way live doing are (reach_of op) image h.0 other (h.1 h.0.sound).1) waiting

  pub exact_pending : AreTheLive live doing → TakesExactly op doing (taken.Pending other.number) old new
  exact_pending are = record {
    between = new.told;
    clears = tidied_none (ClearStep doing (reach_of op)) old.told new.told pending_same;
    none = pending_same;
    tries = (refl, refl);
    waits = pending_first are;
  }

pub names_pending : (live : List ℕ) (op other : Op) → way.is_in_way live (reach_of op) other ≡ true → (doing : AllDoing) → AreTheLive live doing → HasLive doing other.number
names_pending live op other is doing are = are.had other.number (second_true (conflicts (reach_of op) other) (is_live live other.number) is)
  where
    second_true : (a b : Bool) → (a && b) ≡ true → b ≡ true
    second_true true b h = h
    second_true false b h = absurd cc

module _ (live : List ℕ) (op : Op) (doing : AllDoing) (are : AreTheLive live doing) (c : Command) (old new : Outside) (steady : AreSteady doing old) (may : IfContents old.told (λ image. (Sound image → PlansLong c op image) × (next_operation image < 2 ^ 63))) where
  -- what is known of the stores
  abbrev MayTake : Image → Type 0
  MayTake image = IsSteady doing image × ((Sound image → PlansLong c op image) × (next_operation image < 2 ^ 63))

  -- with what a call made of them
  known : (P : Image → List Happening → Type 0) (passes : Passes P old new) → IfContents old.told (λ image. MayTake image × P image passes.happened)
  known P passes = contents_both old.told (λ image. MayTake image) (λ image. P image passes.happened)
      (contents_both old.told (IsSteady doing) (λ image. (Sound image → PlansLong c op image) × (next_operation image < 2 ^ 63)) steady may) passes.each

  pub exact_going : (made : Op) (stage : Stage) → Passes (Begins live op (Ok (Going made stage))) old new → TakesExactly op doing (taken.Going made stage) old new
  exact_going made stage passes = record {
    between = row.between;
    clears = row.clears;
    none = tt;
    tries = subst (λ b. LogsUnder made.number b row.between new.told) row.so row.logs;
    waits = contents_weaker old.told (λ image. MayTake image × Begins live op (Ok (Going made stage)) image passes.happened) (λ image. (number : ℕ) → IsInWay doing (reach_of op) number → ⊥)
        (λ image h. none_in_way live doing are (reach_of op) image h.0.0 (h.1 h.0.0.sound (h.0.1.0 h.0.0.sound).lawful h.0.1.1).tried.none) (known (Begins live op (Ok (Going made stage))) passes);
  }
    where
      row : TriedRow doing op made.number (λ took. took ≡ true) old.told new.told
      row = log_row live op doing are made (λ took. took ≡ true) refl old.told new.told passes.happened passes.told
          (contents_weaker old.told (λ image. MayTake image × Begins live op (Ok (Going made stage)) image passes.happened) (λ image. (took : Bool) × (took ≡ true) × ClearsAndTries live op made took image passes.happened)
          (λ image h. (true, refl, (h.1 h.0.0.sound (h.0.1.0 h.0.0.sound).lawful h.0.1.1).tried)) (known (Begins live op (Ok (Going made stage))) passes))

  pub exact_tried : (number : ℕ) → Passes (Begins live op (Err (begin.Tried number))) old new → TakesExactly op doing (taken.Tried number) old new
  exact_tried number passes = record {
    between = row.between;
    clears = row.clears;
    none = tt;
    tries = inr (row.took, row.logs);
    waits = contents_all old.told (λ image. Unit {0}) (λ image. tt);
  }
    where
      row : TriedRow doing op number (λ took. Unit {0}) old.told new.told
      row = log_row live op doing are (numbered op number) (λ took. Unit {0}) tt old.told new.told passes.happened passes.told
          (contents_weaker old.told (λ image. MayTake image × Begins live op (Err (begin.Tried number)) image passes.happened) (λ image. (took : Bool) × Unit {0} × ClearsAndTries live op (numbered op number) took image passes.happened)
          (λ image h. let t = h.1 h.0.0.sound (h.0.1.0 h.0.0.sound).lawful h.0.1.1 in (t.0, tt, t.1)) (known (Begins live op (Err (begin.Tried number))) passes))

-- where nothing happened before
pub exact_later : (op : Op) (doing : AllDoing) (old mid new : Outside) → mid.told ≡ old.told → (result : Taken) → TakesExactly op doing result mid new → TakesExactly op doing result old new
exact_later op doing old mid new same result exact = record {
  between = exact.between;
  clears = subst (λ t. IsTidied (ClearStep doing (reach_of op)) t exact.between) same exact.clears;
  none = subst (λ t. ClearsNone (answer_of result) t exact.between) same exact.none;
  tries = exact.tries;
  waits = subst (λ t. IfContents t (λ image. WaitsExactly result doing (reach_of op))) same exact.waits;
}
