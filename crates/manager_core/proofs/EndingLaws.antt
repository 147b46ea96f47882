-- The end of a core: what is so of its sessions is so of every number.
use Rattle.std.proofs.Common.{◌≡◌, ⊎_elim, ◌≤◌, ℕ, zero, suc, refl, sym, ap, ◌∙◌, subst, Some, None, List, Option, length, arith}
use Rattle.std.proofs.Math.ListN.{get_or, get_or-eq_default}
use Rattle.std.proofs.lemmas.Bool.{cases_lt}
use Rattle.cell_world.specs.Outside.{Outside, IfContents, StoreRoseBy}
use Rattle.cell_world.specs.declared.operations.Op.{Op}
use Rattle.global_tables.specs.Known.{Known}
use Rattle.plain_model.specs.declared.history.Entry.{Entry}
use Rattle.session_laws.specs.Core.{SameGoing}
use Rattle.operation_laws.specs.Left.{left_of}
use Rattle.manager_core.specs.declared.doings.Doing.{Doing}
use Rattle.manager_core.specs.declared.doings.Doing.TheVariants as seat
use Rattle.manager_core.specs.declared.manager.StopCause.{StopCause}
use Rattle.manager_core.specs.declared.opening.Tail.{Tail}
use Rattle.manager_core.specs.declared.opening.Tail.TheVariants as tail
use Rattle.manager_core.specs.Coming.{IsTidied, SettleSteps}
use Rattle.manager_core.specs.Cores.{Finishes, Waits, parts}
use Rattle.manager_core.specs.Doings.{all_doing, doing_of}
use Rattle.manager_core.specs.Steady.{AreSteady, Becomes, IsSettledOp}

-- past the last session nothing is left
none_past : (ds : List Doing) (n : ℕ) → length ds ≤ n → left_of (doing_of (get_or ds n seat.Resting)) ≡ None
none_past ds n past = ap (λ d. left_of (doing_of d)) (get_or-eq_default ds seat.Resting past)

-- where no session has anything left, no number has
pub none_left : (ds : List Doing) → ((session : ℕ) → 1 ≤ session → session ≤ length ds → left_of (all_doing ds session) ≡ None) → (session : ℕ) → left_of (all_doing ds session) ≡ None
none_left ds none zero = refl
none_left ds none (suc n) = ⊎_elim (λ below. none (suc n) (omega arith) (omega (arith, below))) (none_past ds n) (cases_lt n (length ds))

-- what has something left is a session
pub is_session : (ds : List Doing) (session : ℕ) (op : Op) → left_of (all_doing ds session) ≡ Some op → (1 ≤ session) × (session ≤ length ds)
is_session ds zero op is = absurd cc
is_session ds (suc n) op is = ⊎_elim (λ below. (omega arith, omega (arith, below))) (λ past. let both : None ≡ Some op = sym (none_past ds n past) ∙ is in absurd cc) (cases_lt n (length ds))

-- What is so of its sessions, settled one after the other, is so of the end of a core.
pub finishes : (old new : Outside) (history : List Entry) (ds later : List Doing) (known : Option Known) (stop : Option StopCause) (ending : Tail) → Becomes old new (all_doing ds) (all_doing later) → Waits old new (all_doing ds) (all_doing later)
    → SameGoing (all_doing ds) (all_doing later) → (AreSteady (all_doing ds) old → IsTidied (SettleSteps (all_doing ds)) old.told new.told) → length later ≡ length ds
    → (ending ≡ tail.Settled → (session : ℕ) → 1 ≤ session → session ≤ length ds → left_of (all_doing later session) ≡ None)
    → (ending ≡ tail.Settled → AreSteady (all_doing ds) old → (session : ℕ) (op : Op) → 1 ≤ session → session ≤ length ds → left_of (all_doing ds session) ≡ Some op → IfContents new.told (IsSettledOp op))
    → (ending ≡ tail.Store → StoreRoseBy 1 old new) → Finishes (parts old history ds known stop) new ending
finishes old new history ds later known stop ending becomes waits going tidied same none settled cause = record {
  after = all_doing later;
  going = going;
  becomes = becomes;
  waits = waits;
  tidied = tidied;
  none = λ is. none_left later (λ session one few. none is session one (subst (λ n. session ≤ n) same few));
  settles = λ is steady session op left. let here = is_session ds session op left in settled is steady session op here.0 here.1 left;
  cause = cause;
}
