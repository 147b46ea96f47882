-- How what looks ahead goes on.
use Rattle.std.proofs.Common.{◌≡◌, ◌⊎◌, inl, inr, ⊎_elim, ℕ, Bool, true, false, ◌||◌, ◌&&◌, not, refl, sym, subst, Some, Option, List, [], ◌∷◌, ◌++◌}
use Rattle.std.specs.Prelude.{◌==◌}
use Rattle.std.specs.List.{list_any}
use Rattle.std.proofs.lemmas.Bool.{eqb-true}
use Rattle.cell_world.specs.Images.{Place, Committed, Wrote, Reopened}
use Rattle.cell_world.specs.declared.operations.Op.{Op}
use Rattle.cell_world.specs.declared.changes.Edit.{Edit}
use Rattle.plain_model.specs.declared.replies.Reply.{Reply}
use Rattle.plain_model.specs.declared.replies.Reply.TheVariants as reply
use Rattle.plain_model.specs.declared.replies.Refusal.TheVariants as refused
use Rattle.plain_model.specs.declared.history.Entry.{Entry}
use Rattle.plain_model.specs.Timelines.{Timeline, Happened, Entered, history_of}
use Rattle.plain_model.specs.OnTrail.{logs_put, logs, is_open}
use Rattle.plain_model.specs.Legal.{Going, AllGoing, Promises, KeepsPromises, IsAtJob, IsAtOperation, next_of, next_answered, IsNamedNext, AllNamedNext, AreNamed}
use Rattle.plain_model.specs.GoingOn.{TakesUp, TriesNumbered, AreNumbered}
use Rattle.plain_model.proofs.PromiseLaws.{promises_stay, named_stay}
use Rattle.plain_model.specs.RunSoFar.{Looks}

-- ---- a session takes something up

pub looks_taken : (before after : AllGoing) (session : ℕ) (g : Going) (past : Timeline) → TakesUp before after session g → TriesNumbered past → Looks before past → Looks after past
looks_taken before after session g past takes some looks = record {
  promises = promises_stay before after session g takes (history_of past) looks.pendings looks.promises;
  pendings = looks.pendings;
  named = named_stay before after session g takes past [] some looks.named;
}

-- ---- a log cell is tried, made or not, for an operation that a session has going

pub looks_tried : (going : AllGoing) (past : Timeline) (place : Place) (change : List Edit) (took : Bool) (op : Op) → logs_put change ≡ op ∷ [] → IsNamedNext going [] op.number → Looks going past
    → Looks going (Happened (Committed place change took) ∷ past)
looks_tried going past place change took op puts here looks = record { promises = looks.promises; pendings = looks.pendings; named = (subst (AllNamedNext going []) (sym puts) (here, tt), looks.named) }

-- ---- what is going is the same

module _ (before after : AllGoing) (same : (session : ℕ) → after session ≡ before session) where
  same_job : (number other : ℕ) (found : Option Entry) → IsAtJob number (before other) found → IsAtJob number (after other) found
  same_job number other found h = subst (λ G. IsAtJob number G found) (sym (same other)) h

  same_operation : (number other : ℕ) (found : Option Entry) → IsAtOperation number (before other) found → IsAtOperation number (after other) found
  same_operation number other found h = subst (λ G. IsAtOperation number G found) (sym (same other)) h

  same_promise : (e : Entry) (later : List Entry) (r : Option Reply) → Promises before e later r → Promises after e later r
  same_promise e later (Some (reply.Refused refused.JobRunning)) h = record { other = h.other; is_other = h.is_other; number = h.number; asked = h.asked; at_job = same_job h.number h.other (next_answered h.other later) h.at_job }
  same_promise e later (Some (reply.Pending p)) h = record { other = h.other; is_other = h.is_other; at_operation = same_operation p h.other (next_of h.other later) h.at_operation }
  same_promise e later r h = tt

  pub same_promises : (history : List Entry) → KeepsPromises before history → KeepsPromises after history
  same_promises [] h = tt
  same_promises (e ∷ later) h = (same_promise e later e.reply h.0, same_promises later h.1)

  same_next : (ops : List Op) (later : List Entry) → AllNamedNext before later ops → AllNamedNext after later ops
  same_next [] later h = tt
  same_next (op ∷ ops) later h = (record { session = h.0.session; at_operation = same_operation op.number h.0.session (next_of h.0.session later) h.0.at_operation }, same_next ops later h.1)

  same_named : (past : Timeline) (later : List Entry) → AreNamed before past later → AreNamed after past later
  same_named [] later h = tt
  same_named (Happened (Committed place change took) ∷ past) later h = (same_next (logs_put change) later h.0, same_named past later h.1)
  same_named (Happened (Wrote bytes) ∷ past) later h = same_named past later h
  same_named (Happened (Reopened place cells) ∷ past) later h = same_named past later h
  same_named (Entered e ∷ past) later h = same_named past (e ∷ later) h

  pub looks_same : (past : Timeline) → Looks before past → Looks after past
  looks_same past looks = record { promises = same_promises (history_of past) looks.promises; pendings = looks.pendings; named = same_named past [] looks.named }

-- ---- what is open

either : (a b : Bool) → (a || b) ≡ true → (a ≡ true) ⊎ (b ≡ true)
either true b is = inl refl
either false b is = inr is

both : (a b : Bool) → (a && b) ≡ true → (a ≡ true) × (b ≡ true)
both true true is = (refl, refl)
both true false is = absurd cc
both false b is = absurd cc

-- no open number is 0
numbered_any : (ops : List Op) → AreNumbered ops → list_any (λ (op : Op). op.number == 0) ops ≡ true → ⊥
numbered_any [] some is = absurd cc
numbered_any (op ∷ ops) some is = ⊎_elim (λ this. some.0 (eqb-true op.number 0 this)) (λ that. numbered_any ops some.1 that) (either (op.number == 0) (list_any (λ (op : Op). op.number == 0) ops) is)

pub open_numbered : (past : Timeline) → TriesNumbered past → is_open 0 past ≡ true → ⊥
open_numbered [] some is = absurd cc
open_numbered (Happened (Committed place change took) ∷ past) some is = ⊎_elim (λ this. numbered_any (logs_put change) some.0 this) (λ before. open_numbered past some.1 before) (either (logs 0 change) (is_open 0 past) is)
open_numbered (Happened (Wrote bytes) ∷ past) some is = open_numbered past some is
open_numbered (Happened (Reopened place cells) ∷ past) some is = open_numbered past some is
open_numbered (Entered e ∷ past) some is = open_numbered past some (both (is_open 0 past) (not (e.operation == 0)) is).0
