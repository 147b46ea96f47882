-- Promises are kept as the history goes on.
use Rattle.std.proofs.Common.{◌≡◌, ◌≢◌, ⊎_elim, ℕ, Bool, true, false, cond, refl, sym, ap, ◌∙◌, subst, Some, None, Option, is_some, ◌&&◌, List, [], ◌∷◌, ◌++◌, eqb, eq-eqb}
use Rattle.std.specs.Prelude.{find, ◌==◌}
use Rattle.std.proofs.lemmas.Bool.{eqb-true}
use Rattle.cell_world.specs.Images.{Committed, Wrote, Reopened}
use Rattle.cell_world.specs.declared.operations.Op.{Op}
use Rattle.plain_model.specs.declared.replies.Reply.{Reply}
use Rattle.plain_model.specs.declared.replies.Reply.TheVariants as reply
use Rattle.plain_model.specs.declared.replies.Refusal.TheVariants as refused
use Rattle.plain_model.specs.declared.history.Entry.{Entry}
use Rattle.plain_model.specs.JobSteps.{asked_number}
use Rattle.plain_model.specs.Timelines.{Timeline, Happened, Entered}
use Rattle.plain_model.specs.OnTrail.{logs_put}
use Rattle.plain_model.specs.Legal.{AllGoing, Going, KeepsPromises, Promises, IsAtJob, IsAtOperation, next_of, next_answered, AllNamedNext, AreNamed}
use Rattle.plain_model.specs.GoingOn.{IsOf, StillHas, GoesOn, TakesUp, NamesOperations, AreNumbered, TriesNumbered}

-- a search through a list with one more item
find_more : (p : Entry → Bool) (xs : List Entry) (x : Entry) (P : Option Entry → Type 0) → ((y : Entry) → find p xs ≡ Some y → P (Some y)) → (find p xs ≡ None → P (cond (p x) (Some x) None)) → P (find p (xs ++ x ∷ []))
find_more p [] x P f g = g refl
find_more p (y ∷ ys) x P f g = choose (p y) refl f g (find_more p ys x P)
  where
    choose : (b : Bool) → p y ≡ b → ((z : Entry) → cond b (Some y) (find p ys) ≡ Some z → P (Some z)) → (cond b (Some y) (find p ys) ≡ None → P (cond (p x) (Some x) None))
        → (((z : Entry) → find p ys ≡ Some z → P (Some z)) → (find p ys ≡ None → P (cond (p x) (Some x) None)) → P (find p (ys ++ x ∷ []))) → P (cond b (Some y) (find p (ys ++ x ∷ [])))
    choose true e f g more = f y refl
    choose false e f g more = more f g

-- what a session has going that keeps a promise
going_job : (number : ℕ) (G : Option Going) → IsAtJob number G None → (g : Going) × (G ≡ Some g) × (asked_number g.command ≡ Some number)
going_job number None h = absurd h
going_job number (Some g) h = (g, refl, h)

going_operation : (p : ℕ) (G : Option Going) → IsAtOperation p G None → (g : Going) × (G ≡ Some g) × (g.operation ≡ p)
going_operation p None h = absurd h
going_operation p (Some g) h = (g, refl, h)

no_reply : (r : Option Reply) → is_some r ≡ false → r ≡ None
no_reply None e = refl
no_reply (Some r) e = cc

apart : (a b : ℕ) → eqb a b ≡ false → b ≢ a
apart a b e f = let t : eqb a b ≡ true = subst (λ c. eqb a c ≡ true) (sym f) (eq-eqb a a refl) in cc

module _ (before after : AllGoing) (x : Entry) (on : GoesOn before after x) where
  -- a session that keeps its promise at the end keeps it with one more entry
  job_more : (number other : ℕ) (later : List Entry) → IsAtJob number (before other) (next_answered other later) → IsAtJob number (after other) (next_answered other (later ++ x ∷ []))
  job_more number other later h = find_more (λ (e : Entry). (e.session == other) && is_some e.reply) later x (λ o. IsAtJob number (after other) o)
      (λ y f. subst (λ o. IsAtJob number (before other) o) f h) (λ f. last (subst (λ o. IsAtJob number (before other) o) f h))
    where
      last : IsAtJob number (before other) None → IsAtJob number (after other) (cond ((x.session == other) && is_some x.reply) (Some x) None)
      last h = at (eqb x.session other) refl (going_job number (before other) h)
        where
          at : (b : Bool) → eqb x.session other ≡ b → (g : Going) × (before other ≡ Some g) × (asked_number g.command ≡ Some number) → IsAtJob number (after other) (cond (b && is_some x.reply) (Some x) None)
          at false e g = subst (λ G. IsAtJob number G None) (sym (on.others other (apart x.session other e) ∙ g.1)) g.2
          at true e g = answered (is_some x.reply) refl
            where
              here : before x.session ≡ Some g.0
              here = ap before (eqb-true x.session other e) ∙ g.1

              own : IsOf g.0 x
              own = on.own g.0 here

              answered : (b : Bool) → is_some x.reply ≡ b → IsAtJob number (after other) (cond b (Some x) None)
              answered true f = (ap asked_number own.command ∙ g.2, own.runs)
              answered false f =
                  let n : StillHas after g.0 x.session = on.further g.0 here (no_reply x.reply f) in
                  subst (λ G. IsAtJob number G None) (sym (sym (ap after (eqb-true x.session other e)) ∙ n.going)) (ap asked_number n.command ∙ g.2)

  operation_more : (p other : ℕ) (later : List Entry) → IsAtOperation p (before other) (next_of other later) → IsAtOperation p (after other) (next_of other (later ++ x ∷ []))
  operation_more p other later h = find_more (λ (e : Entry). e.session == other) later x (λ o. IsAtOperation p (after other) o)
      (λ y f. subst (λ o. IsAtOperation p (before other) o) f h) (λ f. last (subst (λ o. IsAtOperation p (before other) o) f h))
    where
      last : IsAtOperation p (before other) None → IsAtOperation p (after other) (cond (x.session == other) (Some x) None)
      last h = at (eqb x.session other) refl (going_operation p (before other) h)
        where
          at : (b : Bool) → eqb x.session other ≡ b → (g : Going) × (before other ≡ Some g) × (g.operation ≡ p) → IsAtOperation p (after other) (cond b (Some x) None)
          at false e g = subst (λ G. IsAtOperation p G None) (sym (on.others other (apart x.session other e) ∙ g.1)) g.2
          at true e g = (on.own g.0 (ap before (eqb-true x.session other e) ∙ g.1)).operation ∙ g.2

  promise_more : (e : Entry) (later : List Entry) (r : Option Reply) → Promises before e later r → Promises after e (later ++ x ∷ []) r
  promise_more e later (Some (reply.Refused refused.JobRunning)) h = record { other = h.other; is_other = h.is_other; number = h.number; asked = h.asked; at_job = job_more h.number h.other later h.at_job }
  promise_more e later (Some (reply.Pending p)) h = record { other = h.other; is_other = h.is_other; at_operation = operation_more p h.other later h.at_operation }
  promise_more e later r h = tt

  pub promises_more : (history : List Entry) → KeepsPromises before history → Promises after x [] x.reply → KeepsPromises after (history ++ x ∷ [])
  promises_more [] h p = (p, tt)
  promises_more (e ∷ later) h p = (promise_more e later e.reply h.0, promises_more later h.1 p)

  -- so it is with the operations that were tried
  named_next_more : (ops : List Op) (later : List Entry) → AllNamedNext before later ops → AllNamedNext after (later ++ x ∷ []) ops
  named_next_more [] later h = tt
  named_next_more (op ∷ ops) later h = (record { session = h.0.session; at_operation = operation_more op.number h.0.session later h.0.at_operation }, named_next_more ops later h.1)

  pub named_more : (past : Timeline) (later : List Entry) → AreNamed before past later → AreNamed after past (later ++ x ∷ [])
  named_more [] later h = tt
  named_more (Happened (Committed place change took) ∷ past) later h = (named_next_more (logs_put change) later h.0, named_more past later h.1)
  named_more (Happened (Wrote bytes) ∷ past) later h = named_more past later h
  named_more (Happened (Reopened place cells) ∷ past) later h = named_more past later h
  named_more (Entered e ∷ past) later h = named_more past (e ∷ later) h

-- ---- between entries

module _ (before after : AllGoing) (session : ℕ) (g : Going) (takes : TakesUp before after session g) where
  job_stays : (number other : ℕ) (found : Option Entry) → IsAtJob number (before other) found → IsAtJob number (after other) found
  job_stays number other (Some e) h = h
  job_stays number other None h = at (eqb session other) refl (going_job number (before other) h)
    where
      at : (b : Bool) → eqb session other ≡ b → (old : Going) × (before other ≡ Some old) × (asked_number old.command ≡ Some number) → IsAtJob number (after other) None
      at false e old = subst (λ G. IsAtJob number G None) (sym (takes.others other (apart session other e) ∙ old.1)) old.2
      at true e old = subst (λ G. IsAtJob number G None) (sym (sym (ap after (eqb-true session other e)) ∙ takes.going))
          (ap asked_number (takes.command old.0 (ap before (eqb-true session other e) ∙ old.1)) ∙ old.2)

  operation_stays : (number other : ℕ) (found : Option Entry) → (number ≡ 0 → ⊥) → IsAtOperation number (before other) found → IsAtOperation number (after other) found
  operation_stays number other (Some e) some h = h
  operation_stays number other None some h = at (eqb session other) refl (going_operation number (before other) h)
    where
      at : (b : Bool) → eqb session other ≡ b → (old : Going) × (before other ≡ Some old) × (old.operation ≡ number) → IsAtOperation number (after other) None
      at false e old = subst (λ G. IsAtOperation number G None) (sym (takes.others other (apart session other e) ∙ old.1)) old.2
      at true e old = ⊎_elim
          (λ none. absurd (some (sym old.2 ∙ none)))
          (λ same. subst (λ G. IsAtOperation number G None) (sym (sym (ap after (eqb-true session other e)) ∙ takes.going)) (same ∙ old.2))
          (takes.operation old.0 (ap before (eqb-true session other e) ∙ old.1))

  promise_stays : (e : Entry) (later : List Entry) (r : Option Reply) → (r ≡ Some (reply.Pending 0) → ⊥) → Promises before e later r → Promises after e later r
  promise_stays e later (Some (reply.Refused refused.JobRunning)) some h = record { other = h.other; is_other = h.is_other; number = h.number; asked = h.asked; at_job = job_stays h.number h.other (next_answered h.other later) h.at_job }
  promise_stays e later (Some (reply.Pending p)) some h = record { other = h.other; is_other = h.is_other; at_operation = operation_stays p h.other (next_of h.other later) (λ z. some (ap (λ n. Some (reply.Pending n)) z)) h.at_operation }
  promise_stays e later r some h = tt

  pub promises_stay : (history : List Entry) → NamesOperations history → KeepsPromises before history → KeepsPromises after history
  promises_stay [] some h = tt
  promises_stay (e ∷ later) some h = (promise_stays e later e.reply some.0 h.0, promises_stay later some.1 h.1)

  -- so it is with the operations that were tried, whose numbers are not 0
  named_next_stay : (ops : List Op) (later : List Entry) → AreNumbered ops → AllNamedNext before later ops → AllNamedNext after later ops
  named_next_stay [] later some h = tt
  named_next_stay (op ∷ ops) later some h =
      (record { session = h.0.session; at_operation = operation_stays op.number h.0.session (next_of h.0.session later) some.0 h.0.at_operation }, named_next_stay ops later some.1 h.1)

  pub named_stay : (past : Timeline) (later : List Entry) → TriesNumbered past → AreNamed before past later → AreNamed after past later
  named_stay [] later some h = tt
  named_stay (Happened (Committed place change took) ∷ past) later some h = (named_next_stay (logs_put change) later some.0 h.0, named_stay past later some.1 h.1)
  named_stay (Happened (Wrote bytes) ∷ past) later some h = named_stay past later some h
  named_stay (Happened (Reopened place cells) ∷ past) later some h = named_stay past later some h
  named_stay (Entered e ∷ past) later some h = named_stay past (e ∷ later) some h
