-- A legal history of plain commands is the plain step's run, where the run ended with status 0 or 1.
use Rattle.std.proofs.Common.{◌≡◌, ◌≢◌, ℕ, ◌+◌, Bool, true, false, cond, ◌==◌, List, [], ◌∷◌, ◌++◌, length, Some, None, filter, take, slice_get, refl, sym, ap, ◌∙◌, subst, arith}
use Rattle.std.specs.List.{AllByRecursion}
use Rattle.std.proofs.lemmas.List.{take_all, length_push, append_assoc, append-nil}
use Rattle.cell_world.specs.Images.{Image, Trail, after_all, image_at, end_of_trail}
use Rattle.cell_world.specs.Plain.{PlainState, nobody, with_connections}
use Rattle.cell_world.specs.Meaning.{meaning}
use Rattle.plain_model.specs.declared.commands.Asked.{Asked}
use Rattle.plain_model.specs.declared.history.Entry.{Entry}
use Rattle.plain_model.specs.declared.replies.Reply.{Reply}
use Rattle.plain_model.specs.declared.replies.Reply.TheVariants as reply
use Rattle.plain_model.specs.Refusing.{if_there}
use Rattle.plain_model.specs.Summary.{replies_of, is_fault, is_memory}
use Rattle.plain_model.specs.Timelines.{Past}
use Rattle.plain_model.specs.Legal.{AllGoing, KeepsPromises, Promises, PromisesOperation, IsAtOperation, next_of}
use Rattle.plain_model.specs.ByMoments.{moment_of, standing, FollowsAt, LegalByMoments}
use Rattle.plain_model.specs.Headline.{FollowsTo, GoesOnFrom, IsLegalHistory, IsLegalByStates}
use Rattle.plain_model.proofs.Moments.{get_mid}
use Rattle.plain_model.proofs.LegalBack.{moment_at}
use Rattle.plain_runs.specs.PlainRuns.{is_plain, AreAnswersTo, IsPlainRun}
use Rattle.plain_runs.proofs.PlainLaws.{is_calm, AnswerCalmly, Chains, chain_is_plain}

-- ---- one session alone is never answered `pending`

abbrev pub AreOfOne : List Entry → Type 0
AreOfOne = AllByRecursion (λ (e : Entry). e.session ≡ 1)

-- no entry is of another session
none_of_other : (other : ℕ) → other ≢ 1 → (later : List Entry) → AreOfOne later → next_of other later ≡ None
none_of_other other not_one [] all = refl
none_of_other other not_one (e ∷ later) all = by (e.session == other) refl (none_of_other other not_one later all.1)
  where
    by : (b : Bool) → (e.session == other) ≡ b → next_of other later ≡ None → cond b (Some e) (next_of other later) ≡ None
    by true is none = let same : e.session ≡ other = grind (arith, is) in absurd (not_one (sym same ∙ all.0))
    by false is none = none

module _ (going : AllGoing) (rests : (session : ℕ) → going session ≡ None) where
  not_pending : (e : Entry) (later : List Entry) (number : ℕ) → e.session ≡ 1 → AreOfOne later → PromisesOperation going e later number → ⊥
  not_pending e later number one all promises =
      let other : ℕ = promises.other in
      let not_one : other ≢ 1 = λ same. promises.is_other (same ∙ sym one) in
      let none : IsAtOperation number None None = subst (λ g. IsAtOperation number g None) (rests other) (subst (IsAtOperation number (going other)) (none_of_other other not_one later all) promises.at_operation) in none

-- ---- no failed call, no want of memory, no other session

no_more : (sort : Reply → Bool) (e : Entry) (es : List Entry) → replies_of sort (e ∷ es) ≡ 0 → (if_there sort e.reply ≡ false) × (replies_of sort es ≡ 0)
no_more sort e es = by (if_there sort e.reply)
  where
    by : (b : Bool) → length (cond b (e ∷ filter (λ (y : Entry). if_there sort y.reply) es) (filter (λ (y : Entry). if_there sort y.reply) es)) ≡ 0 → (b ≡ false) × (replies_of sort es ≡ 0)
    by true is = absurd (omega (arith, is))
    by false is = (refl, is)

of_calm : (r : Reply) → is_fault r ≡ false → is_memory r ≡ false → ((number : ℕ) → r ≡ reply.Pending number → ⊥) → is_calm r ≡ true
of_calm (reply.Pending number) fault memory pending = absurd (pending number refl)
of_calm reply.Fault fault memory pending = absurd cc
of_calm reply.Memory fault memory pending = absurd cc
of_calm r fault memory pending = refl

-- what a script asks is of session 1, and plain
abbrev pub IsPlainAsked : Asked → Type 0
IsPlainAsked asked = (is_plain asked.command ≡ true) × (asked.session ≡ 1)

of_one : (script : List Asked) (history : List Entry) → AllByRecursion IsPlainAsked script → AreAnswersTo script history → AreOfOne history
of_one [] [] plain all = tt
of_one [] (e ∷ history) plain all = absurd all
of_one (asked ∷ script) [] plain all = absurd all
of_one (asked ∷ script) (e ∷ history) plain all = (all.0.session ∙ plain.0.1, of_one script history plain.1 all.1)

module _ (going : AllGoing) (rests : (session : ℕ) → going session ≡ None) where
  answer_calmly : (script : List Asked) (history : List Entry) → AllByRecursion IsPlainAsked script → AreAnswersTo script history → replies_of is_fault history ≡ 0 → replies_of is_memory history ≡ 0 → KeepsPromises going history
      → AnswerCalmly script history
  answer_calmly [] [] plain all no_fault no_memory promises = tt
  answer_calmly [] (e ∷ history) plain all no_fault no_memory promises = absurd all
  answer_calmly (asked ∷ script) [] plain all no_fault no_memory promises = absurd all
  answer_calmly (asked ∷ script) (e ∷ history) plain all no_fault no_memory promises =
      let one = all.0 in
      let f = no_more is_fault e history no_fault in
      let m = no_more is_memory e history no_memory in (
        record {
          session = one.session;
          command = one.command;
          plain = plain.0.0;
          answer = one.answer;
          reply = one.reply;
          calm = of_calm one.answer (ap (if_there is_fault) (sym one.reply) ∙ f.0) (ap (if_there is_memory) (sym one.reply) ∙ m.0)
              (λ number is. not_pending going rests e history number (one.session ∙ plain.0.1) (of_one script history plain.1 all.1)
              (subst (Promises going e history) (one.reply ∙ ap Some is) promises.0));
        },
        answer_calmly script history plain.1 all.1 f.1 m.1 promises.1,
      )

-- ---- over a world that tells its contents alone

states_chain : (history : List Entry) (past : Past) (A last : PlainState) → FollowsTo past A history last → Chains A history last
states_chain [] past A last follows = follows
states_chain (e ∷ history) past A last follows = (follows.0, (past, follows.1), states_chain history _ follows.0 last follows.2)

-- ---- over a world that tells its trail

module _ (trail : Trail) (t0 : ℕ) (going : AllGoing) (history : List Entry) (legal : LegalByMoments trail t0 going history) where
  -- the state after n entries
  abbrev state_at : ℕ → PlainState
  state_at n = standing trail (moment_of t0 history n) (legal.connections n)

  moments_chain : (done es : List Entry) → done ++ es ≡ history → Chains (state_at (length done)) es (state_at (length history))
  moments_chain done [] split = ap (λ hs. state_at (length hs)) (sym (append-nil done) ∙ split)
  moments_chain done (e ∷ es) split =
      let n : ℕ = length done in
      let at : slice_get history n ≡ Some e = ap (λ hs. slice_get hs n) (sym split) ∙ get_mid done es e in
      let follows : FollowsAt trail t0 (take n history) e (legal.connections n) (legal.connections (n + 1)) = legal.follows n e at in
      let rest : (done ++ e ∷ []) ++ es ≡ history = append_assoc done (e ∷ []) es ∙ split in
      let more : Chains (state_at (length (done ++ e ∷ []))) es (state_at (length history)) = moments_chain (done ++ e ∷ []) es rest in
      let longer : length (done ++ e ∷ []) ≡ n + 1 = length_push done e in
      let here : state_at (n + 1) ≡ standing trail e.moment (legal.connections (n + 1)) = ap (λ m. standing trail m (legal.connections (n + 1))) (moment_at t0 history n e at) in (
        standing trail e.moment (legal.connections (n + 1)),
        (_, follows.follows),
        subst (λ A. Chains A es (state_at (length history))) (ap state_at longer ∙ here) more,
      )

-- ---- both

-- where a run ended with status 0 or 1
module _ (script : List Asked) (history : List Entry) (plain : AllByRecursion IsPlainAsked script) (answers : AreAnswersTo script history) (no_fault : replies_of is_fault history ≡ 0) (no_memory : replies_of is_memory history ≡ 0) where
  pub plain_by_states : (first last : Image) → IsLegalByStates false first last script history → IsPlainRun script first last history
  plain_by_states first last legal =
      let calm = answer_calmly legal.going (λ session. (legal.left session).none refl) script history plain answers no_fault no_memory legal.promises in
      let run = chain_is_plain script history (meaning first) legal.end calm (states_chain history [] (meaning first) legal.end legal.follows) in
      record { answers = answers; replies = run.replies; state = sym legal.stands ∙ ap (λ s. with_connections s nobody) run.state }

  pub plain_on_trail : (before trail : Trail) → GoesOnFrom before trail → IsLegalHistory false trail (end_of_trail before) script history → IsPlainRun script (image_at before (end_of_trail before)) (image_at trail (end_of_trail trail)) history
  plain_on_trail before trail on is =
      let t0 : ℕ = end_of_trail before in
      let legal = is.legal in
      let calm = answer_calmly is.going (λ session. (is.left session).none refl) script history plain answers no_fault no_memory legal.promises in
      let start : image_at trail t0 ≡ image_at before t0 = (λ i. after_all (on.start i) (on.front i)) ∙ ap (after_all before.start) (sym (take_all t0 before.happened (omega arith))) in
      let from : standing trail t0 (legal.connections 0) ≡ meaning (image_at before t0) = (λ i. with_connections (meaning (start i)) (legal.at_first i)) in
      let chain : Chains (standing trail t0 (legal.connections 0)) history (standing trail (moment_of t0 history (length history)) (legal.connections (length history))) = moments_chain trail t0 is.going history legal [] history refl in
      let run = chain_is_plain script history (meaning (image_at before t0)) _ calm (subst (λ A. Chains A history (standing trail (moment_of t0 history (length history)) (legal.connections (length history)))) from chain) in
      record {
        answers = answers;
        replies = run.replies;
        state = ap (λ s. with_connections s nobody) (legal.stands ∙ run.state);
      }
