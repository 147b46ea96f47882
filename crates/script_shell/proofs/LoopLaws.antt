-- The loop over the commands.
use Rattle.std.proofs.Common.{◌≡◌, ◌⊎◌, inl, inr, ℕ, ◌+◌, ◌<◌, ◌≤◌, Bool, true, false, cond, ◌||◌, ◌==◌, nat_lt, length, List, [], ◌∷◌, ◌++◌, Option, Some, None, refl, sym, ap, ◌∙◌, subst, arith}
use Rattle.std.specs.Prelude.{IsSome}
use Rattle.std.specs.List.{AllByRecursion}
use Rattle.std.proofs.lemmas.List.{append_assoc}
use Rattle.cell_world.specs.Texts.{Text}
use Rattle.cell_world.specs.Outside.{IfContents, IsLater, StoreRoseBy}
use Rattle.cell_world.specs.declared.operations.Op.{Op}
use Rattle.cell_world.proofs.ContentsLaws.{contents_all, contents_both, contents_weaker}
use Rattle.cell_world.proofs.OutsideLaws.{later_same, later_then, store_rose_none}
use Rattle.map_ops.specs.Planning.{is_long}
use Rattle.plain_model.specs.declared.commands.Asked.{Asked}
use Rattle.plain_model.specs.declared.finish.RunStatus.{RunStatus}
use Rattle.plain_model.specs.declared.finish.RunStatus.TheVariants as status
use Rattle.plain_model.specs.declared.history.Entry.{Entry}
use Rattle.plain_model.specs.declared.replies.Reply.{Reply}
use Rattle.plain_model.specs.declared.replies.Reply.TheVariants as reply
use Rattle.plain_model.specs.declared.replies.Sort.{Sort}
use Rattle.plain_model.specs.declared.replies.Sort.TheVariants as sort
use Rattle.plain_model.specs.Refusing.{if_there}
use Rattle.plain_model.specs.Summary.{replies_of, counts_as_refused, is_fault, is_memory, sort_of}
use Rattle.plain_model.specs.Written.{EachReply}
use Rattle.plain_model.specs.Headline.{faults, EndsAnswered, EndsWithMemory, StatusCause, has_stopped, is_done}
use Rattle.plain_model.proofs.HistoryLaws.{ends_answered, replies_push, memory_last, memory_none}
use Rattle.op_steps.proofs.Rises.{rose_before, rose_after}
use Rattle.operation_laws.specs.Left.{left_of}
use Rattle.session_laws.specs.Contract.{at_rest, KeepsCore, KeepsCoreTo}
use Rattle.session_laws.specs.Doing.{Resting}
use Rattle.session_laws.proofs.ContractLaws.{core_kept, core_kept_then, core_kept_to, core_kept_to_then}
use Rattle.manager_core.specs.Cores.{Parts, IsReady, seen_of}
use Rattle.manager_core.specs.Events.{IsEntered, IsResting, stop_after}
use Rattle.manager_core.specs.Steady.{IsSettledOp}
use Rattle.manager_core.specs.declared.manager.Outcome.{Outcome}
use Rattle.manager_core.specs.declared.manager.Outcome.TheVariants.{Going, Ended, Stopped}
use Rattle.manager_core.specs.declared.manager.StopCause.TheVariants as cause
use Rattle.script_shell.specs.Promises.{is_of_commands, no_causes, IsUnnumbered, IsNamed}
use Rattle.script_shell.specs.Ran.{Ran, IsAskedAlone, AreServed, IsSettledOrLeft}
use Rattle.script_shell.specs.Serving.{IsToSettle, Served, Serves}
use Rattle.script_shell.specs.Stops.{fails, refuses, status_of, stop_of}
use Rattle.script_shell.proofs.HistoryLaws.{answers_push, all_push, all_weaker}
use Rattle.script_shell.proofs.ReplySorts.{fault_by_sort, fault_sort, memory_by_sort, memory_sort, refused_by_sort, refused_sort}
use Rattle.script_shell.proofs.RiseLaws.{rises_add, rose_once}
use Rattle.script_shell.proofs.ToldLaws.{still_told}

-- the run after some commands, none of which met want of memory
pub record SoFar (script rest : List Asked) (old now : Parts) (faulted refused : Bool) : Type 0 where
  pub done : List Asked
  pub split : script ≡ done ++ rest
  pub answered : AreServed done now.history
  pub goes : now.stop ≡ None
  pub resting : (session : ℕ) → IsResting (now.doing session)
  pub ready : IsReady old → IsReady now
  pub keeps : IsReady old → KeepsCore (EachReply false) old.outside.told (seen_of old) now.outside.told (seen_of now) []
  pub keeps_to : IsReady old → KeepsCoreTo old.outside.told (seen_of old) now.outside.told (seen_of now)
  pub settled : IsReady old → (StoreRoseBy 1 old.outside now.outside → ⊥) → AllByRecursion (IsSettledOrLeft now) now.history
  pub numbered : AllByRecursion IsUnnumbered now.history
  pub named : IsReady old → IfContents now.outside.told (λ image. AllByRecursion IsNamed now.history)
  pub later : IsLater old.outside now.outside
  pub few_faults : StoreRoseBy (faults now.history) old.outside now.outside
  pub no_memory : replies_of is_memory now.history ≡ 0
  pub some_fault : faulted ≡ nat_lt 0 (faults now.history)
  pub some_refused : refused ≡ nat_lt 0 (replies_of counts_as_refused now.history)

pub so_far_none : (script rest : List Asked) (p : Parts) → p.history ≡ [] → p.stop ≡ None → ((session : ℕ) → p.doing session ≡ Resting None) → rest ≡ script → SoFar script rest p p false false
so_far_none script rest p none goes rests all = record {
  done = [];
  split = sym all;
  answered = subst (AreServed []) (sym none) tt;
  goes = goes;
  resting = λ session. subst IsResting (sym (rests session)) tt;
  ready = λ ready. ready;
  keeps = λ ready. core_kept (EachReply false) p.outside.told (seen_of p);
  keeps_to = λ ready. core_kept_to p.outside.told (seen_of p);
  settled = λ ready calm. subst (AllByRecursion (IsSettledOrLeft p)) (sym none) tt;
  numbered = subst (AllByRecursion IsUnnumbered) (sym none) tt;
  named = λ ready. contents_all p.outside.told _ (λ image. subst (AllByRecursion IsNamed) (sym none) tt);
  later = later_same p.outside;
  few_faults = subst (λ h. StoreRoseBy (faults h) p.outside p.outside) (sym none) (store_rose_none p.outside p.outside (later_same p.outside).faults);
  no_memory = subst (λ h. replies_of is_memory h ≡ 0) (sym none) refl;
  some_fault = subst (λ h. false ≡ nat_lt 0 (faults h)) (sym none) refl;
  some_refused = subst (λ h. false ≡ nat_lt 0 (replies_of counts_as_refused h)) (sym none) refl;
}

-- the same run, with the two flags as they were computed
pub so_far_is : (script rest : List Asked) (old now : Parts) (faulted refused faulted_now refused_now : Bool) → faulted_now ≡ faulted → refused_now ≡ refused → SoFar script rest old now faulted refused → SoFar script rest old now faulted_now refused_now
so_far_is script rest old now faulted refused faulted_now refused_now fault refuses so = subst (SoFar script rest old now faulted_now) (sym refuses) (subst (λ b. SoFar script rest old now b refused) (sym fault) so)

-- what has no length is empty
pub no_length : {A : Type 0} (xs : List A) (n : ℕ) → n ≡ 0 → n ≡ length xs → xs ≡ []
no_length [] n none is = refl
no_length (x ∷ xs) n none is = absurd (omega (arith, none, is))

-- what is next and what is left may be asked
pub asked_left : (asked : Asked) (left rest : List Asked) → left ≡ asked ∷ rest → AllByRecursion IsAskedAlone left → IsAskedAlone asked × AllByRecursion IsAskedAlone rest
asked_left asked left rest next all = subst (AllByRecursion IsAskedAlone) next all

pub of_session_one : (session sessions : ℕ) → session ≡ 1 → sessions ≡ 1 → (1 ≤ session) × (session ≤ sessions)
of_session_one session sessions is one = (omega (arith, is), omega (arith, is, one))

-- nobody does anything, and nothing was asked
pub began_at_rest : (p : Parts) → p.history ≡ [] → ((session : ℕ) → p.doing session ≡ Resting None) → seen_of p ≡ at_rest []
began_at_rest p none rests i = record { history = none i; doing = λ session. rests session i; connections = Rattle.cell_world.specs.Plain.nobody }

-- ---- one command more

module _ (script : List Asked) (asked : Asked) (rest left : List Asked) (old mid new : Parts) (faulted refused : Bool) (so : SoFar script left old mid faulted refused) (next : left ≡ asked ∷ rest)
    (one : asked.session ≡ 1) (later : IsLater mid.outside new.outside) where
  done_more : script ≡ (so.done ++ asked ∷ []) ++ rest
  done_more = so.split ∙ ap (λ others. so.done ++ others) next ∙ sym (append_assoc so.done (asked ∷ []) rest)

  onward : IsLater old.outside new.outside
  onward = later_then old.outside mid.outside new.outside so.later later

  module _ (r : Reply) (unwritten : Text) (served : Served asked.session asked.command r mid new unwritten) where
    abbrev added : IsEntered asked.session asked.command r served.number mid.history new.history
    added = served.entered

    answered_more : AreServed (so.done ++ asked ∷ []) new.history
    answered_more = subst (AreServed (so.done ++ asked ∷ [])) (sym added.added)
        (answers_push so.done mid.history asked added.entry so.answered (record { session = added.of_session; command = added.command; answer = r; reply = added.answered }))

    resting_more : (session : ℕ) → IsResting (new.doing session)
    resting_more session = by (asked.session == session) refl
      where
        by : (b : Bool) → (asked.session == session) ≡ b → IsResting (new.doing session)
        by true is = let same : asked.session ≡ session = grind (arith, is) in subst (λ n. IsResting (new.doing n)) same (subst IsResting (sym served.rests.here) tt)
        by false is = subst IsResting (sym (served.rests.others session (λ same. absurd (grind (arith, is, same))))) (so.resting session)

    count_more : (sort : Reply → Bool) → replies_of sort new.history ≡ replies_of sort mid.history + cond (sort r) 1 0
    count_more sort = ap (replies_of sort) added.added ∙ replies_push sort mid.history added.entry ∙ ap (λ x. replies_of sort mid.history + cond (if_there sort x) 1 0) added.answered

    ends_more : EndsAnswered new.history
    ends_more = subst EndsAnswered (sym added.added) (ends_answered mid.history added.entry (subst IsSome (sym added.answered) refl))

    memory_more : EndsWithMemory new.history
    memory_more = subst EndsWithMemory (sym added.added) (memory_last mid.history added.entry so.no_memory)

    -- each fault has a rise of its own
    faults_more : StoreRoseBy (faults new.history) old.outside new.outside
    faults_more = subst (λ n. StoreRoseBy n old.outside new.outside) (sym (count_more is_fault))
        (rises_add (faults mid.history) (cond (is_fault r) 1 0) old.outside mid.outside new.outside so.later later so.few_faults (rose (is_fault r) refl))
      where
        is_one : (r : Reply) → is_fault r ≡ true → r ≡ reply.Fault
        is_one reply.Fault is = refl
        is_one r is = absurd cc

        rose : (b : Bool) → is_fault r ≡ b → StoreRoseBy (cond b 1 0) mid.outside new.outside
        rose true fault = served.fault (is_one r fault)
        rose false fault = store_rose_none mid.outside new.outside later.faults

    keeps_more : IsReady old → KeepsCore (EachReply false) old.outside.told (seen_of old) new.outside.told (seen_of new) unwritten
    keeps_more ready = core_kept_then (EachReply false) old.outside.told mid.outside.told new.outside.told (seen_of old) (seen_of mid) (seen_of new) unwritten (so.keeps ready) (served.keeps (so.ready ready))

    keeps_to_more : IsReady old → KeepsCoreTo old.outside.told (seen_of old) new.outside.told (seen_of new)
    keeps_to_more ready = core_kept_to_then old.outside.told mid.outside.told new.outside.told (seen_of old) (seen_of mid) (seen_of new) (so.keeps_to ready) (served.keeps_to (so.ready ready))

    some_is : (a b : Reply) → Some a ≡ Some b → a ≡ b
    some_is a b is = cc

    -- what earlier commands left is settled by now, and this one's operation is to be settled
    settled_more : (r ≡ reply.Memory → ⊥) → IsReady old → (StoreRoseBy 1 old.outside new.outside → ⊥) → AllByRecursion (IsSettledOrLeft new) new.history
    settled_more enough ready calm = subst (AllByRecursion (IsSettledOrLeft new)) (sym added.added) (all_push (IsSettledOrLeft new) mid.history added.entry
        (all_weaker (IsSettledOrLeft mid) (IsSettledOrLeft new) mid.history earlier (so.settled ready (λ rose. calm (rose_before old.outside mid.outside new.outside rose later so.later)))) last)
      where
        settled_now : (op : Op) → IfContents mid.outside.told (IsSettledOp op) ⊎ (left_of (mid.doing 1) ≡ Some op) → IfContents new.outside.told (IsSettledOp op)
        settled_now op (inl settled) = served.settled (so.ready ready) op settled
        settled_now op (inr here) = served.settles (so.ready ready) op (subst (λ n. left_of (mid.doing n) ≡ Some op) (sym one) here) enough (λ rose. calm (rose_after old.outside mid.outside new.outside so.later rose))

        earlier : (e : Entry) → IsSettledOrLeft mid e → IsSettledOrLeft new e
        earlier e held ok number = let it = held ok number in (it.0, it.1, inl (settled_now it.0 it.2))

        to_settle : (served.number ≡ 0) ⊎ IsToSettle served.number served.left → (added.entry.operation ≡ 0 → ⊥)
            → (op : Op) × (op.number ≡ added.entry.operation) × (IfContents new.outside.told (IsSettledOp op) ⊎ (left_of (new.doing 1) ≡ Some op))
        to_settle (inl none) number = absurd (number (added.operation ∙ none))
        to_settle (inr (op, named, here)) number = (op, named ∙ sym added.operation, inr (subst (λ n. left_of (new.doing n) ≡ Some op) one (ap left_of served.rests.here ∙ here)))

        last : IsSettledOrLeft new added.entry
        last ok number = to_settle (served.to_settle (so.ready ready) (some_is r reply.Ok (sym added.answered ∙ ok))) number

    numbered_more : AllByRecursion IsUnnumbered new.history
    numbered_more = subst (AllByRecursion IsUnnumbered) (sym added.added) (all_push IsUnnumbered mid.history added.entry so.numbered
        (λ short. added.operation ∙ served.short (ap is_long (sym added.command) ∙ short)))

    named_more : IsReady old → IfContents new.outside.told (λ image. AllByRecursion IsNamed new.history)
    named_more ready = contents_weaker new.outside.told _ _ (λ image both. subst (AllByRecursion IsNamed) (sym added.added) (all_push IsNamed mid.history added.entry both.0
        (λ long ok none. (both.1 (ap is_long (sym added.command) ∙ long) (some_is r reply.Ok (sym added.answered ∙ ok))).0 (sym added.operation ∙ none))))
        (contents_both new.outside.told _ _ (still_told mid.outside new.outside (served.settled (so.ready ready)) _ (so.named ready)) (served.named (so.ready ready)))

  -- the run goes on after a reply that is no want of memory
  pub so_far_more : (outcome : Outcome) → stop_of outcome ≡ None → Serves asked.session asked.command mid new outcome → SoFar script rest old new (faulted || fails outcome) (refused || refuses outcome)
  so_far_more outcome goes serves = by outcome goes serves
    where
      or_is : (a b : Bool) (n : ℕ) → a ≡ nat_lt 0 n → (a || b) ≡ nat_lt 0 (n + cond b 1 0)
      or_is true b n is = grind (arith, is)
      or_is false true n is = grind (arith, is)
      or_is false false n is = grind (arith, is)

      -- whether some reply is of a kind, after one more
      count_is : (kind : Reply → Bool) (by_sort : Sort → Bool) (r : Reply) (s : Sort) → kind r ≡ by_sort s → (some : Bool) → some ≡ nat_lt 0 (replies_of kind mid.history) → replies_of kind new.history ≡ replies_of kind mid.history + cond (kind r) 1 0
          → (some || by_sort s) ≡ nat_lt 0 (replies_of kind new.history)
      count_is kind by_sort r s is some before count = or_is some (by_sort s) (replies_of kind mid.history) before ∙ ap (λ b. nat_lt 0 (replies_of kind mid.history + cond b 1 0)) (sym is) ∙ ap (nat_lt 0) (sym count)

      no_stop : (r : Reply) → memory_sort (sort_of r) ≡ false → stop_after r ≡ None
      no_stop (reply.Refused x) enough = refl
      no_stop (reply.Pending n) enough = refl
      no_stop reply.Fault enough = refl
      no_stop reply.Memory enough = absurd cc
      no_stop r enough = refl

      more : (s : Sort) (no_memory : memory_sort s ≡ false) → Serves asked.session asked.command mid new (Ended s) → SoFar script rest old new (faulted || fault_sort s) (refused || refused_sort s)
      more s no_memory c =
          let r = c.0 in
          let enough : is_memory r ≡ false = memory_by_sort r ∙ ap memory_sort (sym c.1) ∙ no_memory in
          record {
            done = so.done ++ asked ∷ [];
            split = done_more;
            answered = answered_more r [] c.3;
            goes = c.2 ∙ no_stop r (ap memory_sort (sym c.1) ∙ no_memory);
            resting = resting_more r [] c.3;
            ready = λ ready. c.3.ready (so.ready ready);
            keeps = keeps_more r [] c.3;
            keeps_to = keeps_to_more r [] c.3;
            settled = settled_more r [] c.3 (λ is. not_so is_memory r reply.Memory is refl enough);
            numbered = numbered_more r [] c.3;
            named = named_more r [] c.3;
            later = onward;
            few_faults = faults_more r [] c.3;
            no_memory = count_more r [] c.3 is_memory ∙ (λ i. so.no_memory i + cond (enough i) 1 0);
            some_fault = count_is is_fault fault_sort r s (fault_by_sort r ∙ ap fault_sort (sym c.1)) faulted so.some_fault (count_more r [] c.3 is_fault);
            some_refused = count_is counts_as_refused refused_sort r s (refused_by_sort r ∙ ap refused_sort (sym c.1)) refused so.some_refused (count_more r [] c.3 counts_as_refused);
          }
        where
          not_so : (sort : Reply → Bool) (r x : Reply) → r ≡ x → sort x ≡ true → sort r ≡ false → ⊥
          not_so sort r x is so_it isnt = let both : true ≡ false = sym so_it ∙ ap sort (sym is) ∙ isnt in absurd cc

      by : (outcome : Outcome) → stop_of outcome ≡ None → Serves asked.session asked.command mid new outcome → SoFar script rest old new (faulted || fails outcome) (refused || refuses outcome)
      by (Ended sort.Good) goes c = more sort.Good refl c
      by (Ended sort.Refused) goes c = more sort.Refused refl c
      by (Ended sort.Fault) goes c = more sort.Fault refl c
      by (Ended sort.Memory) goes c = absurd cc
      by (Going number) goes c = absurd c
      by (Stopped cause.Sink) goes c = absurd cc
      by (Stopped cause.Memory) goes c = absurd cc

  -- ---- the run stopped after a command

  pub ends_stopped : (outcome : Outcome) (ending : RunStatus) → stop_of outcome ≡ Some ending → Serves asked.session asked.command mid new outcome → Ran script old new ending
  ends_stopped outcome ending is serves = by outcome is serves
    where
      -- an entry was added, with all lines written or a rest
      entered : (r : Reply) (unwritten : Text) (ending : RunStatus) → Served asked.session asked.command r mid new unwritten → has_stopped ending ≡ true → is_done ending ≡ false
          → is_of_commands ending ≡ true → StatusCause no_causes old.outside new.outside new.history ending → Ran script old new ending
      entered r unwritten ending served stops not_done of caused = record {
        done = so.done ++ asked ∷ [];
        rest = rest;
        split = done_more;
        answered = answered_more r unwritten served;
        all = λ goes. absurd (stopped goes);
        unwritten = unwritten;
        written = inr (stops, ends_more r unwritten served);
        resting = resting_more r unwritten served;
        ready = λ ready. served.ready (so.ready ready);
        keeps = keeps_more r unwritten served;
        keeps_to = keeps_to_more r unwritten served;
        settled = λ done. absurd (undone done);
        numbered = numbered_more r unwritten served;
        named = named_more r unwritten served;
        cause = caused;
        of_commands = of;
        few_faults = faults_more r unwritten served;
        ends_with_memory = memory_more r unwritten served;
        later = onward;
      }
        where
          undone : is_done ending ≡ true → ⊥
          undone done = let no : true ≡ false = sym done ∙ not_done in absurd cc

          stopped : has_stopped ending ≡ false → ⊥
          stopped goes = let no : true ≡ false = sym stops ∙ goes in absurd cc

      -- the status by the outcome
      is_ending : (found : RunStatus) → Some found ≡ Some ending → found ≡ ending
      is_ending found e = ap (unwrap_or_else found) e
        where
          unwrap_or_else : RunStatus → Option RunStatus → RunStatus
          unwrap_or_else other None = other
          unwrap_or_else other (Some it) = it

      by : (outcome : Outcome) → stop_of outcome ≡ Some ending → Serves asked.session asked.command mid new outcome → Ran script old new ending
      by (Ended sort.Good) is c = absurd cc
      by (Ended sort.Refused) is c = absurd cc
      by (Ended sort.Fault) is c = absurd cc
      by (Ended sort.Memory) is c = subst (Ran script old new) (is_ending status.Memory is) (entered c.0 [] status.Memory c.3 refl refl refl tt)
      by (Going number) is c = absurd c
      by (Stopped cause.Sink) is c = subst (Ran script old new) (is_ending status.WriteFault is)
          (entered c.0 c.2.0 status.WriteFault c.2.1 refl refl refl (omega (arith, so.later.sink, c.1), ends_more c.0 c.2.0 c.2.1))
      by (Stopped cause.Memory) is c = subst (Ran script old new) (is_ending status.Memory is) (entered c.0 c.1.0 status.Memory c.1.1 refl refl refl tt)

-- ---- all commands were asked

pub ends_all : (script rest : List Asked) (old now : Parts) (faulted refused : Bool) (ending : RunStatus) → SoFar script rest old now faulted refused → rest ≡ [] → ending ≡ status_of faulted refused → Ran script old now ending
ends_all script rest old now faulted refused ending so none is = subst (Ran script old now) (sym is) (by faulted refused so.some_fault so.some_refused)
  where
    ran : (ending : RunStatus) → is_of_commands ending ≡ true → StatusCause no_causes old.outside now.outside now.history ending → Ran script old now ending
    ran ending of caused = record {
      done = so.done;
      rest = rest;
      split = so.split;
      answered = so.answered;
      all = λ goes. none;
      unwritten = [];
      written = inl refl;
      resting = so.resting;
      ready = so.ready;
      keeps = so.keeps;
      keeps_to = so.keeps_to;
      settled = λ done. so.settled;
      numbered = so.numbered;
      named = so.named;
      cause = caused;
      of_commands = of;
      few_faults = so.few_faults;
      ends_with_memory = memory_none now.history so.no_memory;
      later = so.later;
    }

    no_fault : false ≡ nat_lt 0 (faults now.history) → faults now.history ≡ 0
    no_fault none = grind (arith, none)

    by : (fault some : Bool) → fault ≡ nat_lt 0 (faults now.history) → some ≡ nat_lt 0 (replies_of counts_as_refused now.history) → Ran script old now (status_of fault some)
    by true some fault refuses =
        let failed : 0 < faults now.history = grind (arith, fault) in
        ran status.StoreFault refl (rose_once (faults now.history) old.outside now.outside (omega (arith, failed)) so.few_faults, inl failed, so.no_memory)
    by false true fault refuses = ran status.Refused refl (grind (arith, refuses), no_fault fault, so.no_memory)
    by false false fault refuses = ran status.Done refl (grind (arith, refuses), no_fault fault, so.no_memory)
