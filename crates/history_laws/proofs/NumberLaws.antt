-- The numbers that a run gives: they are the counter's, which never falls, and none stands in the start's log.
use Rattle.std.proofs.Common.{◌≡◌, ◌⊎◌, inl, inr, ⊎_elim, ℕ, ◌≤◌, arith, Bool, true, false, ◌||◌, not, refl, sym, ap, ◌∙◌, subst, Some, None, Option, IfSome, List, [], ◌∷◌, ◌++◌}
use Rattle.std.specs.Prelude.{◌==◌}
use Rattle.std.specs.Bool.{MatchBool}
use Rattle.std.specs.List.{list_any}
use Rattle.std.specs.FinMap as map
use Rattle.std.proofs.lemmas.Bool.{eqb-true, and_parts}
use Rattle.cell_world.specs.Lists.{IsOneOf}
use Rattle.cell_world.specs.Images.{Image, Global, Shard, Happening, Committed, Wrote, Reopened, global}
use Rattle.cell_world.specs.Plain.{PlainState, Connections, with_connections}
use Rattle.cell_world.specs.Meaning.{next_operation}
use Rattle.cell_world.specs.Sound.{Sound}
use Rattle.cell_world.specs.declared.operations.Op.{Op}
use Rattle.cell_world.proofs.ListLaws.{some_at, one_of_two}
use Rattle.plain_model.specs.declared.history.Entry.{Entry}
use Rattle.plain_model.specs.Timelines.{Timeline, Happened, Entered, image_of, facts_of, history_of}
use Rattle.plain_model.specs.JobSteps.{asked_number}
use Rattle.plain_model.specs.OnTrail.{logs_put, logs, is_open, WasTried}
use Rattle.plain_model.specs.Legal.{Unfolds, MayHappen, KeepsCounter, TriesNumber, IsOwnOf, NamesItsOwn}
use Rattle.plain_model.specs.Running.{AllSound}
use Rattle.history_laws.specs.Given.{WasEverTried, IsOfRun}

-- ---- the counter

itself : (n : ℕ) → n ≤ n
itself n = omega arith

no_less : (old new : ℕ) (ops : List Op) → KeepsCounter old new ops → old ≤ new
no_less old new [] h = omega (arith, h)
no_less old new (op ∷ []) h = omega (arith, h.1)
no_less old new (op ∷ other ∷ ops) h = absurd h

pub counter_step : (start : Image) (past : Timeline) (h : Happening) → MayHappen start past h → next_operation (image_of start past) ≤ next_operation (image_of start (Happened h ∷ past))
counter_step start past (Committed Global change true) may = no_less _ _ (logs_put change) may
counter_step start past (Committed Global change false) may = itself _
counter_step start past (Committed (Shard location) change true) may = itself _
counter_step start past (Committed (Shard location) change false) may = itself _
counter_step start past (Wrote bytes) may = itself _
counter_step start past (Reopened Global cells) may = absurd may
counter_step start past (Reopened (Shard location) cells) may = itself _

pub counter_later : (since : ℕ) (start : Image) (later past : Timeline) (cs : Connections) → Unfolds since start (later ++ past) cs → next_operation (image_of start past) ≤ next_operation (image_of start (later ++ past))
counter_later since start [] past cs u = itself _
counter_later since start (Happened h ∷ later) past cs u =
    let before : next_operation (image_of start past) ≤ next_operation (image_of start (later ++ past)) = counter_later since start later past cs u.0 in
    let step : next_operation (image_of start (later ++ past)) ≤ next_operation (image_of start (Happened h ∷ (later ++ past))) = counter_step start (later ++ past) h u.2 in
    omega (arith, before, step)
counter_later since start (Entered e ∷ later) past cs u = counter_later since start later past u.0 u.1

pub counter_from_start : (since : ℕ) (start : Image) (past : Timeline) (cs : Connections) → Unfolds since start past cs → next_operation start ≤ next_operation (image_of start past)
counter_from_start since start [] cs u = itself _
counter_from_start since start (Happened h ∷ past) cs u =
    let before : next_operation start ≤ next_operation (image_of start past) = counter_from_start since start past cs u.0 in
    let step : next_operation (image_of start past) ≤ next_operation (image_of start (Happened h ∷ past)) = counter_step start past h u.2 in
    omega (arith, before, step)
counter_from_start since start (Entered e ∷ past) cs u = counter_from_start since start past u.0 u.1

-- ---- what was tried

-- the number is the counter's, which is no less afterwards
given_made : (old new : ℕ) (ops : List Op) (op : Op) → KeepsCounter old new ops → IsOneOf ops op → op.number ≡ old
given_made old new [] op h one = absurd one
given_made old new (o ∷ []) op h one = ⊎_elim (λ same. sym (ap (λ (o : Op). o.number) same) ∙ h.0) (λ none. absurd none) one
given_made old new (o ∷ other ∷ ops) op h one = absurd h

given_unmade : (next : ℕ) (ops : List Op) (op : Op) → TriesNumber next ops → IsOneOf ops op → op.number ≡ next
given_unmade next [] op h one = absurd one
given_unmade next (o ∷ []) op h one = ⊎_elim (λ same. sym (ap (λ (o : Op). o.number) same) ∙ h) (λ none. absurd none) one
given_unmade next (o ∷ other ∷ ops) op h one = absurd h

given_none : (n : ℕ) (ops : List Op) (op : Op) → ops ≡ [] → IsOneOf ops op → op.number ≡ n
given_none n [] op none one = absurd one
given_none n (o ∷ ops) op none one = absurd cc

-- each log cell that a commit was to put has the counter's number
pub given_now : (start : Image) (past : Timeline) (h : Happening) (op : Op) → MayHappen start past h → WasEverTried (Happened h ∷ []) op → op.number ≡ next_operation (image_of start past)
given_now start past (Committed Global change true) op may was = ⊎_elim (given_made _ _ (logs_put change) op may) (λ none. absurd none) was
given_now start past (Committed Global change false) op may was = ⊎_elim (given_unmade _ (logs_put change) op may) (λ none. absurd none) was
given_now start past (Committed (Shard location) change true) op may was = ⊎_elim (given_none _ (logs_put change) op may.0) (λ none. absurd none) was
given_now start past (Committed (Shard location) change false) op may was = ⊎_elim (given_none _ (logs_put change) op may.0) (λ none. absurd none) was
given_now start past (Wrote bytes) op may was = absurd was
given_now start past (Reopened place cells) op may was = absurd was

-- it was tried just now, or before
now_or_before : (past : Timeline) (h : Happening) (op : Op) → WasEverTried (Happened h ∷ past) op → WasEverTried (Happened h ∷ []) op ⊎ WasEverTried past op
now_or_before past (Committed place change took) op was = ⊎_elim (λ now. inl (inl now)) (λ before. inr before) was
now_or_before past (Wrote bytes) op was = inr was
now_or_before past (Reopened place cells) op was = inr was

pub ever_more : (past : Timeline) (h : Happening) (op : Op) → WasEverTried past op → WasEverTried (Happened h ∷ past) op
ever_more past (Committed place change took) op was = inr was
ever_more past (Wrote bytes) op was = was
ever_more past (Reopened place cells) op was = was

-- the counter's range over the run has the number
abbrev InRange : Image → Image → ℕ → Type 0
InRange start now number = (next_operation start ≤ number) × (number ≤ next_operation now)

in_range : (since : ℕ) (start : Image) (past : Timeline) (cs : Connections) → Unfolds since start past cs → (op : Op) → WasEverTried past op → InRange start (image_of start past) op.number
in_range since start [] cs u op was = absurd was
in_range since start (Entered e ∷ past) cs u op was = in_range since start past u.0 u.1 op was
in_range since start (Happened h ∷ past) cs u op was =
    let step : next_operation (image_of start past) ≤ next_operation (image_of start (Happened h ∷ past)) = counter_step start past h u.2 in
    ⊎_elim
    (λ now. let same : op.number ≡ next_operation (image_of start past) = given_now start past h op u.2 now in
    let from : next_operation start ≤ next_operation (image_of start past) = counter_from_start since start past cs u.0 in (omega (arith, from, same), omega (arith, step, same)))
    (λ before. let r : InRange start (image_of start past) op.number = in_range since start past cs u.0 op before in (r.0, omega (arith, r.1, step)))
    (now_or_before past h op was)

-- ---- the start

pub sound_start : (start : Image) (past : Timeline) → AllSound start past → Sound start
sound_start start [] all = all
sound_start start (Happened h ∷ past) all = sound_start start past all.1
sound_start start (Entered e ∷ past) all = sound_start start past all

-- from the counter's number on nothing stands in the log
pub none_from : (start : Image) → Sound start → (number : ℕ) → next_operation start ≤ number → map.get (global start).log number ≡ None
none_from start sound number from = by (map.get (global start).log number) refl
  where
    by : (found : Option Op) → map.get (global start).log number ≡ found → found ≡ None
    by None is = refl
    by (Some op) is = let named : op.number ≡ number = subst (λ found. IfSome found (λ (op : Op). op.number ≡ number)) is ((sound.keyed Global).log number) in
        absurd (omega (arith, from, named, sound.logged.numbered op (ap (map.get (global start).log) named ∙ is)))

pub of_run : (since : ℕ) (start : Image) (past : Timeline) (cs : Connections) → Unfolds since start past cs → Sound start → (op : Op) → WasEverTried past op → IsOfRun start (image_of start past) op.number
of_run since start past cs u sound op was = let r : InRange start (image_of start past) op.number = in_range since start past cs u op was in record {
  some = omega (arith, r.0, sound.globals.operations.0);
  from_start = r.0;
  to_now = r.1;
  unlogged = none_from start sound op.number r.0;
}

-- ---- what is open, and what entries name

-- a log cell of this number was tried
abbrev pub WasNumberTried : Timeline → ℕ → Type 0
WasNumberTried past number = (op : Op) × WasEverTried past op × (op.number ≡ number)

number_more : (past : Timeline) (h : Happening) (number : ℕ) → WasNumberTried past number → WasNumberTried (Happened h ∷ past) number
number_more past h number t = (t.0, ever_more past h t.0 t.1, t.2)

of_logs : (number : ℕ) (ops : List Op) → list_any (λ (op : Op). op.number == number) ops ≡ true → (op : Op) × IsOneOf ops op × (op.number ≡ number)
of_logs number [] is = absurd cc
of_logs number (op ∷ ops) is = by (op.number == number) refl is (of_logs number ops)
  where
    by : (b : Bool) → (op.number == number) ≡ b → (b || list_any (λ (op : Op). op.number == number) ops) ≡ true
        → (list_any (λ (op : Op). op.number == number) ops ≡ true → (found : Op) × IsOneOf ops found × (found.number ≡ number)) → (found : Op) × IsOneOf (op ∷ ops) found × (found.number ≡ number)
    by true same is more = (op, inl refl, eqb-true op.number number same)
    by false differs is more = let t = more is in (t.0, inr t.1, t.2)

pub open_was_tried : (number : ℕ) (past : Timeline) → is_open number past ≡ true → WasNumberTried past number
open_was_tried number [] is = absurd cc
open_was_tried number (Happened (Committed place change took) ∷ past) is = by (logs number change) refl is (open_was_tried number past)
  where
    by : (b : Bool) → logs number change ≡ b → (b || is_open number past) ≡ true → (is_open number past ≡ true → WasNumberTried past number) → WasNumberTried (Happened (Committed place change took) ∷ past) number
    by true puts is before = let t = of_logs number (logs_put change) puts in (t.0, inl t.1, t.2)
    by false puts is before = number_more past (Committed place change took) number (before is)
open_was_tried number (Happened (Wrote bytes) ∷ past) is = open_was_tried number past is
open_was_tried number (Happened (Reopened place cells) ∷ past) is = open_was_tried number past is
open_was_tried number (Entered e ∷ past) is = open_was_tried number past (and_parts (is_open number past) (not (e.operation == number)) is).0

pub tried_ever : (start : Image) (session : ℕ) (P : Image → Op → Type 0) (past : Timeline) → WasTried start session P past → (image : Image) × (op : Op) × P image op × WasEverTried past op
tried_ever start session P [] was = absurd was
tried_ever start session P (Happened (Committed place change took) ∷ past) was = ⊎_elim
    (λ here. let s = some_at (P (image_of start past)) (logs_put change) here in (image_of start past, s.0, s.2, inl s.1))
    (λ before. let s = tried_ever start session P past before in (s.0, s.1, s.2, inr s.3)) was
tried_ever start session P (Happened (Wrote bytes) ∷ past) was = tried_ever start session P past was
tried_ever start session P (Happened (Reopened place cells) ∷ past) was = tried_ever start session P past was
tried_ever start session P (Entered e ∷ past) was = by (e.session == session) was (tried_ever start session P past)
  where
    by : (b : Bool) → MatchBool b ⊥ (WasTried start session P past) → (WasTried start session P past → (image : Image) × (op : Op) × P image op × WasEverTried past op)
        → (image : Image) × (op : Op) × P image op × WasEverTried past op
    by true was before = absurd was
    by false was before = before was

names_tried : (start : Image) (past : Timeline) (A : PlainState) (e : Entry) → NamesItsOwn start past A e → (e.operation ≡ 0) ⊎ WasNumberTried past e.operation
names_tried start past A e own = ⊎_elim (λ none. inl none)
    (λ was. let t = tried_ever start e.session (λ (image : Image) (op : Op). (op.number ≡ e.operation) × IsOwnOf A e.command (asked_number e.command) image op) past was in inr (t.1, t.3, t.2.0)) own

pub named_was_tried : (since : ℕ) (start : Image) (past : Timeline) (cs : Connections) → Unfolds since start past cs → (e : Entry) → IsOneOf (history_of past) e → (e.operation ≡ 0) ⊎ WasNumberTried past e.operation
named_was_tried since start [] cs u e one = absurd one
named_was_tried since start (Happened h ∷ past) cs u e one = ⊎_elim (λ none. inl none) (λ t. inr (number_more past h e.operation t)) (named_was_tried since start past cs u.0 e one)
named_was_tried since start (Entered d ∷ past) cs u e one = ⊎_elim
    (λ before. named_was_tried since start past u.0 u.1 e before)
    (λ now. ⊎_elim
    (λ same. subst (λ (e : Entry). (e.operation ≡ 0) ⊎ WasNumberTried past e.operation) same
    (names_tried start past (with_connections (facts_of start past) u.0) d u.2.own))
    (λ none. absurd none) now)
    (one_of_two (history_of past) (d ∷ []) e one)

pub number_of_run : (since : ℕ) (start : Image) (past : Timeline) (cs : Connections) → Unfolds since start past cs → Sound start → (number : ℕ) → WasNumberTried past number → IsOfRun start (image_of start past) number
number_of_run since start past cs u sound number t = subst (IsOfRun start (image_of start past)) t.2 (of_run since start past cs u sound t.0 t.1)
