-- Connections stay owned through the entries of commands that are one operation.
use Rattle.std.proofs.Common.{◌≡◌, ◌⊎◌, inl, inr, ℕ, Bool, true, false, refl, sym, ap, ◌∙◌, subst, Some, None, Option, ◌++◌, true≢false, slice_get}
use Rattle.std.specs.Prelude.{if◌then◌else◌, IsTrue, ◌||◌, is_some, is_none, option_to_list}
use Rattle.cell_world.specs.Texts.{Text}
use Rattle.cell_world.specs.Images.{Image}
use Rattle.cell_world.specs.Spelled.{listed, has_first}
use Rattle.cell_world.specs.Stores.{exchanged}
use Rattle.cell_world.specs.Plain.{PlainState, Connections, Held, with_connections}
use Rattle.cell_world.specs.Meaning.{meaning}
use Rattle.cell_world.specs.Lawful.{Lawful}
use Rattle.cell_world.specs.Sound.{Sound}
use Rattle.cell_world.specs.Marked.{committed_image}
use Rattle.cell_world.specs.declared.cells.Token.{Token}
use Rattle.cell_world.specs.declared.cells.Status.TheVariants.{Offline}
use Rattle.cell_world.specs.declared.operations.Piece.{Piece}
use Rattle.cell_world.specs.declared.operations.Pieces.{Pieces}
use Rattle.cell_world.specs.declared.operations.Op.{Op}
use Rattle.plain_model.specs.declared.commands.Command.{Command}
use Rattle.plain_model.specs.declared.commands.Command.TheVariants as command
use Rattle.plain_model.specs.declared.history.Entry.{Entry}
use Rattle.plain_model.specs.declared.replies.Reply.{Reply}
use Rattle.plain_model.specs.declared.replies.Reply.TheVariants as reply
use Rattle.plain_model.specs.declared.replies.Refusal.{Refusal}
use Rattle.plain_model.specs.Refusing.{refusal, mapping_of}
use Rattle.plain_model.specs.Steps.{Exchange, exchange_of, exchanging, becomes, with_status, plain_step, accepted, refused_or_done, ended_under}
use Rattle.plain_model.specs.JobSteps.{asked_number, with_ended}
use Rattle.plain_model.specs.Legal.{IsOwnOf}
use Rattle.plain_model.specs.Timelines.{Past}
use Rattle.plain_model.specs.Follows.{Follows, FollowsFault, FollowsMemory}
use Rattle.session_laws.specs.Doing.{Live}
use Rattle.session_laws.specs.Core.{Stands}
use Rattle.operation_laws.specs.Entries.{IsOneOperation}
use Rattle.operation_laws.specs.Opening.{ends_with}
use Rattle.operation_laws.specs.Planned.{IsOpFor}
use Rattle.operation_laws.proofs.Exchanges.{tables_only}
use Rattle.connections.specs.Links.{AreOwned}
use Rattle.connection_laws.specs.Leaving.{may_be_done, left_by}
use Rattle.connection_laws.proofs.SameStates.{all_same}
use Rattle.connection_laws.proofs.EndedLaws.{under_owned}
use Rattle.connection_laws.proofs.EntryChanges.{Changes, Tells, entry_tells, by_step}
use Rattle.connection_laws.proofs.EntryLaws.{owned_along, owned_with}
use Rattle.connection_laws.proofs.OperationCommits.{operation_owned}

-- ---- what an entry says of the states

-- nothing changes, or what the plain step changes, or connections are ended in the old state
abbrev MayChange : PlainState → PlainState → ℕ → Command → Type 0
MayChange A B session c = Changes A B session c ⊎ ((piece : Option Piece) × (B ≡ with_ended A piece))

none_asked : (c : Command) → IsOneOperation c → asked_number c ≡ None
none_asked (command.Step number) one = absurd one
none_asked (command.Run number) one = absurd one
none_asked other one = refl

at_fault : (A B : PlainState) (e : Entry) (c : Command) → IsOneOperation c → c ≡ e.command → FollowsFault A B e c None → MayChange A B e.session e.command
at_fault A B e (command.Offline name key token) one is (inl made) = inl (inr made)
at_fault A B e (command.Offline name key token) one is (inr (inl same)) = inl (inl same)
at_fault A B e (command.Offline name key token) one is (inr (inr ended)) = inr (mapping_of A name key, ended)
at_fault A B e (command.Detach location) one is f = absurd one
at_fault A B e (command.Attach location) one is f = absurd one
at_fault A B e (command.Clear location) one is f = absurd one
at_fault A B e other one is f = inl (subst (Changes A B e.session) is f)

for_memory : (A B : PlainState) (c : Command) → IsOneOperation c → FollowsMemory c A B → B ≡ A
for_memory A B (command.Attach location) one f = absurd one
for_memory A B (command.Clear location) one f = absurd one
for_memory A B other one f = f

answers_ok : (held : Held) (s : PlainState) (session : ℕ) (c : Command) → IsOneOperation c → (accepted held s session c).1 ≡ reply.Ok
answers_ok held s session (command.Add name low high location) one = refl
answers_ok held s session (command.Addpoint name key location) one = refl
answers_ok held s session (command.Delete name key token) one = refl
answers_ok held s session (command.Offline name key token) one = refl
answers_ok held s session (command.Online name key token) one = refl
answers_ok held s session (command.Move name key location token) one = refl
answers_ok held s session (command.Split name key token) one = refl
answers_ok held s session (command.Merge name key token) one = refl
answers_ok held s session other one = absurd one

module _ (past : Past) (A B : PlainState) (e : Entry) (answer : Option Reply) (one : IsOneOperation e.command) (follows : Follows past A e B answer) where
  told : (r : Reply) × (answer ≡ Some r) × Tells A B e r
  told = entry_tells past A B e (none_asked e.command one) answer follows

  may_change : MayChange A B e.session e.command
  may_change = by told.0 told.2
    where
      by : (r : Reply) → Tells A B e r → MayChange A B e.session e.command
      by r (inl same) = inl (inl (sym same))
      by r (inr (inl plainly)) = inl (by_step A B e r plainly)
      by r (inr (inr (inl fault))) = at_fault A B e e.command one refl fault.1
      by r (inr (inr (inr memory))) = inl (inl (for_memory A B e.command one memory.1))

  -- with another answer than `ok` and `fault` nothing changed
  pub not_done : may_be_done answer ≡ false → B ≡ A
  not_done not = by told.0 (ap may_be_done (sym told.1) ∙ not) told.2
    where
      stepped : (held : Held) (r : Reply) → may_be_done (Some r) ≡ false → (x : Option Refusal) → refused_or_done held A e.session e.command x ≡ (B, r) → B ≡ A
      stepped held r not (Some x) step = sym (ap (λ (y : PlainState × Reply). y.0) step)
      stepped held r not None step = absurd (true≢false (ap (λ (y : Reply). may_be_done (Some y)) (sym (answers_ok held A e.session e.command one) ∙ ap (λ (y : PlainState × Reply). y.1) step) ∙ not))

      by : (r : Reply) → may_be_done (Some r) ≡ false → Tells A B e r → B ≡ A
      by r not (inl same) = sym same
      by r not (inr (inl plainly)) = stepped plainly.held r not (refusal A e.session e.command) plainly.step
      by r not (inr (inr (inl fault))) = absurd (true≢false (ap (λ (y : Reply). may_be_done (Some y)) (sym fault.0) ∙ not))
      by r not (inr (inr (inr memory))) = for_memory A B e.command one memory.1

-- so connections stay owned
pub not_done_owned : (past : Past) (A B : PlainState) (before after : Connections) (e : Entry) (answer : Option Reply) → IsOneOperation e.command → may_be_done answer ≡ false
    → Follows past (with_connections A before) e (with_connections B after) answer → (connections : Connections) → AreOwned A connections → AreOwned B connections
not_done_owned past A B before after e answer one not follows connections all =
    owned_along (with_connections A before) B after (not_done past (with_connections A before) (with_connections B after) e answer one follows not) connections (owned_with A before connections all)

-- ---- who is left

chosen : (s : PlainState) (b : Bool) (x y : Connections) → (b ≡ true → AreOwned s x) → (b ≡ false → AreOwned s y) → AreOwned s (if b then x else y)
chosen s true x y first second = first refl
chosen s false x y first second = second refl

ends_owned : (s A : PlainState) (c : Command) → AreOwned s A.connections → AreOwned s (ends_with A c)
ends_owned s A (command.Offline name key token) all = under_owned s (mapping_of A name key) A.connections all
ends_owned s A other all = all

pub left_owned : (s : PlainState) (c : Command) (answer : Option Reply) (piece : Option Piece) (connections : Connections) → AreOwned s connections → AreOwned s (left_by c answer piece connections)
left_owned s (command.Offline name key token) answer piece connections all = chosen s (may_be_done answer) (ended_under piece connections) connections (λ is. under_owned s piece connections all) (λ not. all)
left_owned s other answer piece connections all = all

-- ---- the operation's first old mapping is the one that `offline` takes

first_listed : (pieces : Pieces) → IsTrue (has_first pieces) → pieces.one ≡ slice_get (listed pieces) 0
first_listed pieces = by pieces.one pieces.two
  where
    by : (one two : Option Piece) → IsTrue (is_some one || is_none two) → one ≡ slice_get (option_to_list one ++ option_to_list two) 0
    by (Some p) two first = refl
    by None None first = refl
    by None (Some q) first = absurd cc

pub first_old : (image : Image) (op : Op) → Lawful image op → (A : PlainState) (name key : Text) (token : Option Token) → IsOwnOf A (command.Offline name key token) None image op → op.olds.one ≡ mapping_of A name key
first_old image op law A name key token own = first_listed op.olds law.olds_in_order ∙ ap (λ ps. slice_get ps 0) own.0 ∙ by (mapping_of A name key)
  where
    by : (m : Option Piece) → slice_get (becomes (with_status Offline) m).0 0 ≡ m
    by None = refl
    by (Some p) = refl

-- so those who are left are those whom the plain step leaves
pub ends_are_left : (image : Image) (op : Op) → Lawful image op → (A : PlainState) (c : Command) → IsOwnOf A c None image op → (answer : Option Reply) → may_be_done answer ≡ true → ends_with A c ≡ left_by c answer op.olds.one A.connections
ends_are_left image op law A (command.Offline name key token) own answer done =
    ap (λ m. ended_under m A.connections) (sym (first_old image op law A name key token own))
    ∙ ap (λ b. if b then ended_under op.olds.one A.connections else A.connections) (sym done)
ends_are_left image op law A other own answer done = refl

-- ---- its operation

-- it exchanges, whoever is connected
exchanges : (held : Held) (s : PlainState) (session : ℕ) (c : Command) → IsOneOperation c → with_connections (accepted held s session c).0 s.connections ≡ exchanging s (exchange_of s c)
exchanges held s session (command.Add name low high location) one = refl
exchanges held s session (command.Addpoint name key location) one = refl
exchanges held s session (command.Delete name key token) one = refl
exchanges held s session (command.Offline name key token) one = refl
exchanges held s session (command.Online name key token) one = refl
exchanges held s session (command.Move name key location token) one = refl
exchanges held s session (command.Split name key token) one = refl
exchanges held s session (command.Merge name key token) one = refl
exchanges held s session other one = absurd one

-- and connects those that are left
connects : (held : Held) (s : PlainState) (session : ℕ) (c : Command) → IsOneOperation c → (accepted held s session c).0.connections ≡ ends_with s c
connects held s session (command.Add name low high location) one = refl
connects held s session (command.Addpoint name key location) one = refl
connects held s session (command.Delete name key token) one = refl
connects held s session (command.Offline name key token) one = refl
connects held s session (command.Online name key token) one = refl
connects held s session (command.Move name key location token) one = refl
connects held s session (command.Split name key token) one = refl
connects held s session (command.Merge name key token) one = refl
connects held s session other one = absurd one

-- a state in which those who are connected are owned
abbrev OwnsIts : PlainState → Type 0
OwnsIts s = AreOwned s s.connections

module _ (image : Image) (sound : Sound image) (op : Op) (law : Lawful image op) (c : Command) (one : IsOneOperation c) (before : Connections)
    (own : IsOwnOf (with_connections (meaning image) before) c None image op) where
  abbrev A : PlainState
  A = with_connections (meaning image) before

  -- what the plain step leaves owns what the commit does
  accepted_owned : (held : Held) (session : ℕ) (connections : Connections) → AreOwned (meaning (committed_image image op)) connections → AreOwned (accepted held A session c).0 connections
  accepted_owned held session connections all =
      owned_along (exchanging A (exchange_of A c)) (accepted held A session c).0 before (exchanges held A session c one) connections
      (all_same (meaning (committed_image image op)) (exchanging A (exchange_of A c)) refl (λ i. exchanged (meaning image).mappings (sym own.0 i) (sym own.1 i)) refl connections all)

  -- ---- those who are connected

  step_connects : AreOwned (meaning image) before → (held : Held) (session : ℕ) → OwnsIts (plain_step held A session c).0
  step_connects all held session = by (refusal A session c)
    where
      by : (r : Option Refusal) → OwnsIts (refused_or_done held A session c r).0
      by (Some r) = owned_with (meaning image) before before all
      by None = subst (AreOwned (accepted held A session c).0) (sym (connects held A session c one)) (accepted_owned held session (ends_with A c) (operation_owned image sound op law before all c one own))

  change_connects : AreOwned (meaning image) before → (session : ℕ) (B : PlainState) → MayChange A B session c → OwnsIts B
  change_connects all session B (inl (inl same)) = subst OwnsIts (sym same) (owned_with (meaning image) before before all)
  change_connects all session B (inl (inr made)) = subst OwnsIts (sym made.1) (step_connects all made.0 session)
  change_connects all session B (inr ended) = subst OwnsIts (sym ended.1) (all_same (meaning image) (with_ended A ended.0) refl refl refl (ended_under ended.0 before) (under_owned (meaning image) ended.0 before all))

  -- ---- any connections

  module _ (connections : Connections) (all : AreOwned (meaning image) connections) where
    abbrev Beside : PlainState
    Beside = with_connections (meaning image) connections

    -- it exchanges the same
    same_exchange : exchange_of A c ≡ exchange_of Beside c
    same_exchange = tables_only A c ∙ sym (tables_only Beside c)

    own_beside : IsOwnOf Beside c None image op
    own_beside = (own.0 ∙ ap (λ (x : Exchange). x.0) same_exchange, own.1 ∙ ap (λ (x : Exchange). x.1) same_exchange)

    abbrev left : Connections
    left = ends_with Beside c

    left_in_image : AreOwned (meaning image) left
    left_in_image = ends_owned (meaning image) Beside c all

    step_owned : (held : Held) (session : ℕ) → AreOwned (plain_step held A session c).0 left
    step_owned held session = by (refusal A session c)
      where
        by : (r : Option Refusal) → AreOwned (refused_or_done held A session c r).0 left
        by (Some r) = owned_with (meaning image) before left left_in_image
        by None = accepted_owned held session left (operation_owned image sound op law connections all c one own_beside)

    change_owned : (session : ℕ) (B : PlainState) (after : Connections) → MayChange A (with_connections B after) session c → AreOwned B left
    change_owned session B after (inl (inl same)) = owned_along A B after same left (owned_with (meaning image) before left left_in_image)
    change_owned session B after (inl (inr made)) = owned_along (plain_step made.0 A session c).0 B after made.1 left (step_owned made.0 session)
    change_owned session B after (inr ended) = owned_along (with_ended A ended.0) B after ended.1 left (all_same (meaning image) (with_ended A ended.0) refl refl refl left left_in_image)

    -- the mapping that `offline` takes is the first old one of the operation
    by_first_old : (s : PlainState) (answer : Option Reply) → (may_be_done answer ≡ true → AreOwned s left) → (may_be_done answer ≡ false → AreOwned s connections) → AreOwned s (left_by c answer op.olds.one connections)
    by_first_old s answer = of c own_beside
      where
        either : (b : Bool) → (b ≡ true → AreOwned s connections) → (b ≡ false → AreOwned s connections) → AreOwned s connections
        either true is not = is refl
        either false is not = not refl

        of : (d : Command) → IsOwnOf Beside d None image op → (may_be_done answer ≡ true → AreOwned s (ends_with Beside d)) → (may_be_done answer ≡ false → AreOwned s connections) → AreOwned s (left_by d answer op.olds.one connections)
        of (command.Offline name key token) own is not = chosen s (may_be_done answer) (ended_under op.olds.one connections) connections
            (λ t. subst (λ m. AreOwned s (ended_under m connections)) (sym (first_old image op law Beside name key token own)) (is t)) not
        of other own is not = either (may_be_done answer) is not

-- ---- its entry

module _ (image : Image) (sound : Sound image) (op : Op) (law : Lawful image op) (past : Past) (later : Image) (before after : Connections) (e : Entry) (answer : Option Reply) (one : IsOneOperation e.command)
    (own : IsOwnOf (with_connections (meaning image) before) e.command None image op) (follows : Follows past (with_connections (meaning image) before) e (with_connections (meaning later) after) answer) where
  abbrev change : MayChange (with_connections (meaning image) before) (with_connections (meaning later) after) e.session e.command
  change = may_change past (with_connections (meaning image) before) (with_connections (meaning later) after) e answer one follows

  pub operation_entry_owned : (connections : Connections) → AreOwned (meaning image) connections → AreOwned (meaning later) (left_by e.command answer op.olds.one connections)
  operation_entry_owned connections all = by_first_old image sound op law e.command one before own connections all (meaning later) answer
      (λ is. change_owned image sound op law e.command one before own connections all e.session (meaning later) after change)
      (λ not. not_done_owned past (meaning image) (meaning later) before after e answer one not follows connections all)

  pub operation_entry_connects : AreOwned (meaning image) before → AreOwned (meaning later) after
  operation_entry_connects all = owned_along (with_connections (meaning later) after) (meaning later) after refl after (change_connects image sound op law e.command one before own all e.session (with_connections (meaning later) after) change)

-- ---- what a core has of the operation

-- it is live, and stands
pub standing_entry_owned : (More : ℕ → Live → Image → Type 0) (image : Image) → Sound image → (session : ℕ) (l : Live) → Stands More session l image → (past : Past) (later : Image) (before after : Connections) (e : Entry) (answer : Option Reply) → e.command ≡ l.command
    → IsOneOperation l.command → Follows past (with_connections (meaning image) before) e (with_connections (meaning later) after) answer → (connections : Connections) → AreOwned (meaning image) connections
    → AreOwned (meaning later) (left_by e.command answer l.op.olds.one connections)
standing_entry_owned More image sound session l stands past later before after e answer is one follows =
    operation_entry_owned image sound l.op (sound.logged.lawful l.op stands.logged) past later before after e answer (subst IsOneOperation (sym is) one)
    (subst (λ c. IsOwnOf (with_connections (meaning image) before) c None image l.op) (sym is) (stands.exchange before (none_asked l.command one))) follows

-- it was tried, or is to be
pub planned_entry_owned : (image : Image) → Sound image → (op : Op) (past : Past) (later : Image) (before after : Connections) (e : Entry) (answer : Option Reply) → IsOneOperation e.command → IsOpFor e.command image op
    → Follows past (with_connections (meaning image) before) e (with_connections (meaning later) after) answer → (connections : Connections) → AreOwned (meaning image) connections
    → AreOwned (meaning later) (left_by e.command answer op.olds.one connections)
planned_entry_owned image sound op past later before after e answer one own =
    operation_entry_owned image sound op own.lawful past later before after e answer one (own.exchange before (none_asked e.command one))

-- the stores stand for what they stood for
pub still_owned : (image later : Image) → meaning later ≡ meaning image → (connections : Connections) → AreOwned (meaning image) connections → (c : Command) (answer : Option Reply) (piece : Option Piece) → AreOwned (meaning later) (left_by c answer piece connections)
still_owned image later same connections all c answer piece = left_owned (meaning later) c answer piece connections (subst (λ s. AreOwned s connections) (sym same) all)
