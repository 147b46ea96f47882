-- The commit of a command that is one operation: no online mapping becomes an offline one but that of `offline`, whose connections are ended.
use Rattle.std.proofs.Common.{◌≡◌, Bool, false, refl, sym, ap, ◌∙◌, subst, Some, None, Option, [], ◌∷◌, true≢false}
use Rattle.std.specs.Prelude.{IsTrue, ◌&&◌}
use Rattle.std.proofs.lemmas.Bool.{and_from}
use Rattle.cell_world.specs.Texts.{Text}
use Rattle.cell_world.specs.Lists.{IsOneOf}
use Rattle.cell_world.specs.Keys.{same, contains, low_of, end_of}
use Rattle.cell_world.specs.Jobs.{part_of}
use Rattle.cell_world.specs.Spelled.{listed}
use Rattle.cell_world.specs.Stores.{Rows}
use Rattle.cell_world.specs.Images.{Image}
use Rattle.cell_world.specs.Plain.{PlainState, Connection, Connections, with_connections}
use Rattle.cell_world.specs.Meaning.{meaning}
use Rattle.cell_world.specs.Lawful.{Lawful, HasShape, Cuts, rows_at}
use Rattle.cell_world.specs.Sound.{Sound}
use Rattle.cell_world.specs.Marked.{committed_image}
use Rattle.cell_world.specs.declared.operations.Piece.{Piece}
use Rattle.cell_world.specs.declared.operations.Op.{Op}
use Rattle.cell_world.specs.declared.cells.Status.TheVariants.{Online, Offline}
use Rattle.cell_world.specs.declared.spans.High.{High}
use Rattle.cell_world.specs.declared.spans.High.TheVariants.{At}
use Rattle.cell_world.specs.declared.spans.Span.{Span}
use Rattle.cell_world.proofs.SpanLaws.{same_self}
use Rattle.image_laws.proofs.ShapeLaws.{of_one, of_two}
use Rattle.plain_model.specs.declared.commands.Command.{Command}
use Rattle.plain_model.specs.declared.commands.Command.TheVariants as command
use Rattle.plain_model.specs.Legal.{IsOwnOf}
use Rattle.plain_model.specs.Refusing.{mapping_of, key_in, range_in, next_mapping}
use Rattle.plain_model.specs.Steps.{Exchange, exchange_of, exchange_by, becomes, added, cut_at, merged_with_next, with_status, with_location, ended_under}
use Rattle.connections.specs.Links.{AreOwned}
use Rattle.operation_laws.specs.Entries.{IsOneOperation}
use Rattle.operation_laws.specs.Opening.{ends_with}
use Rattle.connection_laws.proofs.EndedLaws.{still_live, ended_owned}
use Rattle.connection_laws.proofs.ExchangedOwners.{all_committed}

-- where an old mapping is online, so is each new one
abbrev pub KeepsOnline : Exchange → Type 0
KeepsOnline e = (old : Piece) → IsOneOf e.0 old → (new : Piece) → IsOneOf e.1 new → old.status ≡ Online → new.status ≡ Online

-- nothing is exchanged
none_keeps : KeepsOnline ([], [])
none_keeps old among = absurd among

-- ---- what commands exchange

added_keeps : (name location : Text) (span : Option Span) → KeepsOnline (added name location span)
added_keeps name location None = none_keeps
added_keeps name location (Some span) = λ old among. absurd among

deleted_keeps : (m : Option Piece) → KeepsOnline (exchange_by (λ p. (p ∷ [], [])) m)
deleted_keeps None = none_keeps
deleted_keeps (Some p) = λ old old_among new among. absurd among

online_keeps : (m : Option Piece) → KeepsOnline (becomes (with_status Online) m)
online_keeps None = none_keeps
online_keeps (Some p) = λ old old_among new among online. of_one (λ (n : Piece). n.status ≡ Online) refl new among

-- one of one status for one
one_keeps : (p n : Piece) → n.status ≡ p.status → KeepsOnline (p ∷ [], n ∷ [])
one_keeps p n e = of_one (λ (o : Piece). (new : Piece) → IsOneOf (n ∷ []) new → o.status ≡ Online → new.status ≡ Online) (of_one (λ (new : Piece). p.status ≡ Online → new.status ≡ Online) (λ on. e ∙ on))

moved_keeps : (location : Text) (m : Option Piece) → KeepsOnline (becomes (with_location location) m)
moved_keeps location None = none_keeps
moved_keeps location (Some p) = one_keeps p (with_location location p) refl

-- two of one status for one
cut_keeps : (p low high : Piece) → low.status ≡ p.status → high.status ≡ p.status → KeepsOnline (p ∷ [], low ∷ high ∷ [])
cut_keeps p low high e f = of_one (λ (o : Piece). (new : Piece) → IsOneOf (low ∷ high ∷ []) new → o.status ≡ Online → new.status ≡ Online)
    (of_two (λ (new : Piece). p.status ≡ Online → new.status ≡ Online) (λ on. e ∙ on) (λ on. f ∙ on))

split_keeps : (key : Option Text) (m : Option Piece) → KeepsOnline (cut_at key m)
split_keeps key None = none_keeps
split_keeps None (Some p) = none_keeps
split_keeps (Some k) (Some p) = by (end_of p.span)
  where
    by : (end : Option High) → KeepsOnline (exchange_by (λ end. (p ∷ [], part_of p (low_of p.span) (At k) ∷ part_of p k end ∷ [])) end)
    by None = none_keeps
    by (Some end) = cut_keeps p (part_of p (low_of p.span) (At k)) (part_of p k end) refl refl

-- of two that are merged both have the status of the whole, by the shape
whole_keeps : (low high new : Piece) → Cuts new low high → KeepsOnline (low ∷ high ∷ [], new ∷ [])
whole_keeps low high new cuts = of_two (λ (o : Piece). (n : Piece) → IsOneOf (new ∷ []) n → o.status ≡ Online → n.status ≡ Online)
    (of_one (λ (n : Piece). low.status ≡ Online → n.status ≡ Online) (λ on. sym (ap (λ (p : Piece). p.status) cuts.lower) ∙ on))
    (of_one (λ (n : Piece). high.status ≡ Online → n.status ≡ Online) (λ on. sym (ap (λ (p : Piece). p.status) cuts.upper) ∙ on))

merged_keeps : (rows : Text → Rows) (s : PlainState) (m : Option Piece) → HasShape rows (merged_with_next s m).0 (merged_with_next s m).1 → KeepsOnline (merged_with_next s m)
merged_keeps rows s None shape = none_keeps
merged_keeps rows s (Some p) shape = by (next_mapping s p) shape
  where
    whole : Piece → Option High → Exchange
    whole next = exchange_by (λ end. (p ∷ next ∷ [], part_of p (low_of p.span) end ∷ []))

    to : (next : Piece) (end : Option High) → HasShape rows (whole next end).0 (whole next end).1 → KeepsOnline (whole next end)
    to next None shape = none_keeps
    to next (Some end) shape = whole_keeps p next (part_of p (low_of p.span) end) shape

    by : (next : Option Piece) → HasShape rows (exchange_by (λ n. whole n (end_of n.span)) next).0 (exchange_by (λ n. whole n (end_of n.span)) next).1 → KeepsOnline (exchange_by (λ n. whole n (end_of n.span)) next)
    by None shape = none_keeps
    by (Some next) shape = to next (end_of next.span) shape

-- ---- the commit

module _ (image : Image) (sound : Sound image) (op : Op) (law : Lawful image op) (connections : Connections) (all : AreOwned (meaning image) connections) where
  abbrev A : PlainState
  A = with_connections (meaning image) connections

  abbrev Own : Exchange → Type 0
  Own e = (listed op.olds ≡ e.0) × (listed op.news ≡ e.1)

  abbrev Kept : Connections → Type 0
  Kept = AreOwned (meaning (committed_image image op))

  kept : (e : Exchange) → Own e → KeepsOnline e → Kept connections
  kept e own keeps = all_committed image sound op law connections all
      (λ session number c there live old new old_among new_among of_map old_holds new_holds. keeps old (subst (λ ps. IsOneOf ps old) own.0 old_among) new (subst (λ ps. IsOneOf ps new) own.1 new_among))

  -- no connection that is left is under the mapping
  offline_kept : (m : Option Piece) → Own (becomes (with_status Offline) m) → Kept (ended_under m connections)
  offline_kept None own = kept ([], []) own none_keeps
  offline_kept (Some p) own = all_committed image sound op law (ended_under (Some p) connections) (ended_owned (meaning image) under connections all)
      (λ session number c there live old new old_among new_among of_map old_holds new_holds online.
      absurd (of_one (λ (o : Piece). o.map ≡ c.map → IsTrue (contains o.span c.key) → ⊥) (out c (still_live under connections session number c there live).1) old (subst (λ ps. IsOneOf ps old) own.0 old_among) of_map old_holds))
    where
      under : Connection → Bool
      under c = same p.map c.map && contains p.span c.key

      out : (c : Connection) → under c ≡ false → p.map ≡ c.map → IsTrue (contains p.span c.key) → ⊥
      out c not_under of_map holds = true≢false (sym (and_from (same p.map c.map) (contains p.span c.key) (ap (same p.map) (sym of_map) ∙ same_self p.map) holds) ∙ not_under)

  shape_of : (e : Exchange) → Own e → HasShape (rows_at image) e.0 e.1
  shape_of e own = subst (λ ps. HasShape (rows_at image) e.0 ps) own.1 (subst (λ ps. HasShape (rows_at image) ps (listed op.news)) own.0 law.shape)

  pub operation_owned : (c : Command) → IsOneOperation c → IsOwnOf A c None image op → Kept (ends_with A c)
  operation_owned (command.Offline name key token) one own = offline_kept (mapping_of A name key) own
  operation_owned (command.Add name low high location) one own = kept (added name location (range_in A name low high)) own (added_keeps name location (range_in A name low high))
  operation_owned (command.Addpoint name key location) one own = kept (exchange_of A (command.Addpoint name key location)) own (added_keeps name location _)
  operation_owned (command.Delete name key token) one own = kept (exchange_of A (command.Delete name key token)) own (deleted_keeps (mapping_of A name key))
  operation_owned (command.Online name key token) one own = kept (exchange_of A (command.Online name key token)) own (online_keeps (mapping_of A name key))
  operation_owned (command.Move name key location token) one own = kept (exchange_of A (command.Move name key location token)) own (moved_keeps location (mapping_of A name key))
  operation_owned (command.Split name key token) one own = kept (exchange_of A (command.Split name key token)) own (split_keeps (key_in A name key) (mapping_of A name key))
  operation_owned (command.Merge name key token) one own = kept (merged_with_next A (mapping_of A name key)) own (merged_keeps (rows_at image) A (mapping_of A name key) (shape_of (merged_with_next A (mapping_of A name key)) own))
  operation_owned other one own = absurd one
