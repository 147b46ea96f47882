-- What `add` and `addpoint` bring to their commit: they aren't refused then either, and their entry follows. Both come of the lawful operation and of the exchange that the core carries.
use Rattle.std.proofs.Common.{◌≡◌, inl, ℕ, Bool, true, false, not, ◌||◌, cond, refl, sym, ap, ◌∙◌, subst, Some, None, Option, is_some, List, [], ◌∷◌, ◌++◌}
use Rattle.std.specs.Prelude.{IsTrue, IfSome, find, option_map}
use Rattle.std.specs.Option.{is_none}
use Rattle.std.specs.List.{list_any}
use Rattle.std.specs.FinMap as map
use Rattle.std.specs.FinSet as set
use Rattle.std.proofs.lemmas.Bool.{and_parts}
use Rattle.cell_world.specs.Texts.{Text}
use Rattle.cell_world.specs.Lists.{IsOneOf}
use Rattle.cell_world.specs.Keys.{same, overlaps, before}
use Rattle.cell_world.specs.KeyForms.{is_span_of}
use Rattle.cell_world.specs.Spelled.{listed}
use Rattle.cell_world.specs.Stores.{piece_key, exchanged}
use Rattle.cell_world.specs.Orders.{pair_cmp}
use Rattle.cell_world.specs.Images.{Image, global}
use Rattle.cell_world.specs.Plain.{PlainState, Connections, with_connections, is_attached, holds_nothing}
use Rattle.cell_world.specs.Marked.{committed_image, jobs_after}
use Rattle.cell_world.specs.Meaning.{meaning}
use Rattle.cell_world.specs.Operations.{hull_of}
use Rattle.cell_world.specs.Sound.{Sound, HasLog, HasPiece, IsAttachedIn}
use Rattle.cell_world.specs.Lawful.{Lawful, read_tables, IsOfJob, job_of_pieces}
use Rattle.cell_world.specs.declared.operations.Extra.TheVariants as extra
use Rattle.cell_world.specs.declared.operations.Op.{Op}
use Rattle.cell_world.specs.declared.operations.Piece.{Piece}
use Rattle.cell_world.specs.declared.cells.Away.{Away}
use Rattle.cell_world.specs.declared.cells.MapKind.{MapKind}
use Rattle.cell_world.specs.declared.cells.MapKind.TheVariants as kind
use Rattle.cell_world.specs.declared.cells.KeyType.{KeyType}
use Rattle.cell_world.specs.declared.cells.Status.TheVariants.{Online}
use Rattle.cell_world.specs.declared.spans.Span.{Span}
use Rattle.cell_world.specs.declared.spans.Span.TheVariants.{Range, Point}
use Rattle.cell_world.specs.declared.spans.High.{High}
use Rattle.cell_world.proofs.ListLaws.{all_at}
use Rattle.cell_world.proofs.MappingLaws.{sound_mappings}
use Rattle.cell_world.proofs.OrderLaws.{pairs_total}
use Rattle.cell_world.proofs.SpanLaws.{same_is, overlaps_shared, shared_of_overlap}
use Rattle.image_laws.specs.Fits.{Fits}
use Rattle.image_laws.proofs.CommitImages.{commit_meaning}
use Rattle.image_laws.proofs.Places.{new_attached}
use Rattle.image_laws.proofs.SoundParts.{are_logged}
use Rattle.image_laws.proofs.ValueLaws.{value_found}
use Rattle.plain_model.specs.declared.commands.Command.{Command}
use Rattle.plain_model.specs.declared.commands.HighText.{HighText}
use Rattle.plain_model.specs.declared.commands.Command.TheVariants as command
use Rattle.plain_model.specs.declared.replies.Reply.TheVariants as reply
use Rattle.plain_model.specs.Refusing.{Check, if_there, same_kind, refusal, first_refusal, checks, range_between, key_in, high_in, overlaps_in, is_detached, is_suspect}
use Rattle.plain_model.specs.Steps.{exchange_of, added, refused_or_done, exchanging}
use Rattle.plain_model.specs.Legal.{IsOwnOf}
use Rattle.plain_model.specs.JobSteps.{asked_number}
use Rattle.session_laws.specs.Core.{Stands}
use Rattle.session_laws.specs.Doing.{Live}
use Rattle.session_laws.specs.Needs.{Needs}
use Rattle.operation_laws.specs.Entries.{FollowsAtCommit, IsAdding}

-- ---- checks that all pass

abbrev pub AllPass : List Check → Type 0
AllPass [] = Unit {0}
AllPass (c ∷ cs) = (c.0 ≡ false) × AllPass cs

pub all_pass : (cs : List Check) → AllPass cs → first_refusal cs ≡ None
all_pass [] h = refl
all_pass (c ∷ cs) h = ap (λ b. cond b (Some c.1) (first_refusal cs)) h.0 ∙ all_pass cs h.1

-- a search that finds nothing
none_of : (p : Piece → Bool) (xs : List Piece) → find p xs ≡ None → list_any p xs ≡ false
none_of p [] e = refl
none_of p (x ∷ xs) e = by (p x) e (none_of p xs)
  where
    by : (b : Bool) → cond b (Some x) (find p xs) ≡ None → (find p xs ≡ None → list_any p xs ≡ false) → (b || list_any p xs) ≡ false
    by true e more = absurd cc
    by false e more = more e

pub not_away : (a : Option Away) → is_attached a ≡ true → (is_detached a ≡ false) × (is_suspect a ≡ false)
not_away None h = (refl, refl)
not_away (Some a) h = absurd cc

-- what is a range of a kind of map is one of a range map, and isn't empty; a point is one of a list map
pub range_of_kind : (k : MapKind) (type : KeyType) (low : Text) (high : High) → is_span_of k type (Range low high) ≡ true → (k ≡ kind.Range) × (before low high ≡ true)
range_of_kind kind.Range type low high h = (refl, (and_parts _ _ (and_parts _ _ h).1).1)
range_of_kind kind.List type low high h = absurd cc

point_of_kind : (k : MapKind) (type : KeyType) (at : Text) → is_span_of k type (Point at) ≡ true → k ≡ kind.List
point_of_kind kind.Range type at h = absurd cc
point_of_kind kind.List type at h = refl

-- A logged operation whose exchange is the command's.
module _ (image : Image) (sound : Sound image) (op : Op) (logged : HasLog (global image).log op) where
  law : Lawful image op
  law = sound.logged.lawful op logged

  fit : Fits (global image).maps (global image).mappings op
  fit = (are_logged image sound).fits op logged

  bare : listed op.olds ≡ [] → listed op.news ≡ [] → ⊥
  bare olds news = let e : None ≡ Some op.hull = (λ i. hull_of (sym olds i ++ sym news i)) ∙ law.hull in absurd cc

  -- a mapping that is added
  module _ (name : Text) (span : Span) (location : Text) (olds : listed op.olds ≡ []) where
    abbrev new : Piece
    new = record { map = name; span = span; location = location; status = Online; token = None }

    module _ (among : IsOneOf (listed op.news) new) where
      spans : (k : MapKind) × (type : KeyType) × (map.get (global image).maps name ≡ Some (k, type)) × (is_span_of k type span ≡ true)
      spans = fit.new_spans new among

      attached : IsAttachedIn image location
      attached = new_attached image op law new among

      -- no mapping overlaps it
      free : list_any (overlaps_in name span) (map.values (global image).mappings) ≡ false
      free = none_of (overlaps_in name span) (map.values (global image).mappings) (by (find (overlaps_in name span) (map.values (global image).mappings)) refl)
        where
          old_if : (q : Piece) → HasPiece (global image).mappings q → q.map ≡ name → IsTrue (overlaps q.span span) → IsOneOf (listed op.olds) q
          old_if q has of_map over =
              let k = shared_of_overlap q.span span over in
              fit.all_olds q has (of_map ∙ fit.new_map new among) (overlaps_shared q.span op.hull k.0 k.1 (fit.shaped.new_in new among k.0 k.2))

          by : (o : Option Piece) → find (overlaps_in name span) (map.values (global image).mappings) ≡ o → o ≡ None
          by None e = refl
          by (Some q) e =
              let f = value_found pair_cmp pairs_total (overlaps_in name span) (global image).mappings q e in
              let p = and_parts (same name q.map) (overlaps q.span span) f.2 in
              let place : piece_key q ≡ f.0 = subst (λ o. IfSome o (λ y. piece_key y ≡ f.0)) f.1 ((sound_mappings image sound).placed f.0) in
              let has : HasPiece (global image).mappings q = ap (map.get (global image).mappings) place ∙ f.1 in
              absurd (subst (λ ps. IsOneOf ps q) olds (old_if q has (sym (same_is name q.map p.0)) p.1))

      shard : set.contains (global image).shards (name, location) ≡ true
      shard = ap (λ n. set.contains (global image).shards (n, location)) (fit.new_map new among) ∙ all_at (λ (n : Piece). IsTrue (set.contains (global image).shards (op.map, n.location))) (listed op.news) law.on_shards new among

      stands : not (is_some (map.get (global image).maps name)) ≡ false
      stands = ap (λ (o : Option (MapKind × KeyType)). not (is_some o)) spans.2

      -- a map of this kind isn't of the wrong one
      of_kind : (k : MapKind) → same_kind k k ≡ true → spans.0 ≡ k → if_there (λ x. not (same_kind k x)) (option_map (λ (m : MapKind × KeyType). m.0) (map.get (global image).maps name)) ≡ false
      of_kind k is e = ap (λ (o : Option (MapKind × KeyType)). if_there (λ x. not (same_kind k x)) (option_map (λ m. m.0) o)) spans.2 ∙ ap (λ x. not (same_kind k x)) e ∙ ap not is

      known : not (Rattle.cell_world.specs.Keys.is_among image.locations location) ≡ false
      known = ap not attached.known

      sharded : not (set.contains (global image).shards (name, location)) ≡ false
      sharded = ap not shard

      here : (is_detached (map.get (global image).away location) ≡ false) × (is_suspect (map.get (global image).away location) ≡ false)
      here = not_away (map.get (global image).away location) attached.attached

  -- the state after the commit of an operation without olds: it puts no job
  module _ (connections : Connections) (c : Command) (olds : listed op.olds ≡ []) (own : IsOwnOf (with_connections (meaning image) connections) c None image op) where
    no_job : op.extra ≡ extra.None
    no_job = subst (λ olds. IsOfJob (read_tables image) op (job_of_pieces (global image).jobs olds)) olds law.job

    pub state_after : exchanging (with_connections (meaning image) connections) (exchange_of (with_connections (meaning image) connections) c) ≡ with_connections (meaning (committed_image image op)) connections
    state_after = (λ i. record (with_connections (meaning image) connections) { mappings = exchanged (global image).mappings (sym own.0 i) (sym own.1 i); jobs = jobs_after (global image).jobs (sym no_job i) })
        ∙ ap (λ (s : PlainState). with_connections s connections) (sym (commit_meaning image sound op law (jobs_after (global image).jobs op.extra)))

  -- ---- `add`

  module _ (name low : Text) (high : HighText) (location : Text) (connections : Connections) (own : IsOwnOf (with_connections (meaning image) connections) (command.Add name low high location) None image op) where
    abbrev A : PlainState
    A = with_connections (meaning image) connections

    no_olds_of : (r : Option Span) → (added name location r).0 ≡ []
    no_olds_of None = refl
    no_olds_of (Some r) = refl

    add_olds : listed op.olds ≡ []
    add_olds = own.0 ∙ no_olds_of (range_between (key_in A name low) (high_in A name high))

    passes : (session : ℕ) (l : Text) (h : High) → key_in A name low ≡ Some l → high_in A name high ≡ Some h → listed op.olds ≡ [] → IsOneOf (listed op.news) (new name (Range l h) location add_olds) → AllPass (checks A session (command.Add name low high location))
    passes session l h key end olds among =
        let span : Span = Range l h in
        let range_is : range_between (key_in A name low) (high_in A name high) ≡ Some (Range l h) = ap (λ k. range_between k (high_in A name high)) key ∙ ap (range_between (Some l)) end in
        let s = spans name (Range l h) location olds among in
        let kind_is = range_of_kind s.0 s.1 l h s.3 in (
          stands name (Range l h) location olds among,
          (
            of_kind name (Range l h) location olds among kind.Range refl kind_is.0,
            (
              ap is_none range_is,
              (
                ap (if_there (λ (l : Text). if_there (λ (h : High). not (before l h)) (high_in A name high))) key ∙ ap (if_there (λ (h : High). not (before l h))) end ∙ ap not kind_is.1,
                (
                  known name (Range l h) location olds among,
                  (
                    sharded name (Range l h) location olds among,
                    (
                      (here name (Range l h) location olds among).0,
                      (
                        (here name (Range l h) location olds among).1,
                        (
                          ap (if_there (λ (new : Span). list_any (overlaps_in name new) (map.values (global image).mappings))) range_is ∙ free name (Range l h) location olds among,
                          tt,
                        ),
                      ),
                    ),
                  ),
                ),
              ),
            ),
          ),
        )

    add_passes : (session : ℕ) → AllPass (checks A session (command.Add name low high location))
    add_passes session = by (key_in A name low) (high_in A name high) refl refl own
      where
        by : (k : Option Text) (h : Option High) → key_in A name low ≡ k → high_in A name high ≡ h
            → (listed op.olds ≡ (added name location (range_between k h)).0) × (listed op.news ≡ (added name location (range_between k h)).1) → AllPass (checks A session (command.Add name low high location))
        by None h key end own = absurd (bare own.0 own.1)
        by (Some l) None key end own = absurd (bare own.0 own.1)
        by (Some l) (Some h) key end own = passes session l h key end own.0 (subst (λ ps. IsOneOf ps (new name (Range l h) location add_olds)) (sym own.1) (inl refl))

    add_accepted : (session : ℕ) → refusal A session (command.Add name low high location) ≡ None
    unfolding refusal
    add_accepted session = all_pass (checks A session (command.Add name low high location)) (add_passes session)

    pub add_at_commit : (session : ℕ) → FollowsAtCommit session (command.Add name low high location) image op connections connections
    add_at_commit session = record {
      held = holds_nothing;
      step = ap (refused_or_done holds_nothing A session (command.Add name low high location)) (add_accepted session) ∙ ap (λ (s : PlainState). (s, reply.Ok)) (state_after connections (command.Add name low high location) add_olds own);
    }

  -- ---- `addpoint`

  module _ (name text location : Text) (connections : Connections) (own : IsOwnOf (with_connections (meaning image) connections) (command.Addpoint name text location) None image op) where
    abbrev P : PlainState
    P = with_connections (meaning image) connections

    no_olds_at : (r : Option Span) → (added name location r).0 ≡ []
    no_olds_at None = refl
    no_olds_at (Some r) = refl

    point_olds : listed op.olds ≡ []
    point_olds = own.0 ∙ no_olds_at (option_map Point (key_in P name text))

    point_passes : (session : ℕ) → AllPass (checks P session (command.Addpoint name text location))
    point_passes session = by (key_in P name text) refl own
      where
        passes_at : (k : Text) → key_in P name text ≡ Some k → listed op.olds ≡ [] → IsOneOf (listed op.news) (new name (Point k) location point_olds) → AllPass (checks P session (command.Addpoint name text location))
        passes_at k key olds among =
            let s = spans name (Point k) location olds among in (
              stands name (Point k) location olds among,
              (
                of_kind name (Point k) location olds among kind.List refl (point_of_kind s.0 s.1 k s.3),
                (
                  ap is_none key,
                  (
                    known name (Point k) location olds among,
                    (
                      sharded name (Point k) location olds among,
                      (
                        (here name (Point k) location olds among).0,
                        (
                          (here name (Point k) location olds among).1,
                          (
                            ap (λ o. if_there (λ (new : Span). list_any (overlaps_in name new) (map.values (global image).mappings)) (option_map Point o)) key ∙ free name (Point k) location olds among,
                            tt,
                          ),
                        ),
                      ),
                    ),
                  ),
                ),
              ),
            )

        by : (k : Option Text) → key_in P name text ≡ k → (listed op.olds ≡ (added name location (option_map Point k)).0) × (listed op.news ≡ (added name location (option_map Point k)).1) → AllPass (checks P session (command.Addpoint name text location))
        by None key own = absurd (bare own.0 own.1)
        by (Some k) key own = passes_at k key own.0 (subst (λ ps. IsOneOf ps (new name (Point k) location point_olds)) (sym own.1) (inl refl))

    point_accepted : (session : ℕ) → refusal P session (command.Addpoint name text location) ≡ None
    unfolding refusal
    point_accepted session = all_pass (checks P session (command.Addpoint name text location)) (point_passes session)

    pub addpoint_at_commit : (session : ℕ) → FollowsAtCommit session (command.Addpoint name text location) image op connections connections
    addpoint_at_commit session = record {
      held = holds_nothing;
      step = ap (refused_or_done holds_nothing P session (command.Addpoint name text location)) (point_accepted session) ∙ ap (λ (s : PlainState). (s, reply.Ok)) (state_after connections (command.Addpoint name text location) point_olds own);
    }

-- ---- of a live operation

pub adding_at_commit : (session : ℕ) (l : Live) (image : Image) → Sound image → Stands Needs session l image → IsAdding l.command → (connections : Connections) → FollowsAtCommit session l.command image l.op connections connections
adding_at_commit session l image sound stands adds connections = by l.command adds (stands.exchange connections)
  where
    by : (c : Command) → IsAdding c → (asked_number c ≡ None → IsOwnOf (with_connections (meaning image) connections) c None image l.op) → FollowsAtCommit session c image l.op connections connections
    by (command.Add name low high location) adds own = add_at_commit image sound l.op stands.logged name low high location connections (own refl) session
    by (command.Addpoint name key location) adds own = addpoint_at_commit image sound l.op stands.logged name key location connections (own refl) session
    by other adds own = absurd adds
