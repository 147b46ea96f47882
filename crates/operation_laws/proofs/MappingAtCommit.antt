-- What commands on a mapping bring to their commit: they aren't refused then either, where the token opens the mappings, and their plain step is the commit.
use Rattle.std.proofs.Common.{◌≡◌, ◌⊎◌, inl, inr, ℕ, Bool, true, false, ◌||◌, not, cond, refl, sym, ap, ◌∙◌, subst, Some, None, Option, is_some, List, [], ◌∷◌, ◌++◌, eq-eqb, true≢false}
use Rattle.std.specs.Prelude.{IsTrue, option_and_then, option_map, ◌&&◌}
use Rattle.std.specs.Option.{is_none}
use Rattle.std.specs.FinMap as map
use Rattle.std.specs.FinSet as set
use Rattle.std.specs.List.{list_any}
use Rattle.std.proofs.Common.{map as list_map}
use Rattle.std.proofs.lemmas.Bool.{and_parts, and_from}
use Rattle.std.proofs.lemmas.Option.{none-some}
use Rattle.cell_world.specs.Texts.{Text}
use Rattle.cell_world.specs.Lists.{IsOneOf}
use Rattle.cell_world.specs.Keys.{same, before, contains, low_of, end_of}
use Rattle.cell_world.specs.Jobs.{part_of}
use Rattle.cell_world.specs.Spelled.{listed}
use Rattle.cell_world.specs.Stores.{Rows, exchanged}
use Rattle.cell_world.specs.Images.{Image, global}
use Rattle.cell_world.specs.Plain.{PlainState, Connections, with_connections, owner, holds_nothing}
use Rattle.cell_world.specs.Marked.{committed_image, jobs_after}
use Rattle.cell_world.specs.Meaning.{meaning, next_job, owner_of, is_attached_at}
use Rattle.cell_world.specs.Operations.{hull_of}
use Rattle.cell_world.specs.Sound.{Sound, HasLog, HasPiece, HasJob, IsAttachedIn, IsSpanOf}
use Rattle.cell_world.specs.Lawful.{Lawful, HasShape, Moves, IsOfJob, IsStepOf, read_tables, rows_at, rows_under, job_of_pieces}
use Rattle.cell_world.specs.declared.operations.Extra.TheVariants as extra
use Rattle.cell_world.specs.declared.operations.JobRow.{JobRow}
use Rattle.cell_world.specs.declared.operations.Op.{Op}
use Rattle.cell_world.specs.declared.operations.Piece.{Piece}
use Rattle.cell_world.specs.declared.cells.MapKind.{MapKind}
use Rattle.cell_world.specs.declared.cells.MapKind.TheVariants as kind
use Rattle.cell_world.specs.declared.cells.KeyType.{KeyType}
use Rattle.cell_world.specs.declared.cells.Status.{Status}
use Rattle.cell_world.specs.declared.cells.Status.TheVariants.{Online, Offline}
use Rattle.cell_world.specs.declared.cells.Token.{Token}
use Rattle.cell_world.specs.declared.spans.High.{High}
use Rattle.cell_world.specs.declared.spans.High.TheVariants.{At}
use Rattle.cell_world.specs.declared.spans.Span.TheVariants.{Range}
use Rattle.cell_world.proofs.ListLaws.{all_at}
use Rattle.cell_world.proofs.MappingLaws.{sound_mappings}
use Rattle.cell_world.proofs.OrderLaws.{rows_total, exact_rows}
use Rattle.cell_world.proofs.SpanLaws.{same_is, same_self, overlaps_shared}
use Rattle.cell_world.specs.Orders.{row_cmp}
use Rattle.cell_world.specs.declared.cells.RowName.{RowName}
use Rattle.global_tables.proofs.Entries.{entry_stands}
use Rattle.image_laws.proofs.MeaningLaws.{get-rows}
use Rattle.image_laws.specs.Fits.{Fits}
use Rattle.image_laws.proofs.CommitImages.{commit_meaning, batch_outside}
use Rattle.image_laws.proofs.JobKinds.{StepKind, Merging, Splitting, Batching, step_kind}
use Rattle.image_laws.proofs.JobTable.{end_not_self}
use Rattle.image_laws.proofs.OwnerLaws.{owner_key, owner_stands}
use Rattle.image_laws.proofs.Places.{old_attached, new_attached}
use Rattle.image_laws.proofs.SoundParts.{are_logged}
use Rattle.plain_model.specs.declared.commands.Command.{Command}
use Rattle.plain_model.specs.declared.commands.Command.TheVariants as command
use Rattle.plain_model.specs.declared.replies.Reply.TheVariants as reply
use Rattle.plain_model.specs.Refusing.{refusal, checks, mapping_of, key_in, next_mapping, locked, same_kind, same_token, same_status, is_detached, is_suspect, if_there, location_of_mapping}
use Rattle.plain_model.specs.Steps.{Exchange, exchange_of, exchange_by, exchanging, refused_or_done, with_status, with_location, ended_under}
use Rattle.plain_model.specs.Legal.{IsOwnOf}
use Rattle.operation_laws.specs.Entries.{FollowsAtCommit}
use Rattle.operation_laws.specs.Opening.{Opens}
use Rattle.operation_laws.proofs.AddAtCommit.{all_pass, not_away, range_of_kind}

-- a token that is none or the given one is open
open_token : (given t : Option Token) → (t ≡ None) ⊎ (t ≡ given) → (is_some t && not (same_token given t)) ≡ false
open_token given None h = refl
open_token given (Some a) (inl e) = absurd cc
open_token given (Some a) (inr e) = subst (λ g. not (same_token g (Some a)) ≡ false) e (ap not (eq-eqb a.0 a.0 refl))

other_status : (a b : Status) → (a ≡ b → ⊥) → same_status a b ≡ false
other_status Online Online d = absurd (d refl)
other_status Offline Offline d = absurd (d refl)
other_status Online Offline d = refl
other_status Offline Online d = refl

module _ (image : Image) (sound : Sound image) (op : Op) (logged : HasLog (global image).log op) (name key : Text) (connections : Connections) where
  abbrev A : PlainState
  A = with_connections (meaning image) connections

  law : Lawful image op
  law = sound.logged.lawful op logged

  fit : Fits (global image).maps (global image).mappings op
  fit = (are_logged image sound).fits op logged

  bare : listed op.olds ≡ [] → listed op.news ≡ [] → ⊥
  bare olds news = let e : None ≡ Some op.hull = (λ i. hull_of (sym olds i ++ sym news i)) ∙ law.hull in absurd cc

  -- the exchange is the operation's
  abbrev Own : Exchange → Type 0
  Own e = (listed op.olds ≡ e.0) × (listed op.news ≡ e.1)

  -- the state after the commit of an operation that puts no job
  state_after : (c : Command) → op.extra ≡ extra.None → Own (exchange_of A c) → exchanging A (exchange_of A c) ≡ with_connections (meaning (committed_image image op)) connections
  state_after c no_job own = (λ i. record A { mappings = exchanged (global image).mappings (sym own.0 i) (sym own.1 i); jobs = jobs_after (global image).jobs (sym no_job i) })
      ∙ ap (λ (s : PlainState). with_connections s connections) (sym (commit_meaning image sound op law (jobs_after (global image).jobs op.extra)))

  -- ---- the mapping over the key

  -- The exchange of a command is made of the mapping over the key.
  pub record IsOver (f : Piece → Exchange) : Type 0 where
    pub piece : Piece
    pub is : mapping_of A name key ≡ Some piece
    pub own : Own (f piece)

  over_key : (f : Piece → Exchange) → Own (exchange_by f (mapping_of A name key)) → IsOver f
  over_key f own = by (mapping_of A name key) refl own
    where
      by : (m : Option Piece) → mapping_of A name key ≡ m → Own (exchange_by f m) → IsOver f
      by None e own = absurd (bare own.0 own.1)
      by (Some p) e own = record { piece = p; is = e; own = own }

  module _ (p : Piece) (is : mapping_of A name key ≡ Some p) where
    the_key : (k : Text) × (key_in A name key ≡ Some k) × (owner A name k ≡ Some p)
    the_key = by (key_in A name key) refl is
      where
        by : (k : Option Text) → key_in A name key ≡ k → option_and_then (owner A name) k ≡ Some p → (k : Text) × (key_in A name key ≡ Some k) × (owner A name k ≡ Some p)
        by None e f = absurd cc
        by (Some k) e f = (k, e, f)

    map_there : (k : MapKind) × (type : KeyType) × (map.get (global image).maps name ≡ Some (k, type))
    map_there = let k = owner_key (global image).maps (global image).mappings (sound_mappings image sound).placed name the_key.0 p the_key.2 in (k.0, k.1, k.2)

    stands : not (is_some (map.get (global image).maps name)) ≡ false
    stands = ap (λ (m : Option (MapKind × KeyType)). not (is_some m)) map_there.2

    has_key : is_none (key_in A name key) ≡ false
    has_key = ap is_none the_key.1

    has_mapping : is_none (mapping_of A name key) ≡ false
    has_mapping = ap is_none is

    module _ (among : IsOneOf (listed op.olds) p) where
      here : IsAttachedIn image p.location
      here = old_attached image op law p among

      not_detached : if_there (λ l. is_detached (map.get (global image).away l)) (location_of_mapping (mapping_of A name key)) ≡ false
      not_detached = ap (λ m. if_there (λ l. is_detached (map.get (global image).away l)) (location_of_mapping m)) is ∙ (not_away (map.get (global image).away p.location) here.attached).0

      not_suspect : if_there (λ l. is_suspect (map.get (global image).away l)) (location_of_mapping (mapping_of A name key)) ≡ false
      not_suspect = ap (λ m. if_there (λ l. is_suspect (map.get (global image).away l)) (location_of_mapping m)) is ∙ (not_away (map.get (global image).away p.location) here.attached).1

      unlocked : (token : Option Token) → Opens token op → (locked token (mapping_of A name key)).0 ≡ false
      unlocked token opens = ap (λ m. (locked token m).0) is ∙ open_token token p.token (opens.olds p among)

      -- its map is a range map, where it is a range
      range_kind : (low : Text) (high : High) → p.span ≡ Range low high → p.map ≡ name → if_there (λ k. not (same_kind kind.Range k)) (option_map (λ (m : MapKind × KeyType). m.0) (map.get (global image).maps name)) ≡ false
      range_kind low high span of_map =
          let s : IsSpanOf (global image).maps name (Range low high) = subst (λ n. IsSpanOf (global image).maps n (Range low high)) of_map (subst (IsSpanOf (global image).maps p.map) span ((sound_mappings image sound).spans p (fit.stand p among))) in
          let k = range_of_kind s.0 s.1 low high s.3 in
          ap (λ (o : Option (MapKind × KeyType)). if_there (λ x. not (same_kind kind.Range x)) (option_map (λ m. m.0) o)) s.2 ∙ ap (λ x. not (same_kind kind.Range x)) k.0

  -- ---- `offline` and `online`

  module _ (wanted : Status) (own : Own (exchange_by (λ p. (p ∷ [], with_status wanted p ∷ [])) (mapping_of A name key))) where
    turned : IsOver (λ p. (p ∷ [], with_status wanted p ∷ []))
    turned = over_key (λ p. (p ∷ [], with_status wanted p ∷ [])) own

    turned_old : IsOneOf (listed op.olds) turned.piece
    turned_old = subst (λ ps. IsOneOf ps turned.piece) (sym turned.own.0) (inl refl)

    -- its status is another one, by the shape
    differs : same_status wanted turned.piece.status ≡ false
    differs = other_status wanted turned.piece.status (λ e. turns (subst (λ ps. HasShape (rows_at image) (turned.piece ∷ []) ps) turned.own.1 (subst (λ ps. HasShape (rows_at image) ps (listed op.news)) turned.own.0 law.shape)) e)
      where
        turns : HasShape (rows_at image) (turned.piece ∷ []) (with_status wanted turned.piece ∷ []) → wanted ≡ turned.piece.status → ⊥
        turns (inl t) same = t.other same
        turns (inr m) same = m.elsewhere refl

    other_now : if_there (λ p. same_status wanted p.status) (mapping_of A name key) ≡ false
    other_now = ap (if_there (λ (p : Piece). same_status wanted p.status)) turned.is ∙ differs

  offline_accepted : (session : ℕ) (token : Option Token) → IsOwnOf A (command.Offline name key token) None image op → Opens token op → refusal A session (command.Offline name key token) ≡ None
  unfolding refusal
  offline_accepted session token own opens =
      let t = turned Offline own in
      let among = turned_old Offline own in
      all_pass (checks A session (command.Offline name key token)) (stands t.piece t.is, (has_key t.piece t.is, (has_mapping t.piece t.is, (not_detached t.piece t.is among, (not_suspect t.piece t.is among, (unlocked t.piece t.is among token opens, (other_now Offline own, tt)))))))

  online_accepted : (session : ℕ) (token : Option Token) → IsOwnOf A (command.Online name key token) None image op → Opens token op → refusal A session (command.Online name key token) ≡ None
  unfolding refusal
  online_accepted session token own opens =
      let t = turned Online own in
      let among = turned_old Online own in
      all_pass (checks A session (command.Online name key token)) (stands t.piece t.is, (has_key t.piece t.is, (has_mapping t.piece t.is, (not_detached t.piece t.is among, (not_suspect t.piece t.is among, (unlocked t.piece t.is among token opens, (other_now Online own, tt)))))))

  -- its connections end
  pub offline_at_commit : (session : ℕ) (token : Option Token) → IsOwnOf A (command.Offline name key token) None image op → Opens token op → FollowsAtCommit session (command.Offline name key token) image op connections (ended_under (mapping_of A name key) connections)
  offline_at_commit session token own opens = record {
    held = holds_nothing;
    step = ap (refused_or_done holds_nothing A session (command.Offline name key token)) (offline_accepted session token own opens)
        ∙ ap (λ (s : PlainState). (with_connections s (ended_under (mapping_of A name key) connections), reply.Ok)) (state_after (command.Offline name key token) opens.no_job own);
  }

  pub online_at_commit : (session : ℕ) (token : Option Token) → IsOwnOf A (command.Online name key token) None image op → Opens token op → FollowsAtCommit session (command.Online name key token) image op connections connections
  online_at_commit session token own opens = record {
    held = holds_nothing;
    step = ap (refused_or_done holds_nothing A session (command.Online name key token)) (online_accepted session token own opens) ∙ ap (λ (s : PlainState). (s, reply.Ok)) (state_after (command.Online name key token) opens.no_job own);
  }

  -- its map is the one that is named
  of_name : (p : Piece) → mapping_of A name key ≡ Some p → p.map ≡ name
  of_name p is = let k = the_key p is in (owner_stands (global image).maps (global image).mappings (sound_mappings image sound).placed name k.0 p k.2).1

  -- a new mapping that is a range is of a range map, and isn't empty
  part_is : (p : Piece) → p.map ≡ name → (low : Text) (high : High) → IsOneOf (listed op.news) (part_of p low high)
      → (if_there (λ k. not (same_kind kind.Range k)) (option_map (λ (m : MapKind × KeyType). m.0) (map.get (global image).maps name)) ≡ false) × (before low high ≡ true)
  part_is p of_map low high among =
      let s : IsSpanOf (global image).maps name (Range low high) = subst (λ n. IsSpanOf (global image).maps n (Range low high)) of_map (fit.new_spans (part_of p low high) among) in
      let k = range_of_kind s.0 s.1 low high s.3 in
      (ap (λ (o : Option (MapKind × KeyType)). if_there (λ x. not (same_kind kind.Range x)) (option_map (λ m. m.0) o)) s.2 ∙ ap (λ x. not (same_kind kind.Range x)) k.0, k.1)

  -- ---- `split`

  abbrev cut : Piece → Exchange
  cut p = exchange_by (λ k. exchange_by (λ end. (p ∷ [], part_of p (low_of p.span) (At k) ∷ part_of p k end ∷ [])) (end_of p.span)) (key_in A name key)

  -- where it is cut
  record IsCut (p : Piece) : Type 0 where
    pub at : Text
    pub is_key : key_in A name key ≡ Some at
    pub old : IsOneOf (listed op.olds) p
    pub new : IsOneOf (listed op.news) (part_of p (low_of p.span) (At at))

  is_cut : (p : Piece) → Own (cut p) → IsCut p
  is_cut p own = by (key_in A name key) (end_of p.span) refl own
    where
      by : (k : Option Text) (end : Option High) → key_in A name key ≡ k → Own (exchange_by (λ k. exchange_by (λ end. (p ∷ [], part_of p (low_of p.span) (At k) ∷ part_of p k end ∷ [])) end) k) → IsCut p
      by None end e own = absurd (bare own.0 own.1)
      by (Some k) None e own = absurd (bare own.0 own.1)
      by (Some k) (Some end) e own = record {
        at = k;
        is_key = e;
        old = subst (λ ps. IsOneOf ps p) (sym own.0) (inl refl);
        new = subst (λ ps. IsOneOf ps (part_of p (low_of p.span) (At k))) (sym own.1) (inl refl);
      }

  -- a key that isn't the low one
  not_low : (k low : Text) → before low (At k) ≡ true → same k low ≡ false
  not_low k low h = by (same k low) refl
    where
      by : (b : Bool) → same k low ≡ b → b ≡ false
      by false e = refl
      by true e = absurd (true≢false (sym (end_not_self (At low)) ∙ ap not (subst (λ x. before low (At x) ≡ true) (same_is k low e) h)))

  split_accepted : (session : ℕ) (token : Option Token) → IsOwnOf A (command.Split name key token) None image op → Opens token op → refusal A session (command.Split name key token) ≡ None
  unfolding refusal
  split_accepted session token own opens =
      let t = over_key cut own in
      let c = is_cut t.piece t.own in
      let part = part_is t.piece (of_name t.piece t.is) (low_of t.piece.span) (At c.at) c.new in
      let low : if_there (λ (p : Piece). if_there (λ k. same k (low_of p.span)) (key_in A name key)) (mapping_of A name key) ≡ false =
      ap (if_there (λ (p : Piece). if_there (λ k. same k (low_of p.span)) (key_in A name key))) t.is ∙ ap (if_there (λ k. same k (low_of t.piece.span))) c.is_key ∙ not_low c.at (low_of t.piece.span) part.1 in
      all_pass (checks A session (command.Split name key token))
      (stands t.piece t.is, (part.0, (has_key t.piece t.is, (has_mapping t.piece t.is, (not_detached t.piece t.is c.old, (not_suspect t.piece t.is c.old, (unlocked t.piece t.is c.old token opens, (low, tt))))))))

  pub split_at_commit : (session : ℕ) (token : Option Token) → IsOwnOf A (command.Split name key token) None image op → Opens token op → FollowsAtCommit session (command.Split name key token) image op connections connections
  split_at_commit session token own opens = record {
    held = holds_nothing;
    step = ap (refused_or_done holds_nothing A session (command.Split name key token)) (split_accepted session token own opens) ∙ ap (λ (s : PlainState). (s, reply.Ok)) (state_after (command.Split name key token) opens.no_job own);
  }

  -- ---- `merge`

  abbrev joined : Piece → Exchange
  joined p = exchange_by (λ next. exchange_by (λ end. (p ∷ next ∷ [], part_of p (low_of p.span) end ∷ [])) (end_of next.span)) (next_mapping A p)

  -- what it is joined with
  record IsJoined (p : Piece) : Type 0 where
    pub next : Piece
    pub is_next : next_mapping A p ≡ Some next
    pub end : High
    pub old : IsOneOf (listed op.olds) p
    pub new : IsOneOf (listed op.news) (part_of p (low_of p.span) end)

  is_joined : (p : Piece) → Own (joined p) → IsJoined p
  is_joined p own = by (next_mapping A p) refl own
    where
      to : (n : Piece) (end : Option High) → next_mapping A p ≡ Some n → Own (exchange_by (λ end. (p ∷ n ∷ [], part_of p (low_of p.span) end ∷ [])) end) → IsJoined p
      to n None e own = absurd (bare own.0 own.1)
      to n (Some end) e own = record {
        next = n;
        is_next = e;
        end = end;
        old = subst (λ ps. IsOneOf ps p) (sym own.0) (inl refl);
        new = subst (λ ps. IsOneOf ps (part_of p (low_of p.span) end)) (sym own.1) (inl refl);
      }

      by : (n : Option Piece) → next_mapping A p ≡ n → Own (exchange_by (λ next. exchange_by (λ end. (p ∷ next ∷ [], part_of p (low_of p.span) end ∷ [])) (end_of next.span)) n) → IsJoined p
      by None e own = absurd (bare own.0 own.1)
      by (Some n) e own = to n (end_of n.span) e own

  merge_accepted : (session : ℕ) (token : Option Token) → IsOwnOf A (command.Merge name key token) None image op → Opens token op → refusal A session (command.Merge name key token) ≡ None
  unfolding refusal
  merge_accepted session token own opens =
      let t = over_key joined own in
      let j = is_joined t.piece t.own in
      let part = part_is t.piece (of_name t.piece t.is) (low_of t.piece.span) j.end j.new in
      let mergeable : if_there (λ (p : Piece). is_none (next_mapping A p)) (mapping_of A name key) ≡ false = ap (if_there (λ (p : Piece). is_none (next_mapping A p))) t.is ∙ ap is_none j.is_next in
      all_pass (checks A session (command.Merge name key token))
      (stands t.piece t.is, (part.0, (has_key t.piece t.is, (has_mapping t.piece t.is, (not_detached t.piece t.is j.old, (not_suspect t.piece t.is j.old, (unlocked t.piece t.is j.old token opens, (mergeable, tt))))))))

  pub merge_at_commit : (session : ℕ) (token : Option Token) → IsOwnOf A (command.Merge name key token) None image op → Opens token op → FollowsAtCommit session (command.Merge name key token) image op connections connections
  merge_at_commit session token own opens = record {
    held = holds_nothing;
    step = ap (refused_or_done holds_nothing A session (command.Merge name key token)) (merge_accepted session token own opens) ∙ ap (λ (s : PlainState). (s, reply.Ok)) (state_after (command.Merge name key token) opens.no_job own);
  }

  -- ---- `delete`

  -- a key of a map is that of an entry
  key_of_any : (test : RowName → Bool) (es : List (RowName × Text)) → list_any test (list_map (λ e. e.0) es) ≡ true → (e : RowName × Text) × IsOneOf es e × (test e.0 ≡ true)
  key_of_any test [] h = absurd cc
  key_of_any test (e ∷ es) h = by (test e.0) refl h (key_of_any test es)
    where
      by : (b : Bool) → test e.0 ≡ b → (b || list_any test (list_map (λ e. e.0) es)) ≡ true → (list_any test (list_map (λ e. e.0) es) ≡ true → (x : RowName × Text) × IsOneOf es x × (test x.0 ≡ true)) → (x : RowName × Text) × IsOneOf (e ∷ es) x × (test x.0 ≡ true)
      by true t h more = (e, inl refl, t)
      by false t h more = let r = more h in (r.0, inr r.1, r.2)

  held_bytes : (b : Bool) (o : Option Text) (bytes : Text) → cond b o None ≡ Some bytes → o ≡ Some bytes
  held_bytes true o bytes h = h
  held_bytes false o bytes h = absurd cc

  -- the key is one of the mapping
  abbrev under : Piece → RowName → Bool
  under p row = same p.map row.map && contains p.span row.key

  -- the rows under a mapping, at a site
  get_under : (rows : Rows) (p : Piece) (row : RowName) → under p row ≡ true → map.get (rows_under rows p.map p.span) row ≡ map.get rows row
  get_under rows p row inside = map.get-retain_keys rows (under p) row (λ x tie. ap (under p) (sym (exact_rows row x tie))) ∙ ap (λ b. cond b (map.get rows row) None) inside

  -- who owns a key of a mapping is that mapping
  owner_one : (p : Piece) → HasPiece (global image).mappings p → (row : RowName) → under p row ≡ true → (q : Piece) → owner_of image row.map row.key ≡ Some q → p ≡ q
  owner_one p has row inside q is =
      let both = and_parts (same p.map row.map) (contains p.span row.key) inside in
      let s = owner_stands (global image).maps (global image).mappings (sound_mappings image sound).placed row.map row.key q is in
      (sound_mappings image sound).disjoint p q has s.0 (same_is p.map row.map both.0 ∙ sym s.1) (overlaps_shared p.span q.span row.key both.1 s.2)

  -- A mapping under which no row stands at its site: no row of the state is under it.
  module _ (p : Piece) (has : HasPiece (global image).mappings p) (never : (row : RowName) (bytes : Text) → under p row ≡ true → map.get (rows_at image p.location) row ≡ Some bytes → ⊥) where
    at_owner : (row : RowName) (bytes : Text) → under p row ≡ true → (o : Option Piece) → owner_of image row.map row.key ≡ o
        → option_and_then (λ (q : Piece). cond (is_attached_at image.locations (global image).away q.location) (map.get (rows_at image q.location) row) None) o ≡ Some bytes → ⊥
    at_owner row bytes inside None is h = absurd cc
    at_owner row bytes inside (Some q) is h = never row bytes inside
        (ap (λ (x : Piece). map.get (rows_at image x.location) row) (owner_one p has row inside q is) ∙ held_bytes (is_attached_at image.locations (global image).away q.location) (map.get (rows_at image q.location) row) bytes h)

    no_row : list_any (under p) (map.keys (meaning image).rows) ≡ false
    no_row = by (list_any (under p) (map.keys (meaning image).rows)) refl
      where
        by : (b : Bool) → list_any (under p) (map.keys (meaning image).rows) ≡ b → b ≡ false
        by false e = refl
        by true e =
            let r = key_of_any (under p) (map.entries (meaning image).rows) e in
            absurd (at_owner r.0.0 r.0.1 r.2 (owner_of image r.0.0.map r.0.0.key) refl (sym (get-rows image r.0.0) ∙ entry_stands row_cmp rows_total (meaning image).rows r.0 r.1))

    none_present : mapping_of A name key ≡ Some p → if_there (λ (p : Piece). list_any (λ (row : RowName). same p.map row.map && contains p.span row.key) (map.keys (meaning image).rows)) (mapping_of A name key) ≡ false
    none_present is = ap (if_there (λ (p : Piece). list_any (λ (row : RowName). same p.map row.map && contains p.span row.key) (map.keys (meaning image).rows))) is ∙ no_row

  -- a mapping that is offline
  is_offline : (p : Piece) → mapping_of A name key ≡ Some p → p.status ≡ Offline → if_there (λ (p : Piece). same_status Online p.status) (mapping_of A name key) ≡ false
  is_offline p is offline = ap (if_there (λ (p : Piece). same_status Online p.status)) is ∙ ap (same_status Online) offline

  delete_accepted : (session : ℕ) (token : Option Token) → IsOwnOf A (command.Delete name key token) None image op → Opens token op → refusal A session (command.Delete name key token) ≡ None
  unfolding refusal
  delete_accepted session token own opens =
      let t = over_key (λ p. (p ∷ [], [])) own in
      let among : IsOneOf (listed op.olds) t.piece = subst (λ ps. IsOneOf ps t.piece) (sym t.own.0) (inl refl) in
      let shape : HasShape (rows_at image) (t.piece ∷ []) [] = subst (λ ps. HasShape (rows_at image) (t.piece ∷ []) ps) t.own.1 (subst (λ ps. HasShape (rows_at image) ps (listed op.news)) t.own.0 law.shape) in
      let never : (row : RowName) (bytes : Text) → under t.piece row ≡ true → map.get (rows_at image t.piece.location) row ≡ Some bytes → ⊥ =
      λ row bytes inside h. none-some bytes (sym (map.get-empty row_cmp row) ∙ ap (λ m. map.get m row) (sym shape.1) ∙ get_under (rows_at image t.piece.location) t.piece row inside ∙ h) in
      all_pass (checks A session (command.Delete name key token))
      (stands t.piece t.is, (has_key t.piece t.is, (has_mapping t.piece t.is, (not_detached t.piece t.is among, (not_suspect t.piece t.is among, (unlocked t.piece t.is among token opens, (is_offline t.piece t.is shape.0, (none_present t.piece (fit.stand t.piece among) never t.is, tt))))))))

  pub delete_at_commit : (session : ℕ) (token : Option Token) → IsOwnOf A (command.Delete name key token) None image op → Opens token op → FollowsAtCommit session (command.Delete name key token) image op connections connections
  delete_at_commit session token own opens = record {
    held = holds_nothing;
    step = ap (refused_or_done holds_nothing A session (command.Delete name key token)) (delete_accepted session token own opens) ∙ ap (λ (s : PlainState). (s, reply.Ok)) (state_after (command.Delete name key token) opens.no_job own);
  }

  -- ---- `move`

  -- An operation that puts no job and replaces one mapping by one is a step of none.
  step_of_none : (p n : Piece) → listed op.olds ≡ p ∷ [] → listed op.news ≡ n ∷ [] → op.extra ≡ extra.None → (job : JobRow) → HasJob (global image).jobs job → job_of_pieces (global image).jobs (listed op.olds) ≡ Some job → ⊥
  step_of_none p n olds news none job stands e = by (subst (IsOfJob (read_tables image) op) e law.job)
    where
      two_one : (a b c : Piece) → listed op.olds ≡ a ∷ b ∷ [] → ⊥
      two_one a b c is = let f : p ∷ [] ≡ a ∷ b ∷ [] = sym olds ∙ is in cc

      one_two : (a b : Piece) → listed op.news ≡ a ∷ b ∷ [] → ⊥
      one_two a b is = let f : n ∷ [] ≡ a ∷ b ∷ [] = sym news ∙ is in cc

      puts : (now : JobRow) → op.extra ≡ extra.JobPut now → ⊥
      puts now is = let f : extra.None ≡ extra.JobPut now = sym none ∙ is in cc

      of_kind : StepKind (global image).maps (global image).mappings job (listed op.olds) (listed op.news) op.extra → ⊥
      of_kind (Merging m) = two_one m.low m.high m.whole m.old_are
      of_kind (Splitting s) = one_two s.low s.high s.new_are
      of_kind (Batching b) = puts b.now b.put_is

      by : IsStepOf (read_tables image) job op → ⊥
      by s = of_kind (step_kind (global image).maps (global image).mappings (sound_mappings image sound) (global image).shards (next_job image) job (sound.jobs job stands) (listed op.olds) (listed op.news) op.extra image.locations (global image).away (sound.progress job stands) s.row)

  module _ (location : Text) (p : Piece) (is : mapping_of A name key ≡ Some p) (olds : listed op.olds ≡ p ∷ []) (news : listed op.news ≡ with_location location p ∷ []) (none : op.extra ≡ extra.None) where
    moved_old : IsOneOf (listed op.olds) p
    moved_old = subst (λ ps. IsOneOf ps p) (sym olds) (inl refl)

    moved_new : IsOneOf (listed op.news) (with_location location p)
    moved_new = subst (λ ps. IsOneOf ps (with_location location p)) (sym news) (inl refl)

    moves : Moves (rows_at image) p (with_location location p)
    moves = by (subst (λ ps. HasShape (rows_at image) (p ∷ []) ps) news (subst (λ ps. HasShape (rows_at image) ps (listed op.news)) olds law.shape))
      where
        by : HasShape (rows_at image) (p ∷ []) (with_location location p ∷ []) → Moves (rows_at image) p (with_location location p)
        by (inl t) = absurd (t.other refl)
        by (inr m) = m

    target : IsAttachedIn image location
    target = new_attached image op law (with_location location p) moved_new

    -- no row is under it: it would be at the target too, which owns none of its keys, and in no batch of a job
    never_there : (row : RowName) (bytes : Text) → under p row ≡ true → map.get (rows_at image p.location) row ≡ Some bytes → ⊥
    never_there row bytes inside h =
        let there : map.get (rows_at image location) row ≡ Some bytes =
        sym (get_under (rows_at image location) p row inside) ∙ ap (λ m. map.get m row) moves.same_rows ∙ get_under (rows_at image p.location) p row inside ∙ h in
        let both = and_parts (same p.map row.map) (contains p.span row.key) inside in
        let in_hull = and_from (same row.map op.map) (contains op.hull row.key)
        (subst (λ n. same n op.map ≡ true) (same_is p.map row.map both.0) (subst (λ n. same p.map n ≡ true) (fit.old_map p moved_old) (same_self p.map))) (fit.shaped.old_in p moved_old row.key both.1) in
        elim ((sound.rows location target).placed row (ap is_some there)) [
          | inl w ↦ moves.elsewhere (sym w.2 ∙ ap (λ (x : Piece). x.location) (sym (owner_one p (fit.stand p moved_old) row inside w.0 w.1)))
          | inr v ↦ batch_outside image sound op law v.job v.stands (step_of_none p (with_location location p) olds news none v.job v.stands) row in_hull v.of_map v.in_batch v.of_type
        ]

    shard_there : not (set.contains (global image).shards (name, location)) ≡ false
    shard_there = ap not (ap (λ n. set.contains (global image).shards (n, location)) (sym (of_name p is) ∙ fit.new_map (with_location location p) moved_new)
        ∙ all_at (λ (n : Piece). IsTrue (set.contains (global image).shards (op.map, n.location))) (listed op.news) law.on_shards (with_location location p) moved_new)

    other_site : if_there (λ (p : Piece). same p.location location) (mapping_of A name key) ≡ false
    other_site = ap (if_there (λ (p : Piece). same p.location location)) is ∙ by (same p.location location) refl
      where
        by : (b : Bool) → same p.location location ≡ b → b ≡ false
        by false e = refl
        by true e = absurd (moves.elsewhere (sym (same_is p.location location e)))

  move_accepted : (session : ℕ) (location : Text) (token : Option Token) → IsOwnOf A (command.Move name key location token) None image op → Opens token op → refusal A session (command.Move name key location token) ≡ None
  unfolding refusal
  move_accepted session location token own opens =
      let t = over_key (λ p. (p ∷ [], with_location location p ∷ [])) own in
      let among = moved_old location t.piece t.is t.own.0 t.own.1 opens.no_job in
      let here = target location t.piece t.is t.own.0 t.own.1 opens.no_job in
      let away = not_away (map.get (global image).away location) here.attached in
      all_pass (checks A session (command.Move name key location token)) (
        stands t.piece t.is,
        (
          has_key t.piece t.is,
          (
            has_mapping t.piece t.is,
            (
              not_detached t.piece t.is among,
              (
                not_suspect t.piece t.is among,
                (
                  unlocked t.piece t.is among token opens,
                  (
                    ap not here.known,
                    (
                      shard_there location t.piece t.is t.own.0 t.own.1 opens.no_job,
                      (
                        away.0,
                        (
                          away.1,
                          (
                            other_site location t.piece t.is t.own.0 t.own.1 opens.no_job,
                            (
                              is_offline t.piece t.is (moves location t.piece t.is t.own.0 t.own.1 opens.no_job).offline,
                              (none_present t.piece (fit.stand t.piece among) (never_there location t.piece t.is t.own.0 t.own.1 opens.no_job) t.is, tt),
                            ),
                          ),
                        ),
                      ),
                    ),
                  ),
                ),
              ),
            ),
          ),
        ),
      )

  pub move_at_commit : (session : ℕ) (location : Text) (token : Option Token) → IsOwnOf A (command.Move name key location token) None image op → Opens token op → FollowsAtCommit session (command.Move name key location token) image op connections connections
  move_at_commit session location token own opens = record {
    held = holds_nothing;
    step = ap (refused_or_done holds_nothing A session (command.Move name key location token)) (move_accepted session location token own opens) ∙ ap (λ (s : PlainState). (s, reply.Ok)) (state_after (command.Move name key location token) opens.no_job own);
  }
