-- The operation by which a mapping and the next one are one.
use Rattle.std.proofs.Common.{◌≡◌, ◌&&◌, Bool, true, false, cond, not, List, [], ◌∷◌, Option, Some, None, is_some, inl, inr, refl, sym, ap, ◌∙◌, subst}
use Rattle.std.specs.Prelude.{Result, Ok, Err, IsTrue, IfSome, is_none}
use Rattle.std.specs.FinMap as map
use Rattle.std.proofs.lemmas.Option.{same_Some}
use Rattle.cell_world.specs.Texts.{Text}
use Rattle.cell_world.specs.Images.{Image, global}
use Rattle.cell_world.specs.Keys.{same, below, before, contains, low_of, end_of}
use Rattle.cell_world.specs.KeyForms.{is_normal}
use Rattle.cell_world.specs.Jobs.{part_of}
use Rattle.cell_world.specs.Lawful.{Lawful}
use Rattle.cell_world.specs.Lists.{IsOneOf}
use Rattle.cell_world.specs.Meaning.{meaning}
use Rattle.cell_world.specs.Operations.{joined}
use Rattle.cell_world.specs.Outside.{Told, IfContents, TellsCells}
use Rattle.cell_world.specs.Plain.{PlainState, is_location_of}
use Rattle.cell_world.specs.Sound.{Sound, HasPiece, HasMap, IsAttachedIn}
use Rattle.cell_world.specs.Spelled.{is_spelled}
use Rattle.cell_world.specs.Stores.{IsStore}
use Rattle.cell_world.specs.declared.cells.Cell.TheVariants as cell
use Rattle.cell_world.specs.declared.cells.MapKind.TheVariants as kind
use Rattle.cell_world.specs.declared.cells.Token.{Token}
use Rattle.cell_world.specs.declared.operations.Op.{Op}
use Rattle.cell_world.specs.declared.operations.Piece.{Piece}
use Rattle.cell_world.specs.declared.spans.High.{High}
use Rattle.cell_world.specs.declared.spans.High.TheVariants.{At}
use Rattle.cell_world.specs.declared.spans.Span.{Span}
use Rattle.cell_world.specs.declared.spans.Span.TheVariants.{Range, Point}
use Rattle.cell_world.proofs.ContentsLaws.{contents_all, contents_both, contents_store, contents_weaker}
use Rattle.cell_world.proofs.SpanLaws.{same_self, at_most_before}
use Rattle.image_laws.proofs.ShapeLaws.{IsCut, cut_at, below_at_most, of_one, of_two}
use Rattle.global_tables.specs.Known.{Known}
use Rattle.op_log.specs.ShortChanges.{IsFreeToken}
use Rattle.plain_model.specs.declared.commands.Command.{Command}
use Rattle.plain_model.specs.declared.commands.Command.TheVariants as command
use Rattle.plain_model.specs.declared.plans.Plan.{Plan}
use Rattle.plain_model.specs.declared.plans.Plan.TheVariants as plan
use Rattle.plain_model.specs.declared.plans.PlanStop.{PlanStop}
use Rattle.plain_model.specs.declared.plans.PlanStop.TheVariants as stop
use Rattle.plain_model.specs.declared.replies.Refusal.TheVariants.{Locked, NotMergeable}
use Rattle.plain_model.specs.Refusing.{Check, first_refusal, refusal, locked, not_mergeable, mapping_of, next_mapping, same_token}
use Rattle.plain_model.specs.Steps.{Exchange, exchange_by, merged_with_next}
use Rattle.map_ops.specs.Planning.{Refuses, Plans, PlansLong, PlansWith}
use Rattle.mapping_plans.specs.Exchanges.{merge_range, merge_within, merge_op, one_piece, two_pieces, PlansSome}
use Rattle.mapping_plans.specs.Finding.{IsNamed, FindsWith, ChecksAfter}
use Rattle.mapping_plans.specs.Merging.{PlansMerge, PlansNext}
use Rattle.mapping_plans.specs.declared.finding.Owned.{Owned}
use Rattle.mapping_plans.proofs.AfterChecks.{OfNamed, decided_after, stopped_at_first, refused_after}
use Rattle.mapping_plans.proofs.ExchangeLaws.{exchange_lawful, free_of, no_job_of_two}
use Rattle.mapping_plans.proofs.NamedPieces.{named_kind, named_stands, named_here, no_job_of}
use Rattle.mapping_plans.proofs.NextMappings.{IsNext, is_next}
use Rattle.mapping_plans.proofs.RangeMaps.{IsRangeMap, IsRanged, is_range_map, ranged, ranges_of, range_normal}

-- what is checked after the first checks
abbrev pub merge_checks : Option Token → PlainState → Option Piece → List Check
merge_checks token s piece = locked token piece ∷ not_mergeable s piece ∷ []

pub merge_asks : (name text : Text) (token : Option Token) → ChecksAfter (command.Merge name text token) (Some kind.Range) name text (λ s key piece. merge_checks token s piece)
unfolding refusal
merge_asks name text token image session connections = refl

module _ (image : Image) (sound : Sound image) (store : IsStore (global image)) (name text key : Text) (token : Option Token) (p : Piece) (named : IsNamed (Some kind.Range) name text key p (meaning image))
    (known : IsTrue (is_location_of (meaning image) p.location)) (free : IsFreeToken p.token) (accepts : Refuses (command.Merge name text token) None image) (opens : (locked token (Some p)).0 ≡ false)
    (next : Piece) (follows : next_mapping (meaning image) p ≡ Some next) where
  stands : HasPiece (global image).mappings p × (p.map ≡ name) × IsTrue (contains p.span key)
  stands = named_stands image sound (Some kind.Range) name text key p named

  n : IsNext image p next
  n = is_next image sound p next follows

  range_map : IsRangeMap image name
  range_map = is_range_map image name (named_kind image sound (Some kind.Range) name text key p named)

  r : IsRanged range_map.0 p.span
  r = ranged image sound name range_map.0 range_map.1 p stands.0 stands.1

  m : IsRanged range_map.0 next.span
  m = ranged image sound name range_map.0 range_map.1 next n.stands (n.of_map ∙ stands.1)

  abbrev from : Text
  from = low_of p.span

  from_is : from ≡ r.from
  from_is = ap low_of r.is

  -- the mapping ends where the next one begins
  ends : r.to ≡ At m.from
  ends = same_Some r.to (At m.from) (sym (ap end_of r.is) ∙ n.begins ∙ ap (λ (s : Span). Some (At (low_of s))) m.is)

  p_is : p.span ≡ Range from (At m.from)
  p_is = r.is ∙ (λ i. Range (sym from_is i) (ends i))

  first : below from m.from ≡ true
  first = subst (λ (t : Text). below t m.from ≡ true) (sym from_is) (subst (λ (e : High). before r.from e ≡ true) ends r.order)

  cut : IsCut (Range from m.to) (Range from (At m.from)) (Range m.from m.to)
  cut = cut_at from m.from m.to first m.order

  abbrev whole : Piece
  whole = part_of p from m.to

  inside : (k : Text) → IsTrue (contains whole.span k) → (o : Piece) × IsOneOf (p ∷ next ∷ []) o × IsTrue (contains o.span k)
  inside k h = elim (cut.parts k h) [
    | inl low ↦ (p, inl refl, subst (λ (s : Span). IsTrue (contains s k)) (sym p_is) low)
    | inr high ↦ (next, inr (inl refl), subst (λ (s : Span). IsTrue (contains s k)) (sym m.is) high)
  ]

  of_map : HasMap (global image).maps p.map kind.Range range_map.0
  of_map = ap (map.get (global image).maps) stands.1 ∙ range_map.1

  lawful : Lawful image (merge_range p next m.to)
  lawful =
      let here = named_here image sound (Some kind.Range) name text key p named known in
      let there = subst (IsAttachedIn image) (sym n.location) here in
      let shard = sound.globals.on_shards p stands.0 in
      exchange_lawful image sound p.map whole.span (two_pieces p next) (one_piece whole) (ap is_some of_map) (stands.0, (n.stands, tt)) (refl, (n.of_map, (refl, tt))) refl refl (here, (there, (here, tt))) (shard, tt)
      (ranges_of image p.map range_map.0 of_map (whole ∷ []) (range_normal range_map.0 from m.to (subst (λ (t : Text). IsTrue (is_normal range_map.0 t)) (sym from_is) r.low) m.end (at_most_before from m.from m.to (below_at_most from m.from first) m.order), tt)) tt
      (free_of image sound p.map (p ∷ next ∷ []) (whole ∷ []) (of_two (λ o. HasPiece (global image).mappings o × (o.map ≡ p.map)) (stands.0, refl) (n.stands, n.of_map))
      (of_one (λ (n : Piece). (k : Text) → IsTrue (contains n.span k) → (o : Piece) × IsOneOf (p ∷ next ∷ []) o × IsTrue (contains o.span k)) inside))
      (ap Some ((λ i. joined (p_is i) (joined (m.is i) whole.span)) ∙ cut.hull_back))
      (record {
        key = m.from;
        from = from;
        to = m.to;
        range = refl;
        lower = λ i. record p { span = p_is i };
        upper = λ i. record { map = n.of_map i; span = m.is i; location = n.location i; status = n.status i; token = n.token i };
      })
      (no_job_of_two image p next (no_job_of image store p free) (no_job_of image store next (subst IsFreeToken (sym n.token) free)))

  -- what becomes of the two where the span of the next one is this one
  abbrev merged_within : Span → Exchange
  merged_within s = exchange_by (λ (end : High). (p ∷ next ∷ [], part_of p from end ∷ [])) (end_of s)

  -- and by which mapping is the next one
  abbrev merged_by : Option Piece → Exchange
  merged_by o = exchange_by (λ (q : Piece). exchange_by (λ (end : High). (p ∷ q ∷ [], part_of p from end ∷ [])) (end_of q.span)) o

  exchanges : merged_with_next (meaning image) (mapping_of (meaning image) name text) ≡ (p ∷ next ∷ [], whole ∷ [])
  exchanges = ap (merged_with_next (meaning image)) named.owned ∙ ap merged_by follows ∙ ap merged_within m.is

  pub merge_planned : (op : Op) × (merge_op p next ≡ Some op) × PlansLong (command.Merge name text token) op image
  merge_planned = (
    merge_range p next m.to,
    ap (merge_within p next) m.is,
    record {
      accepts = accepts;
      lawful = lawful;
      own = λ connections. (sym (ap (λ (e : Exchange). e.0) exchanges), sym (ap (λ (e : Exchange). e.1) exchanges));
      no_job = refl;
      tokens = (opens, (subst (λ (t : Option Token). (is_some t && not (same_token token t)) ≡ false) (sym n.token) opens, tt));
    },
  )

-- its log cell has a spelling
pub merge_spelled : (p next : Piece) → same p.map next.map ≡ true → IfSome (merge_op p next) (λ op. IsTrue (is_spelled (cell.Log op)))
merge_spelled p next of_map = by next.span
  where
    by : (s : Span) → IfSome (merge_within p next s) (λ op. IsTrue (is_spelled (cell.Log op)))
    by (Range low end) = λ i. same_self p.map i && (of_map i && (same_self p.map i && true))
    by (Point at) = tt

-- ---- over what is told

module _ (told : Told) (known : Known) (name text : Text) (token : Option Token) (found : Result Owned PlanStop) (finds : IfContents told (FindsWith known (Some kind.Range) name text found)) where
  abbrev c : Command
  c = command.Merge name text token

  abbrev more : PlainState → Option Text → Option Piece → List Check
  more s key piece = merge_checks token s piece

  pub merge_stopped : (e : PlanStop) → found ≡ Err e → IfContents told (PlansWith known c (Err e))
  merge_stopped e is = stopped_at_first told known c (Some kind.Range) name text more (merge_asks name text token) found e is finds

  module _ (owned : Owned) (is : found ≡ Ok owned) (opened : Bool) (lock : opened ≡ (locked token (Some owned.piece)).0) where
    pub merge_locked : opened ≡ true → IfContents told (PlansWith known c (Err (stop.Refused Locked)))
    merge_locked shut = refused_after told known c (Some kind.Range) name text more (merge_asks name text token) found owned is finds (Some Locked) Locked refl
        (contents_all told (OfNamed known (Some kind.Range) name text owned (λ image. Some Locked ≡ first_refusal (more (meaning image) (Some owned.key) (Some owned.piece))))
        (λ image sound copy named. sym (ap (λ b. cond b (Some Locked) (first_refusal (not_mergeable (meaning image) (Some owned.piece) ∷ []))) (sym lock ∙ shut))))

    module _ (open_so : opened ≡ false) (image : Image) (sound : Sound image) (store : IsStore (global image)) (named : IsNamed (Some kind.Range) name text owned.key owned.piece (meaning image)) where
      opens : (locked token (Some owned.piece)).0 ≡ false
      opens = sym lock ∙ open_so

      -- past the token the next mapping decides
      decides : (o : Option Piece) → next_mapping (meaning image) owned.piece ≡ o → Refuses c (cond (is_none o) (Some NotMergeable) None) image
      decides o e = decided_after c (Some kind.Range) name text more (merge_asks name text token) image owned.key owned.piece named (cond (is_none o) (Some NotMergeable) None)
          (ap (λ (o : Option Piece). cond (is_none o) (Some NotMergeable) None) (sym e)
          ∙ sym (ap (λ b. cond b (Some Locked) (first_refusal (not_mergeable (meaning image) (Some owned.piece) ∷ []))) opens))

      by : (r : Result Plan PlanStop) → PlansMerge owned.piece r image → Plans c r image
      by (Err stop.Store) plans = tt
      by (Err stop.Memory) plans = tt
      by (Err (stop.Refused r)) plans = refuses (next_mapping (meaning image) owned.piece) refl (plans sound)
        where
          refuses : (o : Option Piece) → next_mapping (meaning image) owned.piece ≡ o → PlansNext owned.piece o (Err (stop.Refused r)) image → Plans c (Err (stop.Refused r)) image
          refuses None e wrong = let same : r ≡ NotMergeable = cc in λ session connections. decides None e session connections ∙ ap Some (sym same)
          refuses (Some next) e plans = none (merge_op owned.piece next) plans
            where
              none : (o : Option Op) → PlansSome owned.piece o (Err (stop.Refused r)) image → Plans c (Err (stop.Refused r)) image
              none None wrong = absurd cc
              none (Some op) wrong = let never : stop.Refused r ≡ stop.Memory = wrong.0 in absurd cc
      by (Ok p) plans = accepts (next_mapping (meaning image) owned.piece) refl (plans sound)
        where
          accepts : (o : Option Piece) → next_mapping (meaning image) owned.piece ≡ o → PlansNext owned.piece o (Ok p) image → Plans c (Ok p) image
          accepts None e wrong = absurd cc
          accepts (Some next) e plans = of_op (merge_op owned.piece next) refl plans
            where
              of_op : (o : Option Op) → merge_op owned.piece next ≡ o → PlansSome owned.piece o (Ok p) image → Plans c (Ok p) image
              of_op None is none = absurd none
              of_op (Some op) is plans =
                  let made = merge_planned image sound store name text owned.key token owned.piece named plans.1 plans.2 (decides (Some next) e) opens next e in
                  subst (λ (p : Plan). Plans c (Ok p) image) (sym (plans.0 ∙ ap plan.Long (same_Some op made.0 (sym is ∙ made.1)))) made.2

    pub merge_told : opened ≡ false → TellsCells told → (result : Result Plan PlanStop) → IfContents told (PlansMerge owned.piece result) → IfContents told (PlansWith known c result)
    merge_told open_so cells result plans =
        contents_weaker told (λ image. FindsWith known (Some kind.Range) name text (Ok owned) image × (IsStore (global image) × PlansMerge owned.piece result image)) (PlansWith known c result)
        (λ image all sound copy. by open_so image sound all.1.0 (all.0 sound copy) result all.1.1)
        (contents_both told (FindsWith known (Some kind.Range) name text (Ok owned)) (λ image. IsStore (global image) × PlansMerge owned.piece result image)
        (subst (λ (r : Result Owned PlanStop). IfContents told (FindsWith known (Some kind.Range) name text r)) is finds)
        (contents_both told (λ image. IsStore (global image)) (PlansMerge owned.piece result) (contents_store told cells) plans))
