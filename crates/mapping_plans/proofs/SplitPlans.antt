-- The operation that cuts a mapping at a key.
use Rattle.std.proofs.Common.{◌≡◌, ◌&&◌, Bool, true, false, List, [], ◌∷◌, Option, Some, None, is_some, inl, refl, sym, ap, ◌∙◌, subst}
use Rattle.std.specs.Prelude.{Result, Ok, Err, IsTrue, IfSome}
use Rattle.std.specs.FinMap as map
use Rattle.std.proofs.lemmas.Bool.{and_parts}
use Rattle.cell_world.specs.Texts.{Text}
use Rattle.cell_world.specs.Images.{Image, global}
use Rattle.cell_world.specs.Keys.{same, below, before, at_most, contains, overlaps, low_of, end_of}
use Rattle.cell_world.specs.KeyForms.{is_normal}
use Rattle.cell_world.specs.Jobs.{part_of}
use Rattle.cell_world.specs.Lawful.{Lawful}
use Rattle.cell_world.specs.Lists.{IsOneOf}
use Rattle.cell_world.specs.Meaning.{meaning}
use Rattle.cell_world.specs.Operations.{joined}
use Rattle.cell_world.specs.Outside.{Told, IfContents, TellsCells}
use Rattle.cell_world.specs.Plain.{PlainState, is_location_of}
use Rattle.cell_world.specs.Sound.{Sound, HasPiece, HasMap}
use Rattle.cell_world.specs.Spelled.{is_spelled}
use Rattle.cell_world.specs.Stores.{IsStore}
use Rattle.cell_world.specs.declared.cells.Cell.TheVariants as cell
use Rattle.cell_world.specs.declared.cells.MapKind.TheVariants as kind
use Rattle.cell_world.specs.declared.cells.Token.{Token}
use Rattle.cell_world.specs.declared.operations.Op.{Op}
use Rattle.cell_world.specs.declared.operations.Piece.{Piece}
use Rattle.cell_world.specs.declared.spans.High.{High}
use Rattle.cell_world.specs.declared.spans.High.TheVariants.{At}
use Rattle.cell_world.specs.declared.spans.Span.{Span}
use Rattle.cell_world.specs.declared.spans.Span.TheVariants.{Range, Point}
use Rattle.cell_world.proofs.ContentsLaws.{contents_all, contents_store}
use Rattle.cell_world.proofs.SpanLaws.{same_self, shared_of_overlap}
use Rattle.image_laws.proofs.ShapeLaws.{IsCut, cut_at, of_one, of_two}
use Rattle.global_tables.specs.Known.{Known}
use Rattle.op_log.specs.ShortChanges.{IsFreeToken}
use Rattle.plain_model.specs.declared.commands.Command.{Command}
use Rattle.plain_model.specs.declared.commands.Command.TheVariants as command
use Rattle.plain_model.specs.declared.plans.Plan.{Plan}
use Rattle.plain_model.specs.declared.plans.PlanStop.{PlanStop}
use Rattle.plain_model.specs.declared.plans.PlanStop.TheVariants as stop
use Rattle.plain_model.specs.declared.replies.Refusal.{Refusal}
use Rattle.plain_model.specs.Refusing.{Check, first_refusal, refusal, locked, bad_split, key_in, mapping_of}
use Rattle.plain_model.specs.Steps.{Exchange, exchange_by}
use Rattle.plain_model.specs.Steps as step
use Rattle.map_ops.specs.Planning.{Refuses, PlansLong, PlansWith}
use Rattle.map_ops.proofs.Checks.{NoneHolds, none_holds}
use Rattle.mapping_plans.specs.Exchanges.{split_range, split_within, split_op, one_piece, two_pieces, PlansSome}
use Rattle.mapping_plans.specs.Finding.{IsNamed, FindsWith, ChecksAfter}
use Rattle.mapping_plans.specs.declared.finding.Owned.{Owned}
use Rattle.mapping_plans.proofs.AfterChecks.{OfNamed, stopped_at_first, refused_after, some_after}
use Rattle.mapping_plans.proofs.ExchangeLaws.{exchange_lawful, free_of, no_job_of_one}
use Rattle.mapping_plans.proofs.NamedPieces.{named_key, named_kind, named_stands, named_here, no_job_of}
use Rattle.mapping_plans.proofs.RangeMaps.{IsRangeMap, IsRanged, is_range_map, ranged, normal_in, ranges_of, range_normal, above_low}

-- what is checked after the first checks
abbrev pub split_checks : Option Token → Option Text → Option Piece → List Check
split_checks token key piece = locked token piece ∷ bad_split key piece ∷ []

pub split_asks : (name text : Text) (token : Option Token) → ChecksAfter (command.Split name text token) (Some kind.Range) name text (λ s key piece. split_checks token key piece)
unfolding refusal
split_asks name text token image session connections = refl

module _ (image : Image) (sound : Sound image) (store : IsStore (global image)) (name text key : Text) (token : Option Token) (p : Piece) (named : IsNamed (Some kind.Range) name text key p (meaning image))
    (known : IsTrue (is_location_of (meaning image) p.location)) (free : IsFreeToken p.token) (accepts : Refuses (command.Split name text token) None image) (passes : first_refusal (split_checks token (Some key) (Some p)) ≡ None) where
  none : NoneHolds (split_checks token (Some key) (Some p))
  none = none_holds (split_checks token (Some key) (Some p)) passes

  stands : HasPiece (global image).mappings p × (p.map ≡ name) × IsTrue (contains p.span key)
  stands = named_stands image sound (Some kind.Range) name text key p named

  range_map : IsRangeMap image name
  range_map = is_range_map image name (named_kind image sound (Some kind.Range) name text key p named)

  r : IsRanged range_map.0 p.span
  r = ranged image sound name range_map.0 range_map.1 p stands.0 stands.1

  -- the key is within the range, past its low key
  inside : (at_most r.from key ≡ true) × (before key r.to ≡ true)
  inside = and_parts (at_most r.from key) (before key r.to) (subst (λ (s : Span). IsTrue (contains s key)) r.is stands.2)

  past : below r.from key ≡ true
  past = above_low r.from key inside.0 (subst (λ (s : Span). same key (low_of s) ≡ false) r.is none.1.0)

  abbrev low : Piece
  low = part_of p r.from (At key)

  abbrev high : Piece
  high = part_of p key r.to

  cut : IsCut (Range r.from r.to) low.span high.span
  cut = cut_at r.from key r.to past inside.1

  whole : (k : Text) → IsTrue (contains (Range r.from r.to) k) → IsTrue (contains p.span k)
  whole k h = subst (λ (s : Span). IsTrue (contains s k)) (sym r.is) h

  apart : overlaps low.span high.span ≡ false
  apart = by (overlaps low.span high.span) refl
    where
      by : (b : Bool) → overlaps low.span high.span ≡ b → b ≡ false
      by false e = refl
      by true e = let k = shared_of_overlap low.span high.span e in absurd (cut.apart k.0 k.1 k.2)

  normal : IsTrue (is_normal range_map.0 key)
  normal = normal_in image name key range_map.0 range_map.1 (named_key image sound (Some kind.Range) name text key p named)

  of_map : HasMap (global image).maps p.map kind.Range range_map.0
  of_map = ap (map.get (global image).maps) stands.1 ∙ range_map.1

  lawful : Lawful image (split_range p r.from key r.to)
  lawful =
      let here = named_here image sound (Some kind.Range) name text key p named known in
      let shard = sound.globals.on_shards p stands.0 in
      exchange_lawful image sound p.map p.span (one_piece p) (two_pieces low high) (ap is_some of_map) (stands.0, tt) (refl, (refl, (refl, tt))) refl refl (here, (here, (here, tt))) (shard, (shard, tt))
      (ranges_of image p.map range_map.0 of_map (low ∷ high ∷ []) (range_normal range_map.0 r.from (At key) r.low normal past, (range_normal range_map.0 key r.to normal r.end inside.1, tt))) apart
      (free_of image sound p.map (p ∷ []) (low ∷ high ∷ []) (of_one (λ o. HasPiece (global image).mappings o × (o.map ≡ p.map)) (stands.0, refl))
      (of_two (λ (n : Piece). (k : Text) → IsTrue (contains n.span k) → (o : Piece) × IsOneOf (p ∷ []) o × IsTrue (contains o.span k)) (λ k h. (p, inl refl, whole k (cut.left k h))) (λ k h. (p, inl refl, whole k (cut.right k h)))))
      (ap Some (subst (λ (s : Span). joined s (joined low.span high.span) ≡ s) (sym r.is) cut.hull))
      (record { key = key; from = r.from; to = r.to; range = r.is; lower = refl; upper = refl })
      (no_job_of_one image p (no_job_of image store p free))

  -- what becomes of the mapping where its span is this one
  abbrev cut_within : Span → Exchange
  cut_within s = exchange_by (λ (end : High). (p ∷ [], part_of p (low_of s) (At key) ∷ part_of p key end ∷ [])) (end_of s)

  exchanges : step.cut_at (key_in (meaning image) name text) (mapping_of (meaning image) name text) ≡ (p ∷ [], low ∷ high ∷ [])
  exchanges = (λ i. step.cut_at (named.read i) (named.owned i)) ∙ ap cut_within r.is

  pub split_planned : (op : Op) × (split_op p key ≡ Some op) × PlansLong (command.Split name text token) op image
  split_planned = (
    split_range p r.from key r.to,
    subst (λ (s : Span). split_within p key s ≡ Some (split_range p r.from key r.to)) (sym r.is) refl,
    record {
      accepts = accepts;
      lawful = lawful;
      own = λ connections. (sym (ap (λ (e : Exchange). e.0) exchanges), sym (ap (λ (e : Exchange). e.1) exchanges));
      no_job = refl;
      tokens = (none.0, tt);
    },
  )

-- its log cell has a spelling
pub split_spelled : (p : Piece) (key : Text) → IfSome (split_op p key) (λ op. IsTrue (is_spelled (cell.Log op)))
split_spelled p key = by p.span
  where
    by : (s : Span) → IfSome (split_within p key s) (λ op. IsTrue (is_spelled (cell.Log op)))
    by (Range from end) = λ i. same_self p.map i && (same_self p.map i && (same_self p.map i && true))
    by (Point at) = tt

-- ---- over what is told

module _ (told : Told) (known : Known) (name text : Text) (token : Option Token) (found : Result Owned PlanStop) (finds : IfContents told (FindsWith known (Some kind.Range) name text found)) where
  abbrev c : Command
  c = command.Split name text token

  abbrev more : PlainState → Option Text → Option Piece → List Check
  more s key piece = split_checks token key piece

  pub split_stopped : (e : PlanStop) → found ≡ Err e → IfContents told (PlansWith known c (Err e))
  split_stopped e is = stopped_at_first told known c (Some kind.Range) name text more (split_asks name text token) found e is finds

  module _ (owned : Owned) (is : found ≡ Ok owned) (late : Option Refusal) (first : late ≡ first_refusal (split_checks token (Some owned.key) (Some owned.piece))) where
    abbrev Late : Image → Type 0
    Late = OfNamed known (Some kind.Range) name text owned (λ image. late ≡ first_refusal (more (meaning image) (Some owned.key) (Some owned.piece)))

    pub split_refused : (r : Refusal) → late ≡ Some r → IfContents told (PlansWith known c (Err (stop.Refused r)))
    split_refused r is_late = refused_after told known c (Some kind.Range) name text more (split_asks name text token) found owned is finds late r is_late (contents_all told Late (λ image sound copy n. first))

    pub split_told : late ≡ None → (now : Told) → now ≡ told → TellsCells told → (op : Option Op) → op ≡ split_op owned.piece owned.key → (result : Result Plan PlanStop) → IfContents now (PlansSome owned.piece op result) → IfContents told (PlansWith known c result)
    split_told none now same cells op is_op result plans =
        some_after told known c (Some kind.Range) name text more (split_asks name text token) found owned is finds now same (contents_store told cells) op result plans late none (contents_all told Late (λ image sound copy n. first))
        (λ image sound store n known_at free accepts passes. subst (λ (o : Option Op). (made : Op) × (o ≡ Some made) × PlansLong c made image) (sym is_op) (split_planned image sound store name text owned.key token owned.piece n known_at free accepts passes))
