-- The operation that adds a mapping, on a sound image where no check of its site and span holds.
use Rattle.std.proofs.Common.{◌≡◌, ◌||◌, Bool, true, false, ◌&&◌, List, [], ◌∷◌, Option, Some, None, is_some, refl, sym, ap, ◌∙◌, subst}
use Rattle.std.specs.Prelude.{Ok, Err, IsTrue, IfSome}
use Rattle.std.specs.FinMap as map
use Rattle.std.specs.FinSet as set
use Rattle.std.specs.List.{AllByRecursion}
use Rattle.std.proofs.lemmas.Bool.{and_from}
use Rattle.cell_world.specs.Texts.{Text}
use Rattle.cell_world.specs.Images.{Image, Global, global}
use Rattle.cell_world.specs.Keys.{same, overlaps, is_among}
use Rattle.cell_world.specs.KeyForms.{is_span_of}
use Rattle.cell_world.specs.Lawful.{Lawful, IsAttached}
use Rattle.cell_world.specs.Outside.{Told, IfContents}
use Rattle.cell_world.specs.Plain.{Connections, nobody}
use Rattle.cell_world.specs.Sound.{Sound, HasPiece}
use Rattle.cell_world.specs.Spelled.{is_spelled}
use Rattle.cell_world.specs.Stores.{piece_key}
use Rattle.cell_world.specs.declared.cells.Cell.TheVariants as cell
use Rattle.cell_world.specs.declared.cells.KeyType.{KeyType}
use Rattle.cell_world.specs.declared.cells.MapKind.{MapKind}
use Rattle.cell_world.specs.declared.operations.Op.{Op}
use Rattle.cell_world.specs.declared.operations.Piece.{Piece}
use Rattle.cell_world.specs.declared.spans.Span.{Span}
use Rattle.cell_world.proofs.ContentsLaws.{contents_weaker}
use Rattle.cell_world.proofs.OrderLaws.{pairs_total, exact_text_pairs}
use Rattle.cell_world.proofs.SpanLaws.{same_self, overlaps_comm}
use Rattle.image_laws.proofs.Lists.{any_from}
use Rattle.global_tables.specs.Known.{Known}
use Rattle.global_tables.proofs.GroupCells.{value_there}
use Rattle.plain_model.specs.declared.commands.Command.{Command}
use Rattle.plain_model.specs.declared.plans.Plan.TheVariants as plan
use Rattle.plain_model.specs.declared.plans.PlanStop.TheVariants as stop
use Rattle.plain_model.specs.declared.replies.Refusal.{Refusal}
use Rattle.plain_model.specs.Refusing.{first_refusal, overlaps_in}
use Rattle.plain_model.specs.ShortCommands.{standing_with}
use Rattle.map_ops.specs.Adding.{new_piece, add_op, new_checks, AsksNew, RefusesNew, PlansNew}
use Rattle.map_ops.specs.Overlapping.{has_overlap}
use Rattle.map_ops.specs.Planning.{PlansLong}
use Rattle.map_ops.proofs.Checks.{NoneHolds, none_holds, of_not, never, attached}

-- its log cell has a spelling
pub add_spelled : (name : Text) (span : Span) (location : Text) → IsTrue (is_spelled (cell.Log (add_op name span location)))
add_spelled name span location = ap (λ (b : Bool). b && true) (same_self name)

module _ (image : Image) (sound : Sound image) (c : Command) (name : Text) (span : Span) (location : Text) (asks : AsksNew c name span location image)
    (passes : (connections : Connections) → None ≡ first_refusal (new_checks (standing_with image connections) name span location)) where
  abbrev op : Op
  op = add_op name span location

  none : NoneHolds (new_checks (standing_with image nobody) name span location)
  none = none_holds (new_checks (standing_with image nobody) name span location) (sym (passes nobody))

  abbrev stands : map.get (global image).maps name ≡ Some (asks.of_map.0, asks.of_map.1)
  stands = asks.of_map.2

  here : IsAttached image.locations (global image).away location
  here = record {
    known = of_not (is_among image.locations location) none.0;
    attached = attached (map.get (global image).away location) none.1.1.0 none.1.1.1.0;
  }

  alone : (other : Piece) → HasPiece (global image).mappings other → other.map ≡ name → (overlaps span other.span || false) ≡ true → ⊥
  alone other there of_map over = by (overlaps span other.span) refl over
    where
      meets : overlaps span other.span ≡ true → overlaps_in name span other ≡ true
      meets e = and_from (same name other.map) (overlaps other.span span) (subst (λ (n : Text). same name n ≡ true) (sym of_map) (same_self name)) (overlaps_comm other.span span ∙ e)

      by : (b : Bool) → overlaps span other.span ≡ b → (b || false) ≡ true → ⊥
      by false e h = let wrong : false ≡ true = h in absurd cc
      by true e h = never (has_overlap (global image).mappings name span) none.1.1.1.1.0
          (any_from (overlaps_in name span) (map.values (global image).mappings) other
          (value_there pairs_total piece_key (global image).mappings (sound.keyed Global).mappings exact_text_pairs (piece_key other) other there) (meets e))

  admits : Lawful image op
  admits = record {
    map_stands = ap is_some stands;
    olds_stand = tt;
    of_map = (refl, tt);
    olds_in_order = refl;
    news_in_order = refl;
    attached = (here, tt);
    on_shards = (of_not (set.contains (global image).shards (name, location)) none.1.0, tt);
    spans = subst (λ (o : Option (MapKind × KeyType)). IfSome o (λ m. AllByRecursion (λ (new : Piece). IsTrue (is_span_of m.0 m.1 new.span)) (new_piece name span location ∷ []))) (sym stands) (asks.of_map.3, tt);
    disjoint = tt;
    free = λ other there of_map over. absurd (alone other there of_map over);
    hull = refl;
    shape = (refl, refl);
    job = refl;
    no_drop = λ number e. cc;
  }

  -- It is the plan of each command that asks for the mapping.
  pub add_planned : PlansLong c op image
  add_planned = record {
    accepts = λ session connections. asks.decides session connections ∙ sym (passes connections);
    lawful = admits;
    own = λ connections. (ap (λ (e : List Piece × List Piece). e.0) (sym (asks.makes connections)), ap (λ (e : List Piece × List Piece). e.1) (sym (asks.makes connections)));
    no_job = refl;
    tokens = tt;
  }

-- ---- over what is told

module _ (told : Told) (known : Known) (name : Text) (span : Span) (location : Text) where
  pub refused_new : (refused : Option Refusal) (r : Refusal) → refused ≡ Some r → IfContents told (RefusesNew known name span location refused) → IfContents told (PlansNew known name span location (Err (stop.Refused r)))
  refused_new refused r is = contents_weaker told (RefusesNew known name span location refused) (PlansNew known name span location (Err (stop.Refused r)))
      (λ image decides sound copy c asks session connections. asks.decides session connections ∙ sym (decides sound copy connections) ∙ is)

  pub planned_new : (refused : Option Refusal) → refused ≡ None → (op : Op) → op ≡ add_op name span location → IfContents told (RefusesNew known name span location refused) → IfContents told (PlansNew known name span location (Ok (plan.Long op)))
  planned_new refused none op is = contents_weaker told (RefusesNew known name span location refused) (PlansNew known name span location (Ok (plan.Long op)))
      (λ image decides sound copy c asks. subst (λ (o : Op). PlansLong c o image) (sym is) (add_planned image sound c name span location asks (λ connections. sym none ∙ decides sound copy connections)))
