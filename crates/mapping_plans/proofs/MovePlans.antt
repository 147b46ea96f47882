-- The operation by which a mapping is at another location.
use Rattle.std.proofs.Common.{◌≡◌, ◌&&◌, Bool, true, false, not, [], ◌∷◌, Option, Some, None, is_some, inl, inr, refl, sym, ap, ◌∙◌, subst}
use Rattle.std.specs.Prelude.{Result, Ok, Err, IsTrue}
use Rattle.std.specs.FinMap as map
use Rattle.std.specs.FinSet as set
use Rattle.cell_world.specs.Texts.{Text}
use Rattle.cell_world.specs.Images.{Image, global}
use Rattle.cell_world.specs.Keys.{same, contains, is_among}
use Rattle.cell_world.specs.Lists.{IsOneOf}
use Rattle.cell_world.specs.Meaning.{meaning}
use Rattle.cell_world.specs.Outside.{Told, IfContents, TellsCells}
use Rattle.cell_world.specs.Plain.{is_location_of}
use Rattle.cell_world.specs.Sound.{Sound, HasPiece, IsAttachedIn}
use Rattle.cell_world.specs.Spelled.{is_spelled}
use Rattle.cell_world.specs.Stores.{Store, IsStore}
use Rattle.cell_world.specs.declared.cells.Cell.TheVariants as cell
use Rattle.cell_world.specs.declared.cells.Token.{Token}
use Rattle.cell_world.specs.declared.operations.Op.{Op}
use Rattle.cell_world.specs.declared.operations.Piece.{Piece}
use Rattle.cell_world.proofs.ContentsLaws.{contents_weaker}
use Rattle.cell_world.proofs.SpanLaws.{same_self}
use Rattle.image_laws.proofs.ShapeLaws.{joined_self, of_one}
use Rattle.global_tables.specs.Known.{Known, known_of}
use Rattle.op_log.specs.ShortChanges.{IsFreeToken}
use Rattle.plain_model.specs.declared.commands.Command.{Command}
use Rattle.plain_model.specs.declared.commands.Command.TheVariants as command
use Rattle.plain_model.specs.declared.plans.Plan.{Plan}
use Rattle.plain_model.specs.declared.plans.PlanStop.{PlanStop}
use Rattle.plain_model.specs.declared.plans.PlanStop.TheVariants as stop
use Rattle.plain_model.specs.declared.replies.Refusal.{Refusal}
use Rattle.plain_model.specs.declared.replies.Refusal.TheVariants as refused
use Rattle.plain_model.specs.Refusing.{first_refusal, refusal, locked, not_offline, is_detached, is_suspect, rows_present}
use Rattle.plain_model.specs.Steps.{becomes, with_location}
use Rattle.map_ops.specs.Planning.{Refuses, PlansLong, PlansWith}
use Rattle.map_ops.proofs.Checks.{NoneHolds, none_holds, of_not, attached}
use Rattle.mapping_plans.specs.Exchanges.{move_op, one_piece}
use Rattle.mapping_plans.specs.Finding.{IsNamed, FindsWith, ChecksAfter}
use Rattle.mapping_plans.specs.Moving.{move_checks}
use Rattle.mapping_plans.specs.SiteRows.{PlansIfEmpty}
use Rattle.mapping_plans.specs.declared.finding.Owned.{Owned}
use Rattle.mapping_plans.proofs.AfterChecks.{stopped_at_first}
use Rattle.mapping_plans.proofs.DeletePlans.{is_offline}
use Rattle.mapping_plans.proofs.EmptyPlans.{with_rows_last, early_refused, empty_after}
use Rattle.mapping_plans.proofs.ExchangeLaws.{exchange_lawful, free_of, no_job_of_one, spans_of}
use Rattle.mapping_plans.proofs.NamedPieces.{named_stands, named_here, no_job_of}
use Rattle.mapping_plans.proofs.RowsUnder.{none_here, none_elsewhere}

pub move_asks : (name text location : Text) (token : Option Token) → ChecksAfter (command.Move name text location token) None name text (with_rows_last (move_checks name location token))
unfolding refusal
move_asks name text location token image session connections = refl

-- a test that the copy of the tables decides
abbrev Known_by : Known → Bool → (Store → Bool) → Type 0
Known_by known test of = (s : Store) → known ≡ known_of s → test ≡ of s

-- The checks before the rows, as the copy of the tables and the world decide them.
pub move_first : (told : Told) (known : Known) (name location : Text) (token : Option Token) (p : Piece) (opens here shard gone unsure one online : Bool) (found : Option Refusal)
    → found ≡ first_refusal ((opens, refused.Locked) ∷ (not here, refused.NoLocation) ∷ (not shard, refused.NotAShard) ∷ (gone, refused.Detached) ∷ (unsure, refused.Unresolved) ∷ (one, refused.SameShard) ∷ (online, refused.NotOffline) ∷ [])
    → opens ≡ (locked token (Some p)).0
    → IfContents told (λ image. here ≡ is_location_of (meaning image) location)
    → Known_by known shard (λ s. set.contains s.shards (name, location))
    → Known_by known gone (λ s. is_detached (map.get s.away location))
    → Known_by known unsure (λ s. is_suspect (map.get s.away location))
    → one ≡ same p.location location
    → online ≡ (not_offline (Some p)).0
    → IfContents told (λ image. known ≡ known_of (global image) → found ≡ first_refusal (move_checks name location token (meaning image) (Some p)))
move_first told known name location token p opens here shard gone unsure one online found first o l s d u e f = contents_weaker told (λ image. here ≡ is_location_of (meaning image) location)
    (λ image. known ≡ known_of (global image) → found ≡ first_refusal (move_checks name location token (meaning image) (Some p)))
    (λ image is copy. first ∙ (λ i. first_refusal ((o i, refused.Locked) ∷ (not (is i), refused.NoLocation) ∷ (not (s (global image) copy i), refused.NotAShard)
    ∷ (d (global image) copy i, refused.Detached) ∷ (u (global image) copy i, refused.Unresolved) ∷ (e i, refused.SameShard) ∷ (f i, refused.NotOffline) ∷ [])))
    l

module _ (image : Image) (sound : Sound image) (store : IsStore (global image)) (name text location key : Text) (token : Option Token) (p : Piece) (named : IsNamed None name text key p (meaning image))
    (known : IsTrue (is_location_of (meaning image) p.location)) (free : IsFreeToken p.token) (accepts : Refuses (command.Move name text location token) None image)
    (passes : first_refusal (move_checks name location token (meaning image) (Some p)) ≡ None) (empty : (rows_present (meaning image) (Some p)).0 ≡ false) where
  none : NoneHolds (move_checks name location token (meaning image) (Some p))
  none = none_holds (move_checks name location token (meaning image) (Some p)) passes

  stands : HasPiece (global image).mappings p × (p.map ≡ name) × IsTrue (contains p.span key)
  stands = named_stands image sound None name text key p named

  -- the site to which it goes is attached
  there : IsAttachedIn image location
  there = record {
    known = of_not (is_among image.locations location) none.1.0;
    attached = attached (map.get (global image).away location) none.1.1.1.0 none.1.1.1.1.0;
  }

  -- and is another one
  other : location ≡ p.location → ⊥
  other is = let wrong : true ≡ false = sym (subst (λ (l : Text). same p.location l ≡ true) (sym is) (same_self p.location)) ∙ none.1.1.1.1.1.0 in absurd cc

  shard : IsTrue (set.contains (global image).shards (p.map, location))
  shard = subst (λ (n : Text). IsTrue (set.contains (global image).shards (n, location))) (sym stands.1) (of_not (set.contains (global image).shards (name, location)) none.1.1.0)

  pub move_planned : PlansLong (command.Move name text location token) (move_op location p) image
  move_planned =
      let here = named_here image sound None name text key p named known in
      let span = sound.globals.spans p stands.0 in
      let no_job = no_job_of image store p free in
      record {
        accepts = accepts;
        lawful = exchange_lawful image sound p.map p.span (one_piece p) (one_piece (with_location location p)) (ap is_some span.2) (stands.0, tt) (refl, (refl, tt)) refl refl (here, (there, tt)) (shard, tt)
            (spans_of image sound p.map p.span span (with_location location p ∷ []) (λ k t h. (h, tt))) tt
            (free_of image sound p.map (p ∷ []) (with_location location p ∷ []) (of_one (λ o. HasPiece (global image).mappings o × (o.map ≡ p.map)) (stands.0, refl))
            (of_one (λ (n : Piece). (key : Text) → IsTrue (contains n.span key) → (o : Piece) × IsOneOf (p ∷ []) o × IsTrue (contains o.span key)) (λ key h. (p, inl refl, h))))
            (ap Some (joined_self p.span))
            (inr (record {
              offline = is_offline p.status none.1.1.1.1.1.1.0;
              elsewhere = other;
              rest = refl;
              same_rows = none_elsewhere image sound p stands.0 no_job location there other ∙ sym (none_here image sound p stands.0 here empty);
            }))
            (no_job_of_one image p no_job);
        own = λ connections. (ap (λ (o : Option Piece). (becomes (with_location location) o).0) (sym named.owned), ap (λ (o : Option Piece). (becomes (with_location location) o).1) (sym named.owned));
        no_job = refl;
        tokens = (none.0, tt);
      }

-- its log cell has a spelling
pub move_spelled : (location : Text) (p : Piece) → IsTrue (is_spelled (cell.Log (move_op location p)))
move_spelled location p = λ i. same_self p.map i && (same_self p.map i && true)

-- ---- over what is told

module _ (told : Told) (known : Known) (name text location : Text) (token : Option Token) (found : Result Owned PlanStop) (finds : IfContents told (FindsWith known None name text found)) where
  abbrev c : Command
  c = command.Move name text location token

  pub move_stopped : (e : PlanStop) → found ≡ Err e → IfContents told (PlansWith known c (Err e))
  move_stopped e is = stopped_at_first told known c None name text (with_rows_last (move_checks name location token)) (move_asks name text location token) found e is finds

  module _ (owned : Owned) (is : found ≡ Ok owned) (early : Option Refusal) (now : Told) (same_told : now ≡ told)
      (first : IfContents now (λ image. known ≡ known_of (global image) → early ≡ first_refusal (move_checks name location token (meaning image) (Some owned.piece)))) where
    abbrev First : Image → Type 0
    First image = known ≡ known_of (global image) → early ≡ first_refusal (move_checks name location token (meaning image) (Some owned.piece))

    before : IfContents told First
    before = subst (λ (t : Told). IfContents t First) same_told first

    pub move_refused : (r : Refusal) → early ≡ Some r → IfContents told (PlansWith known c (Err (stop.Refused r)))
    move_refused r some = early_refused told known c None name text (move_checks name location token) (move_asks name text location token) found owned is finds early before r some

    pub move_told : early ≡ None → TellsCells told → (op : Op) → op ≡ move_op location owned.piece → (result : Result Plan PlanStop) → IfContents now (PlansIfEmpty owned.piece op result) → IfContents told (PlansWith known c result)
    move_told none cells op is_op result plans =
        empty_after told known c None name text (move_checks name location token) (move_asks name text location token) found owned is finds early before none now same_told cells op result plans
        (λ image sound store n known_at free accepts passes empty. subst (λ (o : Op). PlansLong c o image) (sym is_op) (move_planned image sound store name text location owned.key token owned.piece n known_at free accepts passes empty))
