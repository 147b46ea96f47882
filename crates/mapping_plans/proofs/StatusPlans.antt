-- The operation that gives a mapping another status.
use Rattle.std.proofs.Common.{◌≡◌, ◌&&◌, true, false, List, [], ◌∷◌, Option, Some, None, is_some, inl, refl, sym, ap, subst}
use Rattle.std.specs.Prelude.{Result, Ok, Err, IsTrue}
use Rattle.std.specs.List.{AllByRecursion}
use Rattle.cell_world.specs.Texts.{Text}
use Rattle.cell_world.specs.Images.{Image, global}
use Rattle.cell_world.specs.Keys.{contains}
use Rattle.cell_world.specs.Lists.{IsOneOf}
use Rattle.cell_world.specs.Meaning.{meaning}
use Rattle.cell_world.specs.Outside.{Told, IfContents, TellsCells}
use Rattle.cell_world.specs.Plain.{PlainState, Connections, is_location_of, with_connections}
use Rattle.cell_world.specs.Sound.{Sound, HasPiece}
use Rattle.cell_world.specs.Spelled.{is_spelled}
use Rattle.cell_world.specs.Stores.{IsStore}
use Rattle.cell_world.specs.declared.cells.Status.{Status}
use Rattle.cell_world.specs.declared.cells.Status.TheVariants.{Online, Offline}
use Rattle.cell_world.specs.declared.cells.Token.{Token}
use Rattle.cell_world.specs.declared.cells.Cell.TheVariants as cell
use Rattle.cell_world.specs.declared.operations.Op.{Op}
use Rattle.cell_world.specs.declared.operations.Piece.{Piece}
use Rattle.cell_world.proofs.ContentsLaws.{contents_all, contents_store}
use Rattle.cell_world.proofs.SpanLaws.{same_self}
use Rattle.global_tables.specs.Known.{Known}
use Rattle.image_laws.proofs.ShapeLaws.{joined_self, of_one}
use Rattle.op_log.specs.ShortChanges.{IsFreeToken}
use Rattle.plain_model.specs.declared.commands.Command.{Command}
use Rattle.plain_model.specs.declared.plans.Plan.{Plan}
use Rattle.plain_model.specs.declared.plans.PlanStop.{PlanStop}
use Rattle.plain_model.specs.declared.plans.PlanStop.TheVariants as stop
use Rattle.plain_model.specs.declared.replies.Refusal.{Refusal}
use Rattle.plain_model.specs.Legal.{IsOwnOf}
use Rattle.plain_model.specs.Refusing.{Check, given_token, first_refusal, refusal, locked, same_status, same_status_already}
use Rattle.plain_model.specs.Steps.{becomes, with_status}
use Rattle.map_ops.specs.Planning.{Refuses, PlansLong, PlansWith}
use Rattle.map_ops.proofs.Checks.{NoneHolds, none_holds}
use Rattle.mapping_plans.specs.Commands.{status_command}
use Rattle.mapping_plans.specs.Exchanges.{status_op, one_piece, PlansOp}
use Rattle.mapping_plans.specs.Finding.{IsNamed, FindsWith, ChecksAfter}
use Rattle.mapping_plans.specs.declared.finding.Owned.{Owned}
use Rattle.mapping_plans.proofs.AfterChecks.{OfNamed, stopped_at_first, refused_after, op_after}
use Rattle.mapping_plans.proofs.ExchangeLaws.{exchange_lawful, free_of, no_job_of_one, spans_of}
use Rattle.mapping_plans.proofs.NamedPieces.{named_stands, named_here, no_job_of}

-- what is checked after the first checks
abbrev pub status_checks : Status → Option Token → Option Piece → List Check
status_checks status token piece = locked token piece ∷ same_status_already status piece ∷ []

pub status_asks : (status : Status) (name text : Text) (token : Option Token) → ChecksAfter (status_command status name text token) None name text (λ s key piece. status_checks status token piece)
unfolding refusal
status_asks Online name text token image session connections = refl
status_asks Offline name text token image session connections = refl

-- two statuses that aren't the same
differ : (a b : Status) → same_status a b ≡ false → a ≡ b → ⊥
differ Online Online e is = cc
differ Online Offline e is = cc
differ Offline Online e is = cc
differ Offline Offline e is = cc

module _ (image : Image) (sound : Sound image) (store : IsStore (global image)) (status : Status) (name text key : Text) (token : Option Token) (p : Piece) (named : IsNamed None name text key p (meaning image))
    (known : IsTrue (is_location_of (meaning image) p.location)) (free : IsFreeToken p.token) (accepts : Refuses (status_command status name text token) None image) (passes : first_refusal (status_checks status token (Some p)) ≡ None) where
  none : NoneHolds (status_checks status token (Some p))
  none = none_holds (status_checks status token (Some p)) passes

  pub status_planned : PlansLong (status_command status name text token) (status_op status p) image
  status_planned =
      let stands = named_stands image sound None name text key p named in
      let here = named_here image sound None name text key p named known in
      let shard = sound.globals.on_shards p stands.0 in
      let span = sound.globals.spans p stands.0 in
      record {
        accepts = accepts;
        lawful = exchange_lawful image sound p.map p.span (one_piece p) (one_piece (with_status status p)) (ap is_some span.2) (stands.0, tt) (refl, (refl, tt)) refl refl (here, (here, tt)) (shard, tt)
            (spans_of image sound p.map p.span span (with_status status p ∷ []) (λ k t h. (h, tt))) tt
            (free_of image sound p.map (p ∷ []) (with_status status p ∷ []) (of_one (λ o. HasPiece (global image).mappings o × (o.map ≡ p.map)) (stands.0, refl))
            (of_one (λ (n : Piece). (key : Text) → IsTrue (contains n.span key) → (o : Piece) × IsOneOf (p ∷ []) o × IsTrue (contains o.span key)) (λ key h. (p, inl refl, h))))
            (ap Some (joined_self p.span)) (inl (record { other = differ status p.status none.1.0; rest = refl })) (no_job_of_one image p (no_job_of image store p free));
        own = own status;
        no_job = refl;
        tokens = tokens status;
      }
    where
      own : (w : Status) (connections : Connections) → IsOwnOf (with_connections (meaning image) connections) (status_command w name text token) None image (status_op w p)
      own Online connections = (ap (λ (o : Option Piece). (becomes (with_status Online) o).0) (sym named.owned), ap (λ (o : Option Piece). (becomes (with_status Online) o).1) (sym named.owned))
      own Offline connections = (ap (λ (o : Option Piece). (becomes (with_status Offline) o).0) (sym named.owned), ap (λ (o : Option Piece). (becomes (with_status Offline) o).1) (sym named.owned))

      tokens : (w : Status) → AllByRecursion (λ old. (locked (given_token (status_command w name text token)) (Some old)).0 ≡ false) (p ∷ [])
      tokens Online = (none.0, tt)
      tokens Offline = (none.0, tt)

-- its log cell has a spelling
pub status_spelled : (status : Status) (p : Piece) → IsTrue (is_spelled (cell.Log (status_op status p)))
status_spelled status p = λ i. same_self p.map i && (same_self p.map i && true)

-- ---- over what is told

module _ (told : Told) (known : Known) (status : Status) (name text : Text) (token : Option Token) (found : Result Owned PlanStop) (finds : IfContents told (FindsWith known None name text found)) where
  abbrev c : Command
  c = status_command status name text token

  abbrev more : PlainState → Option Text → Option Piece → List Check
  more s key piece = status_checks status token piece

  pub status_stopped : (e : PlanStop) → found ≡ Err e → IfContents told (PlansWith known c (Err e))
  status_stopped e is = stopped_at_first told known c None name text more (status_asks status name text token) found e is finds

  module _ (owned : Owned) (is : found ≡ Ok owned) (late : Option Refusal) (first : late ≡ first_refusal (status_checks status token (Some owned.piece))) where
    decides : IfContents told (OfNamed known None name text owned (λ image. late ≡ first_refusal (more (meaning image) (Some owned.key) (Some owned.piece))))
    decides = contents_all told (OfNamed known None name text owned (λ image. late ≡ first_refusal (more (meaning image) (Some owned.key) (Some owned.piece)))) (λ image sound copy n. first)

    pub status_refused : (r : Refusal) → late ≡ Some r → IfContents told (PlansWith known c (Err (stop.Refused r)))
    status_refused r is_late = refused_after told known c None name text more (status_asks status name text token) found owned is finds late r is_late decides

    pub status_told : late ≡ None → (now : Told) → now ≡ told → TellsCells told → (op : Op) → op ≡ status_op status owned.piece → (result : Result Plan PlanStop) → IfContents now (PlansOp owned.piece op result) → IfContents told (PlansWith known c result)
    status_told none now same cells op is_op result plans =
        op_after told known c None name text more (status_asks status name text token) found owned is finds now same (contents_store told cells) op result plans late none decides
        (λ image sound store n known_at free accepts passes. subst (λ (o : Op). PlansLong c o image) (sym is_op) (status_planned image sound store status name text owned.key token owned.piece n known_at free accepts passes))
