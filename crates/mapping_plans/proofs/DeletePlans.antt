-- The operation by which a mapping goes.
use Rattle.std.proofs.Common.{◌≡◌, ◌&&◌, true, false, List, [], ◌∷◌, Option, Some, None, is_some, refl, sym, ap, subst}
use Rattle.std.specs.Prelude.{Result, Ok, Err, IsTrue}
use Rattle.cell_world.specs.Texts.{Text}
use Rattle.cell_world.specs.Images.{Image, global}
use Rattle.cell_world.specs.Meaning.{meaning}
use Rattle.cell_world.specs.Outside.{Told, IfContents, TellsCells}
use Rattle.cell_world.specs.Plain.{PlainState, is_location_of}
use Rattle.cell_world.specs.Sound.{Sound}
use Rattle.cell_world.specs.Spelled.{is_spelled}
use Rattle.cell_world.specs.Stores.{IsStore}
use Rattle.cell_world.specs.declared.cells.Cell.TheVariants as cell
use Rattle.cell_world.specs.declared.cells.Status.{Status}
use Rattle.cell_world.specs.declared.cells.Status.TheVariants.{Online, Offline}
use Rattle.cell_world.specs.declared.cells.Token.{Token}
use Rattle.cell_world.specs.declared.operations.Op.{Op}
use Rattle.cell_world.specs.declared.operations.Piece.{Piece}
use Rattle.cell_world.proofs.ContentsLaws.{contents_all}
use Rattle.cell_world.proofs.SpanLaws.{same_self}
use Rattle.global_tables.specs.Known.{Known, known_of}
use Rattle.op_log.specs.ShortChanges.{IsFreeToken}
use Rattle.plain_model.specs.declared.commands.Command.{Command}
use Rattle.plain_model.specs.declared.commands.Command.TheVariants as command
use Rattle.plain_model.specs.declared.plans.Plan.{Plan}
use Rattle.plain_model.specs.declared.plans.PlanStop.{PlanStop}
use Rattle.plain_model.specs.declared.plans.PlanStop.TheVariants as stop
use Rattle.plain_model.specs.declared.replies.Refusal.{Refusal}
use Rattle.plain_model.specs.Refusing.{Check, first_refusal, refusal, locked, not_offline, rows_present, same_status}
use Rattle.plain_model.specs.Steps.{exchange_by}
use Rattle.map_ops.specs.Planning.{Refuses, PlansLong, PlansWith}
use Rattle.map_ops.proofs.Checks.{NoneHolds, none_holds}
use Rattle.mapping_plans.specs.Exchanges.{delete_op, one_piece, no_piece}
use Rattle.mapping_plans.specs.Finding.{IsNamed, FindsWith, ChecksAfter}
use Rattle.mapping_plans.specs.SiteRows.{PlansIfEmpty}
use Rattle.mapping_plans.specs.declared.finding.Owned.{Owned}
use Rattle.mapping_plans.proofs.AfterChecks.{stopped_at_first}
use Rattle.mapping_plans.proofs.EmptyPlans.{with_rows_last, early_refused, empty_after}
use Rattle.mapping_plans.proofs.ExchangeLaws.{exchange_lawful, no_job_of_one, spans_of}
use Rattle.mapping_plans.proofs.NamedPieces.{named_stands, named_here, no_job_of}
use Rattle.mapping_plans.proofs.RowsUnder.{none_here}

-- what is checked before the rows
abbrev pub delete_checks : Option Token → PlainState → Option Piece → List Check
delete_checks token s piece = locked token piece ∷ not_offline piece ∷ []

pub delete_asks : (name text : Text) (token : Option Token) → ChecksAfter (command.Delete name text token) None name text (with_rows_last (delete_checks token))
unfolding refusal
delete_asks name text token image session connections = refl

-- what isn't online is offline
pub is_offline : (status : Status) → same_status Online status ≡ false → status ≡ Offline
is_offline Online e = cc
is_offline Offline e = refl

module _ (image : Image) (sound : Sound image) (store : IsStore (global image)) (name text key : Text) (token : Option Token) (p : Piece) (named : IsNamed None name text key p (meaning image))
    (known : IsTrue (is_location_of (meaning image) p.location)) (free : IsFreeToken p.token) (accepts : Refuses (command.Delete name text token) None image)
    (passes : first_refusal (delete_checks token (meaning image) (Some p)) ≡ None) (empty : (rows_present (meaning image) (Some p)).0 ≡ false) where
  none : NoneHolds (delete_checks token (meaning image) (Some p))
  none = none_holds (delete_checks token (meaning image) (Some p)) passes

  pub delete_planned : PlansLong (command.Delete name text token) (delete_op p) image
  delete_planned =
      let stands = named_stands image sound None name text key p named in
      let here = named_here image sound None name text key p named known in
      let span = sound.globals.spans p stands.0 in
      record {
        accepts = accepts;
        lawful = exchange_lawful image sound p.map p.span (one_piece p) no_piece (ap is_some span.2) (stands.0, tt) (refl, tt) refl refl (here, tt) tt
            (spans_of image sound p.map p.span span [] (λ k t h. tt)) tt (λ other there of_map any. cc) refl
            (is_offline p.status none.1.0, none_here image sound p stands.0 here empty) (no_job_of_one image p (no_job_of image store p free));
        own = λ connections. (ap (λ (o : Option Piece). (exchange_by (λ p. (p ∷ [], [])) o).0) (sym named.owned), ap (λ (o : Option Piece). (exchange_by (λ p. (p ∷ [], [])) o).1) (sym named.owned));
        no_job = refl;
        tokens = (none.0, tt);
      }

-- its log cell has a spelling
pub delete_spelled : (p : Piece) → IsTrue (is_spelled (cell.Log (delete_op p)))
delete_spelled p = ap (λ b. b && true) (same_self p.map)

-- ---- over what is told

module _ (told : Told) (known : Known) (name text : Text) (token : Option Token) (found : Result Owned PlanStop) (finds : IfContents told (FindsWith known None name text found)) where
  abbrev c : Command
  c = command.Delete name text token

  pub delete_stopped : (e : PlanStop) → found ≡ Err e → IfContents told (PlansWith known c (Err e))
  delete_stopped e is = stopped_at_first told known c None name text (with_rows_last (delete_checks token)) (delete_asks name text token) found e is finds

  module _ (owned : Owned) (is : found ≡ Ok owned) (early : Option Refusal) (first : early ≡ first_refusal (locked token (Some owned.piece) ∷ not_offline (Some owned.piece) ∷ [])) where
    abbrev First : Image → Type 0
    First image = known ≡ known_of (global image) → early ≡ first_refusal (delete_checks token (meaning image) (Some owned.piece))

    pub delete_refused : (r : Refusal) → early ≡ Some r → IfContents told (PlansWith known c (Err (stop.Refused r)))
    delete_refused r some = early_refused told known c None name text (delete_checks token) (delete_asks name text token) found owned is finds early (contents_all told First (λ image copy. first)) r some

    pub delete_told : early ≡ None → (now : Told) → now ≡ told → TellsCells told → (op : Op) → op ≡ delete_op owned.piece → (result : Result Plan PlanStop) → IfContents now (PlansIfEmpty owned.piece op result) → IfContents told (PlansWith known c result)
    delete_told none now same cells op is_op result plans =
        empty_after told known c None name text (delete_checks token) (delete_asks name text token) found owned is finds early (contents_all told First (λ image copy. first)) none now same cells op result plans
        (λ image sound store n known_at free accepts passes empty. subst (λ (o : Op). PlansLong c o image) (sym is_op) (delete_planned image sound store name text owned.key token owned.piece n known_at free accepts passes empty))
