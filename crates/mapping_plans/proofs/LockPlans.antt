-- The change that puts another token at a mapping, or none.
use Rattle.std.proofs.Common.{◌≡◌, ℕ, Bool, true, false, cond, List, [], ◌∷◌, Option, Some, None, refl, sym, ap, ◌∙◌, subst}
use Rattle.std.specs.Prelude.{Result, Ok, Err, IsTrue}
use Rattle.std.specs.FinMap as map
use Rattle.std.specs.Ordering.{eq_by_cmp}
use Rattle.std.proofs.lemmas.Bool.{and_from}
use Rattle.cell_world.specs.Texts.{Text}
use Rattle.cell_world.specs.Images.{Image, global, after_one}
use Rattle.cell_world.specs.Keys.{same, overlaps}
use Rattle.cell_world.specs.Lawful.{job_with_token}
use Rattle.cell_world.specs.Meaning.{meaning}
use Rattle.cell_world.specs.Orders.{pair_cmp}
use Rattle.cell_world.specs.Outside.{Told, IfContents, TellsCells}
use Rattle.cell_world.specs.Plain.{Connections, PlainState, holds_nothing, with_connections}
use Rattle.cell_world.specs.Sound.{Sound, HasPiece, HasLog}
use Rattle.cell_world.specs.Stores.{Mappings, IsStore, exchanged, piece_key}
use Rattle.cell_world.specs.declared.cells.Cell.TheVariants as cell
use Rattle.cell_world.specs.declared.cells.Token.{Token}
use Rattle.cell_world.specs.declared.changes.Edit.{Edit}
use Rattle.cell_world.specs.declared.changes.Edit.TheVariants.{Put}
use Rattle.cell_world.specs.declared.operations.Op.{Op}
use Rattle.cell_world.specs.declared.operations.Piece.{Piece}
use Rattle.cell_world.specs.declared.operations.Reach.{Reach}
use Rattle.cell_world.specs.declared.operations.Reach.TheVariants as reach
use Rattle.cell_world.proofs.ContentsLaws.{contents_all, contents_store}
use Rattle.cell_world.proofs.OrderLaws.{pairs_total, exact_text_pairs}
use Rattle.cell_world.proofs.SpanLaws.{same_self}
use Rattle.image_laws.proofs.TokenImages.{put_token_sound, put_token_meaning}
use Rattle.global_tables.specs.Known.{Known}
use Rattle.op_log.specs.ShortChanges.{Retoken, IsFreeToken}
use Rattle.plain_model.specs.declared.commands.Command.{Command}
use Rattle.plain_model.specs.declared.commands.Command.TheVariants as command
use Rattle.plain_model.specs.declared.plans.Plan.{Plan}
use Rattle.plain_model.specs.declared.plans.PlanStop.{PlanStop}
use Rattle.plain_model.specs.declared.plans.PlanStop.TheVariants as stop
use Rattle.plain_model.specs.declared.replies.Refusal.{Refusal}
use Rattle.plain_model.specs.declared.replies.Reply.TheVariants as reply
use Rattle.plain_model.specs.OnTrail.{reach_of_command, reach_of_piece}
use Rattle.plain_model.specs.Refusing.{Check, first_refusal, refusal, has_token, not_locked, locked, mapping_of}
use Rattle.plain_model.specs.ShortCommands.{short_commit, standing_with}
use Rattle.plain_model.specs.Steps.{accepted, with_mapping, with_token}
use Rattle.map_ops.specs.Planning.{Refuses, NoneInWay, Plans, PlansChange, PlansWith}
use Rattle.map_ops.proofs.MadeLater.{IsMade, planned_later}
use Rattle.mapping_plans.specs.Finding.{IsNamed, FindsWith, ChecksAfter}
use Rattle.mapping_plans.specs.Locking.{PlansToken}
use Rattle.mapping_plans.specs.declared.finding.Owned.{Owned}
use Rattle.mapping_plans.proofs.AfterChecks.{OfNamed, planned_after, stopped_at_first, refused_after}
use Rattle.mapping_plans.proofs.NamedPieces.{named_stands, no_job_of}

-- a mapping that is put over one of its key
put_over : (mappings : Mappings) (p q : Piece) → piece_key q ≡ piece_key p → exchanged mappings (p ∷ []) (q ∷ []) ≡ map.insert mappings (piece_key q) q
put_over mappings p q e = map.same_map pairs_total exact_text_pairs _ _ (λ k.
    map.get-insert pairs_total (map.remove mappings (piece_key p)) (piece_key q) q k
    ∙ by k (eq_by_cmp pair_cmp k (piece_key q)) refl
    ∙ sym (map.get-insert pairs_total mappings (piece_key q) q k))
  where
    by : (k : Text × Text) (b : Bool) → eq_by_cmp pair_cmp k (piece_key q) ≡ b → cond (eq_by_cmp pair_cmp k (piece_key q)) (Some q) (map.get (map.remove mappings (piece_key p)) k) ≡ cond (eq_by_cmp pair_cmp k (piece_key q)) (Some q) (map.get mappings k)
    by k true t = ap (λ b. cond b (Some q) (map.get (map.remove mappings (piece_key p)) k)) t ∙ sym (ap (λ b. cond b (Some q) (map.get mappings k)) t)
    by k false t = ap (cond (eq_by_cmp pair_cmp k (piece_key q)) (Some q)) (map.get-remove pairs_total mappings (piece_key p) k ∙ ap (λ b. cond b None (map.get mappings k)) (ap (eq_by_cmp pair_cmp k) (sym e) ∙ t))

-- The command gives the mapping of the key this token, or none, and reaches its span.
pub record GivesToken (c : Command) (name text : Text) (token : Option Token) : Type 0 where
  pub gives : (s : PlainState) (session : ℕ) → accepted holds_nothing s session c ≡ (with_mapping s (with_token token) (mapping_of s name text), reply.Ok)
  pub reaches : (s : PlainState) → reach_of_command s c ≡ reach_of_piece name (mapping_of s name text)

pub lock_gives : (name text : Text) (token : Token) → GivesToken (command.Lock name text token) name text (Some token)
lock_gives name text token = record { gives = λ s session. refl; reaches = λ s. refl }

pub unlock_gives : (name text : Text) (token : Token) → GivesToken (command.Unlock name text token) name text None
unlock_gives name text token = record { gives = λ s session. refl; reaches = λ s. refl }

-- ---- on an image

module _ (c : Command) (name text : Text) (token : Option Token) (gives : GivesToken c name text token) (p : Piece) (of_map : p.map ≡ name) (new_free : IsFreeToken token) where
  abbrev change : List Edit
  change = Put (cell.Piece (with_token token p)) ∷ []

  abbrev reached : Reach
  reached = reach.Part p.map p.span

  module _ (image : Image) (sound : Sound image) (stands : HasPiece (global image).mappings p) (owned : mapping_of (meaning image) name text ≡ Some p) (no_job : job_with_token (global image).jobs p ≡ None)
      (accepts : Refuses c None image) (clear : NoneInWay image reached) where
    apart : (other : Op) → HasLog (global image).log other → p.map ≡ other.map → IsTrue (overlaps p.span other.hull) → ⊥
    apart other logged maps over =
        let wrong : true ≡ false = sym (and_from (same p.map other.map) (overlaps p.span other.hull) (subst (λ (n : Text). same p.map n ≡ true) maps (same_self p.map)) over) ∙ clear other logged in absurd cc

    becomes : (session : ℕ) (connections : Connections) → accepted holds_nothing (standing_with image connections) session c ≡ (standing_with (after_one image (short_commit change true)) connections, reply.Ok)
    becomes session connections =
        gives.gives (standing_with image connections) session
        ∙ ap (λ (o : Option Piece). (with_mapping (standing_with image connections) (with_token token) o, reply.Ok)) owned
        ∙ ap (λ (m : Mappings). (with_connections (record (meaning image) { mappings = m }) connections, reply.Ok)) (put_over (global image).mappings p (with_token token p) refl)
        ∙ ap (λ (s : PlainState). (with_connections s connections, reply.Ok)) (sym (put_token_meaning image sound p stands token no_job new_free apart))

    pub token_made : IsMade c reached change reply.Ok image
    token_made = record {
      changes = λ session. record {
        accepts = accepts session;
        becomes = becomes session;
        sound = put_token_sound image sound p stands token no_job new_free apart;
        numbers = refl;
        log = refl;
      };
      short = Retoken p stands refl token no_job new_free refl;
    }

  pub token_planned : (image : Image) → Sound image → IsStore (global image) → HasPiece (global image).mappings p → mapping_of (meaning image) name text ≡ Some p → IsFreeToken p.token → Refuses c None image
      → PlansChange c reached change reply.Ok image
  token_planned image sound store stands owned free accepts = planned_later c reached change reply.Ok image
      (ap (λ (n : Text). reach.Part n p.span) of_map ∙ sym (gives.reaches (meaning image) ∙ ap (reach_of_piece name) owned)) accepts
      (λ later later_sound alike accepted clear. token_made later later_sound
      (ap (λ (s : PlainState). map.get s.mappings (piece_key p)) alike ∙ stands)
      (ap (λ (s : PlainState). mapping_of s name text) alike ∙ owned)
      (ap (λ (s : PlainState). job_with_token s.jobs p) alike ∙ no_job_of image store p free) accepted clear)

-- ---- over what is told

-- The plan of a command that gives a mapping a token, by what it checks after the first checks.
module _ (told : Told) (known : Known) (c : Command) (name text : Text) (token : Option Token) (gives : GivesToken c name text token) (checks : Option Piece → List Check) (asks : ChecksAfter c None name text (λ s key piece. checks piece))
    (found : Result Owned PlanStop) (finds : IfContents told (FindsWith known None name text found)) where
  abbrev more : PlainState → Option Text → Option Piece → List Check
  more s key piece = checks piece

  pub token_stopped : (e : PlanStop) → found ≡ Err e → IfContents told (PlansWith known c (Err e))
  token_stopped e is = stopped_at_first told known c None name text more asks found e is finds

  module _ (owned : Owned) (is : found ≡ Ok owned) (late : Option Refusal) (first : late ≡ first_refusal (checks (Some owned.piece))) where
    abbrev Late : Image → Type 0
    Late = OfNamed known None name text owned (λ image. late ≡ first_refusal (more (meaning image) (Some owned.key) (Some owned.piece)))

    pub token_refused : (r : Refusal) → late ≡ Some r → IfContents told (PlansWith known c (Err (stop.Refused r)))
    token_refused r is_late = refused_after told known c None name text more asks found owned is finds late r is_late (contents_all told Late (λ image sound copy n. first))

    pub token_told : late ≡ None → TellsCells told → (result : Result Plan PlanStop) → PlansToken owned.piece token result → IfContents told (PlansWith known c result)
    token_told none cells result plans = planned_after told known c None name text more asks found owned is finds result late none (contents_all told Late (λ image sound copy n. first)) (λ image. IsStore (global image)) (contents_store told cells)
        (λ image sound copy n accepts passes store. by image sound store n accepts result plans)
      where
        by : (image : Image) → Sound image → IsStore (global image) → IsNamed None name text owned.key owned.piece (meaning image) → Refuses c None image → (r : Result Plan PlanStop) → PlansToken owned.piece token r → PlansWith known c r image
        by image sound store n accepts (Ok p) plans also copy =
            let stands = named_stands image sound None name text owned.key owned.piece n in
            subst (λ (p : Plan). Plans c (Ok p) image) (sym plans.0) (token_planned c name text token gives owned.piece stands.1 plans.2 image sound store stands.0 n.owned plans.1 accepts)
        by image sound store n accepts (Err e) is also copy = subst (λ (e : PlanStop). Plans c (Err e) image) (sym is) tt

-- ---- `lock` and `unlock`

abbrev pub lock_checks : Option Piece → List Check
lock_checks piece = has_token piece ∷ []

pub lock_asks : (name text : Text) (token : Token) → ChecksAfter (command.Lock name text token) None name text (λ s key piece. lock_checks piece)
unfolding refusal
lock_asks name text token image session connections = refl

abbrev pub unlock_checks : Token → Option Piece → List Check
unlock_checks token piece = not_locked piece ∷ locked (Some token) piece ∷ []

pub unlock_asks : (name text : Text) (token : Token) → ChecksAfter (command.Unlock name text token) None name text (λ s key piece. unlock_checks token piece)
unfolding refusal
unlock_asks name text token image session connections = refl
