-- A command is answered `pending`, and nothing happens.
use Rattle.std.proofs.Common.{◌≡◌, ℕ, ◌+◌, refl, sym, ap, ◌∙◌, subst, Some, None, Option, List, [], ◌∷◌, length}
use Rattle.cell_world.specs.Images.{Image, Happening, after_all, end_of_trail}
use Rattle.cell_world.specs.Plain.{nobody}
use Rattle.cell_world.specs.Meaning.{meaning}
use Rattle.cell_world.specs.Outside.{Outside, IfContents, IfTrail, IsLater}
use Rattle.cell_world.specs.declared.operations.Op.{Op}
use Rattle.cell_world.specs.declared.operations.Reach.{Reach}
use Rattle.cell_world.proofs.ContentsLaws.{contents_both, contents_weaker}
use Rattle.global_tables.specs.Known.{Known}
use Rattle.plain_model.specs.declared.commands.Command.{Command}
use Rattle.plain_model.specs.declared.history.Entry.{Entry}
use Rattle.plain_model.specs.declared.replies.Reply.TheVariants as reply
use Rattle.plain_model.specs.JobSteps.{asked_number}
use Rattle.plain_model.specs.OnTrail.{reach_of_command}
use Rattle.plain_model.specs.Refusing.{refusal}
use Rattle.plain_model.specs.Running.{text_of}
use Rattle.plain_model.specs.ShortCommands.{standing_with}
use Rattle.plain_model.specs.Timelines.{Timeline, Past, Entered, image_of, happened_of}
use Rattle.plain_model.specs.Written.{Mode}
use Rattle.op_steps.specs.Passing.{Passes}
use Rattle.session_laws.specs.Core.{Core, CoreAlone}
use Rattle.session_laws.specs.Doing.{Resting, Working, AllDoing, IsThen}
use Rattle.session_laws.specs.Needs.{Needs}
use Rattle.operation_laws.specs.Courses.{happened_on}
use Rattle.operation_laws.specs.Leading.{Leads, with_entry}
use Rattle.operation_laws.specs.LiveNumbers.{AreTheLive}
use Rattle.operation_laws.proofs.Lifts.{lifts_entry, lifts_entry_to}
use Rattle.operation_laws.proofs.Pending.{pending_answered, pending_alone}
use Rattle.manager_core.specs.Answering.{IsCopy}
use Rattle.manager_core.specs.Coming.{IsFirstInWay}
use Rattle.manager_core.specs.Steady.{IsSteady, AreSteady, IsSettledOp, Ends, Says, seen_with}
use Rattle.manager_core.proofs.TakingUp.{working, takes, gives, taken_alone, taken_on, live_works}
use Rattle.manager_core.proofs.WayLaws.{least_in_way}

module _ (session : ℕ) (c : Command) (no_job : asked_number c ≡ None) (before : AllDoing) (left : Option Op) (rests : before session ≡ Resting left) (live : List ℕ) (are : AreTheLive live before)
    (reached : Reach) (number : ℕ) (old new : Outside) (same : new.told ≡ old.told) (later : IsLater old new) where
  -- the command isn't refused, and this operation is the first in its way
  pub record Waits (image : Image) : Type 0 where
    pub accepted : refusal (standing_with image nobody) session c ≡ None
    pub reaches : reach_of_command (meaning image) c ≡ reached
    pub first : IsFirstInWay before reached number

  abbrev Quiet : Image → List Happening → Type 0
  Quiet image hs = (IsSteady before image × Waits image) × (hs ≡ [])

  module _ (e : Entry) (says : Says e session c (reply.Pending number) 0) where
    no_job_e : asked_number e.command ≡ None
    no_job_e = ap asked_number says.command ∙ no_job

    now_works : working session c no_job before left rests e.session ≡ Working e.command left
    now_works = ap (working session c no_job before left rests) says.of_session ∙ (takes session c no_job before left rests).here ∙ ap (λ x. Working x left) (sym says.command)

    then_rests : IsThen (working session c no_job before left rests) e.session (Resting left) before
    then_rests = subst (λ t. IsThen (working session c no_job before left rests) t (Resting left) before) (sym says.of_session) (gives session c no_job before left rests)

    accepted_e : (image : Image) → Waits image → refusal (standing_with image nobody) e.session e.command ≡ None
    accepted_e image w = ap (λ t. refusal (standing_with image nobody) t e.command) says.of_session ∙ ap (refusal (standing_with image nobody) session) says.command ∙ w.accepted

    answered_e : (image : Image) (w : Waits image) → e.reply ≡ Some (reply.Pending w.first.in_way.live.op.number)
    answered_e image w = says.answered ∙ ap (λ n. Some (reply.Pending n)) (sym w.first.in_way.named)

    on_trail : (t0 : ℕ) (start : Image) (mode : Mode) (past : Timeline) (hs : List Happening) → Quiet (image_of start past) hs → e.moment ≡ t0 + length (happened_of (happened_on past hs)) → Core Needs t0 start mode past nobody [] before
        → Core Needs t0 start mode (Entered e ∷ happened_on past hs) nobody (text_of mode e) before
    on_trail t0 start mode past hs q moment core =
        let w = q.0.1 in
        subst (λ hs. Core Needs t0 start mode (Entered e ∷ happened_on past hs) nobody (text_of mode e) before) (sym q.1)
        (pending_answered t0 start mode past nobody (working session c no_job before left rests) (taken_on session c no_job before left rests t0 start mode past core) live (live_works session c no_job before left rests live are) reached w.first.in_way.live.op
        (least_in_way live before are reached (image_of start past) q.0.0 number w.first) e left now_works says.operation (answered_e (image_of start past) w) no_job_e
        (ap (reach_of_command (standing_with (image_of start past) nobody)) says.command ∙ w.reaches) (accepted_e (image_of start past) w)
        (moment ∙ ap (λ hs. t0 + length (happened_of (happened_on past hs))) q.1) before then_rests)

    alone : (first : Image) (past : Past) (image : Image) (hs : List Happening) → Quiet image hs → CoreAlone Needs first past nobody image before
        → CoreAlone Needs first (record { entry = e; before = meaning image } ∷ past) nobody (after_all image hs) before
    alone first past image hs q core =
        let w = q.0.1 in
        subst (λ hs. CoreAlone Needs first (record { entry = e; before = meaning image } ∷ past) nobody (after_all image hs) before) (sym q.1)
        (pending_alone first past nobody image (working session c no_job before left rests) (taken_alone session c no_job before left rests first past image core) live (live_works session c no_job before left rests live are) reached w.first.in_way.live.op
        (least_in_way live before are reached image q.0.0 number w.first) e left now_works says.operation (answered_e image w) (q.0.0.plain w.first.in_way.session w.first.in_way.live w.first.in_way.here).1 no_job_e (accepted_e image w) before then_rests)

    module _ (steady : AreSteady before old) (waits : IfContents old.told Waits) where
      abbrev passes : Passes Quiet old new
      passes = record {
        happened = [];
        told = same;
        each = contents_weaker old.told (λ image. IsSteady before image × Waits image) (λ image. Quiet image []) (λ image both. (both, refl)) (contents_both old.told (IsSteady before) Waits steady waits);
        later = later;
      }

      pub pending_leads : (mode : Mode) (history : List Entry) → IfTrail new.told (λ trail. e.moment ≡ end_of_trail trail) → Leads mode old.told new.told (seen_with history before) (with_entry (seen_with history before) e before) (text_of mode e)
      pending_leads mode history now = record {
        keeps = lifts_entry mode Quiet old new passes (seen_with history before) (with_entry (seen_with history before) e before) e refl now (λ t0 start past q moment core. on_trail t0 start mode past [] q moment core);
        keeps_to = lifts_entry_to mode Quiet old new passes (seen_with history before) (with_entry (seen_with history before) e before) e refl
            (λ first past image q core. (record { entry = e; before = meaning image } ∷ past, refl, alone first past image [] q core));
      }

  pub pending_ends : (known : Known) → (AreSteady before old → IsCopy known old.told → IfContents old.told Waits) → Ends session c (reply.Pending number) 0 known known old new before before
  pending_ends known waits = record {
    steady = λ steady copy. subst (λ t. IfContents t (IsSteady before)) (sym same) steady;
    settled = λ steady copy op is. subst (λ t. IfContents t (IsSettledOp op)) (sym same) is;
    copy = λ ok steady copy. subst (IsCopy known) (sym same) copy;
    leads = λ steady copy mode history e says now. pending_leads e says steady (waits steady copy) mode history now;
  }
