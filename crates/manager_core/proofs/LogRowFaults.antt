-- The log row of a command's operation is refused, made or not, where nobody is connected: the entry `fault` names its number.
use Rattle.std.proofs.Common.{◌≡◌, ⊎_elim, ℕ, ◌+◌, ◌<◌, ◌^◌, refl, sym, ap, ◌∙◌, subst, Some, None, Option, List, [], ◌∷◌, length}
use Rattle.std.specs.Prelude.{Err}
use Rattle.cell_world.specs.Images.{Image, Happening, after_all, end_of_trail}
use Rattle.cell_world.specs.Plain.{nobody, with_connections}
use Rattle.cell_world.specs.Meaning.{meaning, next_operation}
use Rattle.cell_world.specs.Outside.{Outside, IfTrail}
use Rattle.cell_world.specs.Sound.{Sound}
use Rattle.cell_world.specs.declared.operations.Op.{Op}
use Rattle.plain_model.specs.declared.commands.Command.{Command}
use Rattle.plain_model.specs.declared.history.Entry.{Entry}
use Rattle.plain_model.specs.declared.replies.Reply.TheVariants as reply
use Rattle.plain_model.specs.JobSteps.{asked_number}
use Rattle.plain_model.specs.Refusing.{mapping_of}
use Rattle.plain_model.specs.Running.{text_of}
use Rattle.plain_model.specs.Timelines.{Timeline, Past, Entered, image_of, happened_of}
use Rattle.plain_model.specs.Written.{Mode}
use Rattle.op_steps.specs.Beginning.{Begins}
use Rattle.op_steps.specs.Passing.{Passes}
use Rattle.op_steps.specs.declared.beginning.BeginFault.TheVariants as begin
use Rattle.session_laws.specs.Core.{Core, CoreAlone}
use Rattle.session_laws.specs.Doing.{Resting, Working, AllDoing, IsThen}
use Rattle.session_laws.specs.Needs.{Needs}
use Rattle.operation_laws.specs.Courses.{happened_on}
use Rattle.operation_laws.specs.Entries.{IsOneOperation}
use Rattle.operation_laws.specs.Leading.{Leads, with_entry}
use Rattle.operation_laws.specs.LiveNumbers.{AreTheLive}
use Rattle.operation_laws.specs.Planned.{IsOpFor}
use Rattle.operation_laws.proofs.Done.{log_faults_on_trail, log_faults_alone}
use Rattle.operation_laws.proofs.FaultedOffline.{offline_log_faults, offline_log_faults_alone}
use Rattle.operation_laws.proofs.Lifts.{lifts_entry, lifts_entry_to}
use Rattle.manager_core.specs.Steady.{Says, seen_with}
use Rattle.manager_core.proofs.NobodyEnds.{nobody_ends, none_or_offline}
use Rattle.manager_core.proofs.TakingUp.{working, takes, gives, taken_alone, taken_on, live_works}

-- ---- a core

module _ (doing : AllDoing) (e : Entry) (left : Option Op) (works : doing e.session ≡ Working e.command left) (one : IsOneOperation e.command) (live : List ℕ) (are : AreTheLive live doing) (op : Op) (hs : List Happening)
    (answer : e.reply ≡ Some reply.Fault) (next : AllDoing) (then : IsThen doing e.session (Resting left) next) where
  pub log_row_on_trail : (since : ℕ) (start : Image) (mode : Mode) (past : Timeline) → Core Needs since start mode past nobody [] doing → IsOpFor e.command (image_of start past) op → next_operation (image_of start past) < 2 ^ 63
      → Begins live op (Err (begin.Tried e.operation)) (image_of start past) hs → e.moment ≡ since + length (happened_of (happened_on past hs)) → Core Needs since start mode (Entered e ∷ happened_on past hs) nobody (text_of mode e) next
  log_row_on_trail since start mode past core own below begun moment = ⊎_elim
      (λ none. log_faults_on_trail since start mode past nobody doing core e left works none live are op own below hs begun answer moment next then)
      (λ offline. subst (λ connections. Core Needs since start mode (Entered e ∷ happened_on past hs) connections (text_of mode e) next) (nobody_ends (mapping_of (with_connections (meaning (image_of start past)) nobody) offline.name offline.key))
      (offline_log_faults since start mode past nobody doing core e offline.name offline.key offline.token left works offline.is live are op own below hs begun answer moment next then))
      (none_or_offline e.command one)

  pub log_row_alone : (first : Image) (past : Past) (image : Image) → CoreAlone Needs first past nobody image doing → IsOpFor e.command image op → next_operation image < 2 ^ 63
      → Begins live op (Err (begin.Tried e.operation)) image hs → CoreAlone Needs first (record { entry = e; before = meaning image } ∷ past) nobody (after_all image hs) next
  log_row_alone first past image core own below begun = ⊎_elim
      (λ none. log_faults_alone first past nobody image doing core e left works none live are op own below hs begun answer next then)
      (λ offline. subst (λ connections. CoreAlone Needs first (record { entry = e; before = meaning image } ∷ past) connections (after_all image hs) next) (nobody_ends (mapping_of (with_connections (meaning image) nobody) offline.name offline.key))
      (offline_log_faults_alone first past nobody image doing core e offline.name offline.key offline.token left works offline.is live are op own below hs begun answer next then))
      (none_or_offline e.command one)

-- ---- over what is told

module _ (session : ℕ) (c : Command) (no_job : asked_number c ≡ None) (one : IsOneOperation c) (before : AllDoing) (left : Option Op) (rests : before session ≡ Resting left) (live : List ℕ) (are : AreTheLive live before) (op : Op) (number : ℕ) (old new : Outside) where
  -- its operation may begin, and its log row was tried
  abbrev pub RowTried : Image → List Happening → Type 0
  RowTried image hs = (Sound image → IsOpFor c image op × (next_operation image < 2 ^ 63)) × Begins live op (Err (begin.Tried number)) image hs

  module _ (passes : Passes RowTried old new) (e : Entry) (says : Says e session c reply.Fault number) where
    abbrev works : AllDoing
    works = working session c no_job before left rests

    works_e : works e.session ≡ Working e.command left
    works_e = ap works says.of_session ∙ (takes session c no_job before left rests).here ∙ ap (λ x. Working x left) (sym says.command)

    then_rests : IsThen works e.session (Resting left) before
    then_rests = subst (λ t. IsThen works t (Resting left) before) (sym says.of_session) (gives session c no_job before left rests)

    live_then : AreTheLive live works
    live_then = live_works session c no_job before left rests live are

    one_e : IsOneOperation e.command
    one_e = subst IsOneOperation (sym says.command) one

    own_e : (image : Image) → IsOpFor c image op → IsOpFor e.command image op
    own_e image own = subst (λ x. IsOpFor x image op) (sym says.command) own

    begun_e : (image : Image) (hs : List Happening) → Begins live op (Err (begin.Tried number)) image hs → Begins live op (Err (begin.Tried e.operation)) image hs
    begun_e image hs begun = subst (λ n. Begins live op (Err (begin.Tried n)) image hs) (sym says.operation) begun

    pub log_row_leads : (mode : Mode) (history : List Entry) → IfTrail new.told (λ trail. e.moment ≡ end_of_trail trail) → Leads mode old.told new.told (seen_with history before) (with_entry (seen_with history before) e before) (text_of mode e)
    log_row_leads mode history now = record {
      keeps = lifts_entry mode RowTried old new passes (seen_with history before) (with_entry (seen_with history before) e before) e refl now
          (λ t0 start past p moment core. let may = p.0 core.sessions.sound in
          log_row_on_trail works e left works_e one_e live live_then op passes.happened says.answered before then_rests t0 start mode past (taken_on session c no_job before left rests t0 start mode past core)
          (own_e (image_of start past) may.0) may.1 (begun_e (image_of start past) passes.happened p.1) moment);
      keeps_to = lifts_entry_to mode RowTried old new passes (seen_with history before) (with_entry (seen_with history before) e before) e refl
          (λ first past image p core. let may = p.0 core.run.sound in (
            record { entry = e; before = meaning image } ∷ past,
            refl,
            log_row_alone works e left works_e one_e live live_then op passes.happened says.answered before then_rests first past image (taken_alone session c no_job before left rests first past image core)
                (own_e image may.0) may.1 (begun_e image passes.happened p.1),
          ));
    }
