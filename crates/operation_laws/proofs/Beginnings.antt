-- A session's operation begins: the way is cleared, and its log row is put, or was tried.
use Rattle.std.proofs.Common.{◌≡◌, ◌<◌, ◌≤◌, ◌^◌, ⊎_elim, ℕ, arith, Bool, true, false, refl, sym, ap, ◌∙◌, subst, Some, None, Option, List, [], ◌∷◌}
use Rattle.std.specs.Prelude.{IsTrue, Ok, Err}
use Rattle.std.specs.FinMap as map
use Rattle.std.proofs.lemmas.Bool.{and_parts, and_from}
use Rattle.std.proofs.lemmas.Cmp.{nat_cmp_total}
use Rattle.cell_world.specs.Texts.{Text}
use Rattle.cell_world.specs.Images.{Image, Global, Happening, Committed, global, after_one, after_all}
use Rattle.cell_world.specs.Plain.{PlainState, Connections, with_connections}
use Rattle.cell_world.specs.Jobs.{job_step}
use Rattle.cell_world.specs.Meaning.{meaning, next_operation}
use Rattle.cell_world.specs.Operations.{conflicts, reach_of}
use Rattle.cell_world.specs.Sound.{Sound, HasLog}
use Rattle.cell_world.specs.declared.operations.Op.{Op}
use Rattle.cell_world.specs.declared.operations.Reach.{Reach}
use Rattle.cell_world.specs.declared.operations.StageName.TheVariants.{Logged}
use Rattle.cell_world.specs.declared.changes.Edit.{Edit}
use Rattle.cell_world.proofs.StoreLaws.{get-insert_same}
use Rattle.image_laws.specs.Transactions.{logged_image}
use Rattle.image_laws.proofs.LogKeepsSound.{log_keeps_sound}
use Rattle.image_laws.proofs.UnderWayLaws.{begun}
use Rattle.plain_model.specs.declared.commands.Command.{Command}
use Rattle.plain_model.specs.declared.replies.Reply.{Reply}
use Rattle.plain_model.specs.declared.replies.Reply.TheVariants as reply
use Rattle.plain_model.specs.declared.history.Entry.{Entry}
use Rattle.plain_model.specs.Refusing.{AcceptsJob}
use Rattle.plain_model.specs.Follows.{Follows}
use Rattle.plain_model.specs.JobSteps.{asked_number}
use Rattle.plain_model.specs.Timelines.{Timeline, Past, Happened, Entered, image_of}
use Rattle.plain_model.specs.OnTrail as trail
use Rattle.plain_model.specs.OnTrail.{logs_put}
use Rattle.plain_model.specs.Legal.{Promises, PromisesOperation, IsOwnOf, MayHappen, KeepsCounter, TriesNumber, IsAtOperation}
use Rattle.plain_model.specs.GoingOn.{IsOf}
use Rattle.plain_model.specs.Written.{Mode}
use Rattle.plain_model.specs.Running.{text_of}
use Rattle.session_laws.specs.Doing.{Doing, Working, Operating, AllDoing, Live, live_of, going_of, all_going, IsThen}
use Rattle.session_laws.specs.Core.{Stands, IsTriedFor, AllStand, OthersStand, Core, CoreAlone, Answers, Leaves}
use Rattle.session_laws.specs.Needs.{Needs}
use Rattle.session_laws.proofs.AloneCore.{alone_core_logs}
use Rattle.session_laws.proofs.CoreLaws.{core_logs, log_fails}
use Rattle.session_laws.proofs.EntryLaws.{pending_is_least}
use Rattle.session_laws.proofs.SessionLaws.{live_then, live_going}
use Rattle.op_steps.specs.Passing.{IsCourse, AtEach, changed_at}
use Rattle.op_steps.specs.Live.{is_live}
use Rattle.op_steps.specs.Undoing.{UndoStepOf}
use Rattle.op_steps.specs.Clearing as way
use Rattle.op_steps.specs.Clearing.{IsAbandonedInWay, Clears}
use Rattle.op_steps.specs.Beginning.{numbered, Logs, ClearsAndTries, Begins}
use Rattle.op_steps.specs.declared.stages.Stage.{Stage}
use Rattle.op_steps.specs.declared.beginning.BeginFault.TheVariants as begin
use Rattle.op_steps.specs.declared.beginning.Begun.TheVariants.{Going}
use Rattle.op_steps.proofs.NumberLaws.{log_tries_number}
use Rattle.op_steps.proofs.BeginLaws.{begun_course}
use Rattle.op_steps.proofs.Courses.{after_then}
use Rattle.op_steps.proofs.MeaningLaws.{begin_each}
use Rattle.operation_laws.specs.Courses.{happened_on}
use Rattle.operation_laws.specs.LiveNumbers.{HasLive, AreTheLive}
use Rattle.operation_laws.specs.Planned.{IsOpFor}
use Rattle.operation_laws.proofs.AloneFails.{alone_core_fails}
use Rattle.operation_laws.proofs.CoreCourses.{core_course, alone_course, abandoned_calm, course_goes, GoesSo}
use Rattle.operation_laws.proofs.Standing.{stands_log}
use Rattle.operation_laws.proofs.Timelines.{on_then, image_on}

some_live : (x y : Live) → Some x ≡ Some y → x ≡ y
some_live x y is = cc

-- ---- the command's, also under its number and after what leaves the meaning

tried_later : (a : Option ℕ) (image now : Image) (op : Op) (n : ℕ) → meaning now ≡ meaning image → IsTriedFor a image op → IsTriedFor a now (numbered op n)
tried_later None image now op n means t = tt
tried_later (Some number) image now op n means p = record {
  job = p.job;
  stands = ap (λ (s : PlainState). map.get s.jobs number) means ∙ p.stands;
  row = ap (λ (s : PlainState). job_step s p.job) means ∙ p.row;
  accepted = subst (λ (s : PlainState). AcceptsJob s number) (sym means) p.accepted;
}

own_later : (c : Command) (image now : Image) (op : Op) (n : ℕ) → meaning now ≡ meaning image → IsOpFor c image op → (connections : Connections) → asked_number c ≡ None → IsOwnOf (with_connections (meaning now) connections) c None now (numbered op n)
own_later c image now op n means own connections none = subst (λ (s : PlainState). IsOwnOf (with_connections s connections) c None now (numbered op n)) (sym means) (own.exchange connections none)

-- ---- the log row

module _ (image : Image) (sound : Sound image) (made : Op) (change : List Edit) (logs : Logs made image Global change) where
  abbrev there : Image
  there = changed_at image Global change

  sound_there : Sound there
  sound_there = subst Sound (sym logs.is) (log_keeps_sound image sound made logs.lawful logs.number logs.below logs.clear)

  means_there : meaning there ≡ meaning image
  means_there = ap meaning logs.is

  -- the others stand on
  others_there : (doing : AllDoing) (session : ℕ) → AllStand Needs doing image → OthersStand Needs doing session there
  others_there doing session stand t l other is = subst (Stands Needs t l) (sym logs.is) (stands_log t l image sound (stand t l is) made logs.number)

  -- and it stands, Logged
  module _ (doing : AllDoing) (stand : AllStand Needs doing image) (session : ℕ) (c : Command) (next : AllDoing) (then : IsThen doing session (Operating c made Logged) next)
      (own : (connections : Connections) → asked_number c ≡ None → IsOwnOf (with_connections (meaning image) connections) c None image made) where
    row : HasLog (global (logged_image image made)).log made
    row = get-insert_same nat_cmp_total (global image).log made.number made

    all_there : AllStand Needs next there
    all_there t l is = ⊎_elim
        (λ this. subst (λ (l : Live). Stands Needs t l there) (some_live (record { command = c; op = made; stage = Logged }) l this.1)
        (subst (Stands Needs t (record { command = c; op = made; stage = Logged })) (sym logs.is) (record {
          logged = row;
          exchange = own;
          more = begun image sound made logs.number (global (logged_image image made)) row refl;
        })))
        (λ other. others_there doing session stand t l other.0 other.1)
        (live_then doing session (Operating c made Logged) next then t l is)

-- ---- on the trail

module _ (since : ℕ) (start : Image) (mode : Mode) (connections : Connections) (rest : Text) (doing : AllDoing) where
  abbrev Now : Timeline → Type 0
  Now past = Core Needs since start mode past connections rest doing

  -- the try of a log row may happen, made or not
  may_try : (past : Timeline) (made : Op) (change : List Edit) → Logs made (image_of start past) Global change → (took : Bool) → MayHappen start past (Committed Global change took)
  may_try past made change logs true = let n = log_tries_number made (image_of start past) Global change logs in
      subst (KeepsCounter (next_operation (image_of start past)) (next_operation (changed_at (image_of start past) Global change))) (sym n.0) (n.1, n.2)
  may_try past made change logs false = let n = log_tries_number made (image_of start past) Global change logs in subst (TriesNumber (next_operation (image_of start past))) (sym n.0) n.1

  -- it is made
  logs_row : (past : Timeline) → Now past → (session : ℕ) (c : Command) (left : Option Op) → doing session ≡ Working c left → (made : Op) (change : List Edit) → Logs made (image_of start past) Global change → (next : AllDoing) → IsThen doing session (Operating c made Logged) next
      → IsTriedFor (asked_number c) (image_of start past) made → ((connections : Connections) → asked_number c ≡ None → IsOwnOf (with_connections (meaning (image_of start past)) connections) c None (image_of start past) made)
      → Core Needs since start mode (Happened (Committed Global change true) ∷ past) connections rest next
  logs_row past core session c left works made change logs next then tried own =
      core_logs Needs since start mode past connections rest doing core session c made Logged next (record { command = c; operation = 0 }) (ap going_of works) refl refl then change (log_tries_number made (image_of start past) Global change logs).0
      (may_try past made change logs true) (sound_there (image_of start past) core.sessions.sound made change logs) (means_there (image_of start past) core.sessions.sound made change logs) tried
      (all_there (image_of start past) core.sessions.sound made change logs doing core.sessions.stand session c next then own)

  -- it was tried, and the entry names it
  row_fails : (past : Timeline) → Now past → (c : Command) (left : Option Op) (e : Entry) → doing e.session ≡ Working c left → (made : Op) (change : List Edit) → Logs made (image_of start past) Global change → (took : Bool)
      → IsTriedFor (asked_number c) (image_of start past) made → ((connections : Connections) → asked_number c ≡ None → IsOwnOf (with_connections (meaning (image_of start past)) connections) c None (image_of start past) made)
      → (d : Doing) (next : AllDoing) (after : Connections) (r : Reply) → rest ≡ [] → e.reply ≡ Some r → IsOf (record { command = c; operation = made.number }) e → IsThen doing e.session d next → Leaves e d
      → Promises (all_going next) e [] e.reply → (e.reply ≡ Some (reply.Pending 0) → ⊥) → Answers since start (Happened (Committed Global change took) ∷ past) e connections after
      → Core Needs since start mode (Entered e ∷ Happened (Committed Global change took) ∷ past) after (text_of mode e) next
  row_fails past core c left e works made change logs took tried own d next after r all is of then leaves promise some a =
      log_fails Needs since start mode past connections rest doing core c made change took e (ap going_of works) (log_tries_number made (image_of start past) Global change logs).0 tried
      (λ none. subst (λ (s : PlainState). IsOwnOf (with_connections s connections) c None start made) core.owing.run.exact (own connections none)) (may_try past made change logs took) (sound took) (others took) d next after r all is of then leaves promise some a
    where
      sound : (took : Bool) → Sound (after_one (image_of start past) (Committed Global change took))
      sound true = sound_there (image_of start past) core.sessions.sound made change logs
      sound false = core.sessions.sound

      others : (took : Bool) → OthersStand Needs doing e.session (after_one (image_of start past) (Committed Global change took))
      others true = others_there (image_of start past) core.sessions.sound made change logs doing e.session core.sessions.stand
      others false = λ t l other at. core.sessions.stand t l at

  module _ (past : Timeline) (core : Now past) (live : List ℕ) (are : AreTheLive live doing) where
    abbrev I : Image
    I = image_of start past

    -- the way is cleared
    pub core_clears : (reach : Reach) (hs : List Happening) → IsCourse (UndoStepOf (IsAbandonedInWay live reach)) I hs → Now (happened_on past hs)
    core_clears reach hs c = core_course since start mode connections rest doing (UndoStepOf (IsAbandonedInWay live reach)) (abandoned_calm doing live reach are) past core hs c

    module _ (c : Command) (op made : Op) (own : IsOpFor c I op) (took : Bool) (hs : List Happening) (t : ClearsAndTries live op made took I hs) where
      -- once it is cleared
      abbrev cleared_past : Timeline
      cleared_past = happened_on past t.cleared

      abbrev J : Image
      J = image_of start cleared_past

      cleared : Now cleared_past
      cleared = core_clears (reach_of op) t.cleared t.course

      logs_J : Logs made J Global t.change
      logs_J = subst (λ i. Logs made i Global t.change) (sym (image_on start past t.cleared)) t.logs

      means_J : meaning J ≡ meaning I
      means_J = ap meaning (image_on start past t.cleared) ∙ (course_goes doing (UndoStepOf (IsAbandonedInWay live (reach_of op))) (abandoned_calm doing live (reach_of op) are) I core.sessions.sound core.sessions.stand t.cleared t.course).means

      tried_J : IsTriedFor (asked_number c) J made
      tried_J = subst (IsTriedFor (asked_number c) J) (sym t.named) (tried_later (asked_number c) I J op (next_operation I) means_J own.tried)

      own_J : (connections : Connections) → asked_number c ≡ None → IsOwnOf (with_connections (meaning J) connections) c None J made
      own_J connections none = subst (IsOwnOf (with_connections (meaning J) connections) c None J) (sym t.named) (own_later c I J op (next_operation I) means_J own connections none)

      split_past : happened_on past hs ≡ Happened (Committed Global t.change took) ∷ cleared_past
      split_past = ap (happened_on past) t.split ∙ on_then past t.cleared (Committed Global t.change took ∷ [])

      pub core_begins_op : took ≡ true → (session : ℕ) (left : Option Op) → doing session ≡ Working c left → (next : AllDoing) → IsThen doing session (Operating c made Logged) next → Core Needs since start mode (happened_on past hs) connections rest next
      core_begins_op made_is session left works next then = subst (λ p. Core Needs since start mode p connections rest next) (sym (split_past ∙ ap (λ b. Happened (Committed Global t.change b) ∷ cleared_past) made_is))
          (logs_row cleared_past cleared session c left works made t.change logs_J next then tried_J own_J)

      pub core_fails_to_begin : (left : Option Op) (e : Entry) → doing e.session ≡ Working c left → (d : Doing) (next : AllDoing) (after : Connections) (r : Reply) → rest ≡ [] → e.reply ≡ Some r → IsOf (record { command = c; operation = made.number }) e → IsThen doing e.session d next → Leaves e d
          → Promises (all_going next) e [] e.reply → (e.reply ≡ Some (reply.Pending 0) → ⊥) → Answers since start (happened_on past hs) e connections after → Core Needs since start mode (Entered e ∷ happened_on past hs) after (text_of mode e) next
      core_fails_to_begin left e works d next after r all is of then leaves promise some a = subst (λ p. Core Needs since start mode (Entered e ∷ p) after (text_of mode e) next) (sym split_past)
          (row_fails cleared_past cleared c left e works made t.change logs_J took tried_J own_J d next after r all is of then leaves promise some (subst (λ p. Answers since start p e connections after) split_past a))

    -- ---- in the way

    module _ (reach : Reach) (other : Op) (least : way.IsLeastInWay live reach (global I).log other) (e : Entry) (next : AllDoing) (none : live_of (doing e.session) ≡ None) (others : (t : ℕ) → (e.session ≡ t → ⊥) → next t ≡ doing t) where
      pub had : HasLive doing other.number
      had = are.had other.number (and_parts (conflicts reach other) (is_live live other.number) least.in_way).1

      same_op : (log : Option Op) (a b : Op) → log ≡ Some a → log ≡ Some b → a ≡ b
      same_op log a b p q = cc

      is_other : had.live.op ≡ other
      is_other = same_op (map.get (global I).log other.number) had.live.op other (ap (map.get (global I).log) (sym had.named) ∙ (core.sessions.stand had.session had.live had.here).logged) least.logged

      apart : e.session ≡ had.session → ⊥
      apart same = none_some (live_of (doing e.session)) had.live none (ap (λ t. live_of (doing t)) same ∙ had.here)
        where
          none_some : (x : Option Live) (l : Live) → x ≡ None → x ≡ Some l → ⊥
          none_some x l a b = cc

      pub pending_named : trail.IsLeastInWay start past reach other.number × PromisesOperation (all_going next) e [] other.number
      pending_named = subst (λ (o : Op). trail.IsLeastInWay start past reach o.number × PromisesOperation (all_going next) e [] o.number) is_other
          (pending_is_least Needs start past doing core.sessions e next reach had.session had.live apart (others had.session apart) had.here
          (subst (λ (o : Op). IsTrue (conflicts reach o)) (sym is_other) (and_parts (conflicts reach other) (is_live live other.number) least.in_way).0)
          (λ u m at conflict. subst (λ (o : Op). o.number ≤ m.op.number) (sym is_other) (least.least m.op (core.sessions.stand u m at).logged (and_from (conflicts reach m.op) (is_live live m.op.number) conflict (are.listed u m at)))))

-- ---- by contents alone

module _ (first : Image) (past : Past) (connections : Connections) (image : Image) (doing : AllDoing) (core : CoreAlone Needs first past connections image doing) (live : List ℕ) (are : AreTheLive live doing) where
  pub alone_clears : (reach : Reach) (hs : List Happening) → IsCourse (UndoStepOf (IsAbandonedInWay live reach)) image hs → CoreAlone Needs first past connections (after_all image hs) doing
  alone_clears reach hs c = alone_course first past connections image doing (UndoStepOf (IsAbandonedInWay live reach)) (abandoned_calm doing live reach are) core hs c

  module _ (c : Command) (op made : Op) (own : IsOpFor c image op) (took : Bool) (hs : List Happening) (t : ClearsAndTries live op made took image hs) where
    abbrev cleared_image : Image
    cleared_image = after_all image t.cleared

    goes : GoesSo doing image cleared_image
    goes = course_goes doing (UndoStepOf (IsAbandonedInWay live (reach_of op))) (abandoned_calm doing live (reach_of op) are) image core.run.sound core.stand t.cleared t.course

    last_is : after_all image hs ≡ after_one cleared_image (Committed Global t.change took)
    last_is = ap (after_all image) t.split ∙ sym (after_then image t.cleared (Committed Global t.change took ∷ []))

    own_now : (connections : Connections) → asked_number c ≡ None → IsOwnOf (with_connections (meaning cleared_image) connections) c None cleared_image made
    own_now connections none = subst (IsOwnOf (with_connections (meaning cleared_image) connections) c None cleared_image) (sym t.named) (own_later c image cleared_image op (next_operation image) goes.means own connections none)

    -- no session has its number
    fresh : (s : ℕ) (m : Live) → live_of (doing s) ≡ Some m → made.number ≡ m.op.number → ⊥
    fresh s m is same =
        let low = goes.sound.logged.numbered m.op (goes.stand s m is).logged in
        omega (arith, low, t.logs.number, same)

    pub alone_begins_op : took ≡ true → (session : ℕ) (left : Option Op) → doing session ≡ Working c left → (next : AllDoing) → IsThen doing session (Operating c made Logged) next → CoreAlone Needs first past connections (after_all image hs) next
    alone_begins_op made_is session left works next then = subst (λ i. CoreAlone Needs first past connections i next) (sym (last_is ∙ ap (λ b. after_one cleared_image (Committed Global t.change b)) made_is))
        (alone_core_logs Needs first past connections image doing core session c made Logged (changed_at cleared_image Global t.change) next (record { command = c; operation = 0 }) (ap going_of works) refl refl then fresh
        (sound_there cleared_image goes.sound made t.change t.logs) (means_there cleared_image goes.sound made t.change t.logs ∙ goes.means)
        (all_there cleared_image goes.sound made t.change t.logs doing goes.stand session c next then own_now))

    -- it was tried, and an entry follows
    module _ (left : Option Op) (e : Entry) (works : doing e.session ≡ Working c left) (d : Doing) (next : AllDoing) (after : Connections) (then : IsThen doing e.session d next) (leaves : Leaves e d)
        (promise : Promises (all_going next) e [] e.reply) (some : e.reply ≡ Some (reply.Pending 0) → ⊥) where
      tried_sound : (took : Bool) → Sound (after_one cleared_image (Committed Global t.change took))
      tried_sound true = sound_there cleared_image goes.sound made t.change t.logs
      tried_sound false = goes.sound

      tried_others : (took : Bool) → OthersStand Needs doing e.session (after_one cleared_image (Committed Global t.change took))
      tried_others true = others_there cleared_image goes.sound made t.change t.logs doing e.session goes.stand
      tried_others false = λ s l other at. goes.stand s l at

      pub alone_fails_to_begin : IsOf (record { command = c; operation = made.number }) e → Follows past (with_connections (meaning image) connections) e (with_connections (meaning (after_all image hs)) after) e.reply
          → CoreAlone Needs first (record { entry = e; before = meaning image } ∷ past) after (after_all image hs) next
      alone_fails_to_begin of follows = alone_core_fails first past connections image doing core c made e (ap going_of works) of d next then leaves promise some (after_all image hs) after
          (subst Sound (sym last_is) (tried_sound took)) (subst (OthersStand Needs doing e.session) (sym last_is) (tried_others took)) follows

  -- the promise of `pending`
  module _ (reach : Reach) (other : Op) (least : way.IsLeastInWay live reach (global image).log other) (e : Entry) (next : AllDoing) (none : live_of (doing e.session) ≡ None) (others : (t : ℕ) → (e.session ≡ t → ⊥) → next t ≡ doing t) where
    had_alone : HasLive doing other.number
    had_alone = are.had other.number (and_parts (conflicts reach other) (is_live live other.number) least.in_way).1

    apart_alone : e.session ≡ had_alone.session → ⊥
    apart_alone same = none_some (live_of (doing e.session)) had_alone.live none (ap (λ t. live_of (doing t)) same ∙ had_alone.here)
      where
        none_some : (x : Option Live) (l : Live) → x ≡ None → x ≡ Some l → ⊥
        none_some x l a b = cc

    pub alone_pending : PromisesOperation (all_going next) e [] other.number
    alone_pending = record {
      other = had_alone.session;
      is_other = λ same. apart_alone (sym same);
      at_operation = subst (λ n. IsAtOperation n (going_of (next had_alone.session)) None) had_alone.named
          (subst (λ g. IsAtOperation had_alone.live.op.number g None) (sym (ap going_of (others had_alone.session apart_alone) ∙ (live_going (doing had_alone.session) had_alone.live had_alone.here).0)) refl);
    }

-- ---- as calls tell it

pub begins_on_trail : (since : ℕ) (start : Image) (mode : Mode) (past : Timeline) (connections : Connections) (rest : Text) (doing : AllDoing) → Core Needs since start mode past connections rest doing → (session : ℕ) (c : Command) (left : Option Op) → doing session ≡ Working c left
    → (live : List ℕ) → AreTheLive live doing → (op : Op) → IsOpFor c (image_of start past) op → next_operation (image_of start past) < 2 ^ 63 → (made : Op) (stage : Stage) (hs : List Happening) → Begins live op (Ok (Going made stage)) (image_of start past) hs
    → (next : AllDoing) → IsThen doing session (Operating c made Logged) next → Core Needs since start mode (happened_on past hs) connections rest next
begins_on_trail since start mode past connections rest doing core session c left works live are op own below made stage hs begun next then =
    core_begins_op since start mode connections rest doing past core live are c op made own true hs (begun core.sessions.sound own.lawful below).tried refl session left works next then

pub begins_alone : (first : Image) (past : Past) (connections : Connections) (image : Image) (doing : AllDoing) → CoreAlone Needs first past connections image doing → (session : ℕ) (c : Command) (left : Option Op) → doing session ≡ Working c left
    → (live : List ℕ) → AreTheLive live doing → (op : Op) → IsOpFor c image op → next_operation image < 2 ^ 63 → (made : Op) (stage : Stage) (hs : List Happening) → Begins live op (Ok (Going made stage)) image hs
    → (next : AllDoing) → IsThen doing session (Operating c made Logged) next → CoreAlone Needs first past connections (after_all image hs) next
begins_alone first past connections image doing core session c left works live are op own below made stage hs begun next then =
    alone_begins_op first past connections image doing core live are c op made own true hs (begun core.run.sound own.lawful below).tried refl session left works next then

pub fails_on_trail : (since : ℕ) (start : Image) (mode : Mode) (past : Timeline) (connections : Connections) (doing : AllDoing) → Core Needs since start mode past connections [] doing → (e : Entry) (left : Option Op) → doing e.session ≡ Working e.command left
    → (live : List ℕ) → AreTheLive live doing → (op : Op) → IsOpFor e.command (image_of start past) op → next_operation (image_of start past) < 2 ^ 63 → (hs : List Happening) → Begins live op (Err (begin.Tried e.operation)) (image_of start past) hs
    → (d : Doing) (next : AllDoing) → IsThen doing e.session d next → Leaves e d → (r : Reply) → e.reply ≡ Some r → IsOf (record { command = e.command; operation = e.operation }) e → Promises (all_going next) e [] e.reply → (e.reply ≡ Some (reply.Pending 0) → ⊥)
    → (after : Connections) → Answers since start (happened_on past hs) e connections after → Core Needs since start mode (Entered e ∷ happened_on past hs) after (text_of mode e) next
fails_on_trail since start mode past connections doing core e left works live are op own below hs begun d next then leaves r is of promise some after a =
    let t = begun core.sessions.sound own.lawful below in
    core_fails_to_begin since start mode connections [] doing past core live are e.command op (numbered op e.operation) own t.0 hs t.1 left e works d next after r refl is of then leaves promise some a

pub fails_alone : (first : Image) (past : Past) (connections : Connections) (image : Image) (doing : AllDoing) → CoreAlone Needs first past connections image doing → (e : Entry) (left : Option Op) → doing e.session ≡ Working e.command left
    → (live : List ℕ) → AreTheLive live doing → (op : Op) → IsOpFor e.command image op → next_operation image < 2 ^ 63 → (hs : List Happening) → Begins live op (Err (begin.Tried e.operation)) image hs
    → (d : Doing) (next : AllDoing) → IsThen doing e.session d next → Leaves e d → IsOf (record { command = e.command; operation = e.operation }) e → Promises (all_going next) e [] e.reply → (e.reply ≡ Some (reply.Pending 0) → ⊥)
    → (after : Connections) → Follows past (with_connections (meaning image) connections) e (with_connections (meaning (after_all image hs)) after) e.reply → CoreAlone Needs first (record { entry = e; before = meaning image } ∷ past) after (after_all image hs) next
fails_alone first past connections image doing core e left works live are op own below hs begun d next then leaves of promise some after follows =
    let t = begun core.run.sound own.lawful below in
    alone_fails_to_begin first past connections image doing core live are e.command op (numbered op e.operation) own t.0 hs t.1 left e works d next after then leaves promise some of follows

pub pending_on_trail : (since : ℕ) (start : Image) (mode : Mode) (past : Timeline) (connections : Connections) (rest : Text) (doing : AllDoing) → Core Needs since start mode past connections rest doing → (live : List ℕ) → AreTheLive live doing
    → (reach : Reach) (other : Op) → way.IsLeastInWay live reach (global (image_of start past)).log other → (e : Entry) (next : AllDoing) → live_of (doing e.session) ≡ None → ((t : ℕ) → (e.session ≡ t → ⊥) → next t ≡ doing t)
    → trail.IsLeastInWay start past reach other.number × PromisesOperation (all_going next) e [] other.number
pending_on_trail since start mode past connections rest doing core live are reach other least e next none others = pending_named since start mode connections rest doing past core live are reach other least e next none others

pub clears_on_trail : (since : ℕ) (start : Image) (mode : Mode) (past : Timeline) (connections : Connections) (rest : Text) (doing : AllDoing) → Core Needs since start mode past connections rest doing → (live : List ℕ) → AreTheLive live doing
    → (reach : Reach) (hs : List Happening) → Clears live reach (Ok None) (image_of start past) hs
    → Core Needs since start mode (happened_on past hs) connections rest doing × ((op : Op) → HasLog (global (image_of start (happened_on past hs))).log op → conflicts reach op ≡ false)
clears_on_trail since start mode past connections rest doing core live are reach hs clears =
    let c = clears core.sessions.sound in
    (core_clears since start mode connections rest doing past core live are reach hs c.course, λ op logged. (c.clear op (subst (λ i. HasLog (global i).log op) (image_on start past hs) logged)).1)

pub clears_alone : (first : Image) (past : Past) (connections : Connections) (image : Image) (doing : AllDoing) → CoreAlone Needs first past connections image doing → (live : List ℕ) → AreTheLive live doing
    → (reach : Reach) (hs : List Happening) → Clears live reach (Ok None) image hs → CoreAlone Needs first past connections (after_all image hs) doing × ((op : Op) → HasLog (global (after_all image hs)).log op → conflicts reach op ≡ false)
clears_alone first past connections image doing core live are reach hs clears =
    let c = clears core.run.sound in
    (alone_clears first past connections image doing core live are reach hs c.course, λ op logged. (c.clear op logged).1)

-- ---- what the try of a log row leaves

-- what the stores stood for
pub tried_means : (live : List ℕ) (op made : Op) (image : Image) → Sound image → (took : Bool) (hs : List Happening) → ClearsAndTries live op made took image hs → meaning (after_all image hs) ≡ meaning image
tried_means live op made image sound took hs t = last (begin_each live op image sound hs (begun_course live op made took image hs t))
  where
    last_of : (now : Image) (hs : List Happening) → AtEach (λ now. Sound now × (meaning now ≡ meaning image)) now hs → meaning (after_all now hs) ≡ meaning image
    last_of now [] e = e.1
    last_of now (h ∷ hs) e = last_of (after_one now h) hs e.1

    last : AtEach (λ now. Sound now × (meaning now ≡ meaning image)) image hs → meaning (after_all image hs) ≡ meaning image
    last e = last_of image hs e
