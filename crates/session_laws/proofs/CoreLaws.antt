-- A core goes on: the run so far and its sessions together.
use Rattle.std.proofs.Common.{◌≡◌, inl, ℕ, true, refl, sym, subst, Some, None, Option, List, [], ◌∷◌, ◌++◌}
use Rattle.cell_world.specs.Texts.{Text}
use Rattle.cell_world.specs.Images.{Image, Global, Happening, Committed, Wrote, after_one}
use Rattle.cell_world.specs.Plain.{PlainState, Connections, nobody, with_connections}
use Rattle.cell_world.specs.Meaning.{meaning}
use Rattle.cell_world.specs.Sound.{Sound}
use Rattle.cell_world.specs.declared.operations.Op.{Op}
use Rattle.cell_world.specs.declared.operations.StageName.{StageName}
use Rattle.cell_world.specs.declared.changes.Edit.{Edit}
use Rattle.plain_model.specs.declared.commands.Command.{Command}
use Rattle.plain_model.specs.declared.replies.Reply.{Reply}
use Rattle.plain_model.specs.declared.replies.Reply.TheVariants as reply
use Rattle.plain_model.specs.declared.history.Entry.{Entry}
use Rattle.plain_model.specs.JobSteps.{asked_number}
use Rattle.plain_model.specs.Timelines.{Timeline, Happened, Entered, image_of, facts_of, happened_of, history_of}
use Rattle.plain_model.specs.OnTrail.{logs_put, NoneOwed}
use Rattle.plain_model.specs.Legal.{Going, Promises, MayHappen, MayEnter, NamesItsOwn, IsOwnOf, IsAtRest, Legal}
use Rattle.plain_model.specs.GoingOn.{IsOf}
use Rattle.plain_model.specs.Written.{Mode}
use Rattle.plain_model.specs.Running.{Owing, Recovering, text_of}
use Rattle.plain_model.proofs.RunLaws.{begins, recovers, owing-happened, owing-entered, owing-committed, owing-stepped, owing-wrote, recovering-happened, recovering-entered, recovering-committed}
use Rattle.session_laws.specs.Doing.{Doing, Working, Operating, AllDoing, Live, live_of, command_of, going_of, all_going, IsThen}
use Rattle.session_laws.specs.Core.{IsTriedFor, AllStand, OthersStand, Sessions, Core, CoreRecovering, Answers, Leaves, Quiet, SameGoing}
use Rattle.session_laws.proofs.SessionLaws.{sessions_begin, none_owed_now, sessions_take, sessions_happen, sessions_log}
use Rattle.session_laws.proofs.EntryLaws.{own_alone, sessions_answer, own_with, sessions_commit, own_tried, sessions_fail_to_log}

enters_of : (since : ℕ) (start : Image) (p : Timeline) (e : Entry) (before after : Connections) → Answers since start p e before after → NamesItsOwn start p (with_connections (facts_of start p) before) e → NoneOwed start (Entered e ∷ p) → MayEnter since start p e before after
enters_of since start p e before after a own none = record { moment = a.moment; follows = a.follows; on_trail = a.on_trail; planned = a.planned; own = own; none_owed = none }

none_some : {A : Type 0} (x : Option A) (a : A) → x ≡ None → x ≡ Some a → ⊥
none_some x a n s = cc

module _ (More : ℕ → Live → Image → Type 0) where
  pub core_begins : (since : ℕ) (start : Image) (mode : Mode) (doing : AllDoing) → Sound start → ((session : ℕ) → going_of (doing session) ≡ None) → Core More since start mode [] nobody [] doing
  core_begins since start mode doing sound rests = record { owing = begins since start mode sound; sessions = sessions_begin More start doing sound rests }

  module _ (since : ℕ) (start : Image) (mode : Mode) (past : Timeline) (connections : Connections) (rest : Text) (doing : AllDoing) (core : Core More since start mode past connections rest doing) where
    pub core_takes : (session : ℕ) (c : Command) (left : Option Op) (next : AllDoing) → command_of (doing session) ≡ None → IsThen doing session (Working c left) next
        → ((t : ℕ) (d : Command) (number : ℕ) → (session ≡ t → ⊥) → command_of (doing t) ≡ Some d → asked_number c ≡ Some number → asked_number d ≡ Some number → ⊥)
        → Core More since start mode past connections rest next
    core_takes session c left next free then only = record { owing = core.owing; sessions = sessions_take More start past doing core.sessions session c left next free then only }

    pub core_happens : (h : Happening) (next : AllDoing) → SameGoing doing next → Quiet start past h → meaning (after_one (image_of start past) h) ≡ meaning (image_of start past)
        → AllStand More next (after_one (image_of start past) h) → Core More since start mode (Happened h ∷ past) connections rest next
    core_happens h next same quiet means stand =
        let now : Sessions More start (Happened h ∷ past) next = sessions_happen More start past doing core.sessions h next same quiet.tries quiet.may stand quiet.sound in
        record { owing = owing-happened since start mode past connections rest h core.owing quiet.silent quiet.may quiet.sound means (none_owed_now More start (Happened h ∷ past) next now); sessions = now }

    pub core_writes : (part more : Text) → part ++ more ≡ rest → Core More since start mode (Happened (Wrote part) ∷ past) connections more doing
    core_writes part more is = record {
      owing = owing-wrote since start mode past connections part more (subst (Owing since start mode past connections) (sym is) core.owing);
      sessions = sessions_happen More start past doing core.sessions (Wrote part) doing (record { going = λ t. refl; live = λ t l here. (l, here, refl, refl) }) refl tt core.sessions.stand core.sessions.sound;
    }

    pub core_logs : (session : ℕ) (c : Command) (op : Op) (stage : StageName) (next : AllDoing) (g : Going) → going_of (doing session) ≡ Some g → g.command ≡ c → g.operation ≡ 0 → IsThen doing session (Operating c op stage) next
        → (change : List Edit) → logs_put change ≡ op ∷ [] → MayHappen start past (Committed Global change true) → Sound (after_one (image_of start past) (Committed Global change true))
        → meaning (after_one (image_of start past) (Committed Global change true)) ≡ meaning (image_of start past) → IsTriedFor (asked_number c) (image_of start past) op
        → AllStand More next (after_one (image_of start past) (Committed Global change true)) → Core More since start mode (Happened (Committed Global change true) ∷ past) connections rest next
    core_logs session c op stage next g going command none then change puts may sound means tried stand =
        let now : Sessions More start (Happened (Committed Global change true) ∷ past) next = sessions_log More start past doing core.sessions session c op stage next g going command none then change puts may sound tried stand in
        record { owing = owing-happened since start mode past connections rest (Committed Global change true) core.owing refl may sound means (none_owed_now More start (Happened (Committed Global change true) ∷ past) next now); sessions = now }

    -- the operation that is going is still the command's exchange
    exchange_now : (session : ℕ) (l : Live) → live_of (doing session) ≡ Some l → asked_number l.command ≡ None → IsOwnOf (with_connections (facts_of start past) connections) l.command None start l.op
    exchange_now session l is none = subst (λ (s : PlainState). IsOwnOf (with_connections s connections) l.command None start l.op) core.owing.run.exact ((core.sessions.stand session l is).exchange connections none)

    module _ (e : Entry) (g : Going) (going : going_of (doing e.session) ≡ Some g) (of : IsOf g e) (d : Doing) (next : AllDoing) (then : IsThen doing e.session d next) (leaves : Leaves e d) (promise : Promises (all_going next) e [] e.reply) (some : e.reply ≡ Some (reply.Pending 0) → ⊥) (after : Connections) where
      abbrev A : PlainState
      A = with_connections (facts_of start past) connections

      pub answers_alone : (r : Reply) → rest ≡ [] → e.reply ≡ Some r → Answers since start past e connections after → Core More since start mode (Entered e ∷ past) after (text_of mode e) next
      answers_alone r all is a =
          let now : Sessions More start (Entered e ∷ past) next = sessions_answer More start past doing core.sessions e g going of d next then leaves promise some A (exchange_now e.session) in
          record {
            owing = owing-entered since start mode past connections after e r (subst (Owing since start mode past connections) all core.owing) is
                (enters_of since start past e connections after a (own_alone More start past doing core.sessions e g going of d next then leaves promise some A (exchange_now e.session)) (none_owed_now More start (Entered e ∷ past) next now));
            sessions = now;
          }

      module _ (h : Happening) (quiet : Quiet start past h) (others : OthersStand More doing e.session (after_one (image_of start past) h)) (a : Answers since start (Happened h ∷ past) e connections after) where
        now_h : Sessions More start (Entered e ∷ Happened h ∷ past) next
        now_h = sessions_commit More start past doing core.sessions e g going of d next then leaves promise some A (exchange_now e.session) h quiet others

        enters_h : MayEnter since start (Happened h ∷ past) e connections after
        enters_h = enters_of since start (Happened h ∷ past) e connections after a (own_with More start past doing core.sessions e g going of d next then leaves promise some A (exchange_now e.session) h) (none_owed_now More start (Entered e ∷ Happened h ∷ past) next now_h)

        pub answers_with : (r : Reply) → rest ≡ [] → e.reply ≡ Some r → Core More since start mode (Entered e ∷ Happened h ∷ past) after (text_of mode e) next
        answers_with r all is = record { owing = owing-committed since start mode past connections after h e r (subst (Owing since start mode past connections) all core.owing) quiet.silent is quiet.may quiet.sound enters_h; sessions = now_h }

        pub steps_with : e.reply ≡ None → Core More since start mode (Entered e ∷ Happened h ∷ past) after rest next
        steps_with is = record { owing = owing-stepped since start mode past connections after rest h e core.owing quiet.silent is quiet.may quiet.sound enters_h; sessions = now_h }

    pub log_fails : (c : Command) (op : Op) (change : List Edit) (took : Rattle.std.specs.Prelude.Bool) (e : Entry) → going_of (doing e.session) ≡ Some (record { command = c; operation = 0 }) → logs_put change ≡ op ∷ []
        → IsTriedFor (asked_number c) (image_of start past) op → (asked_number c ≡ None → IsOwnOf (with_connections (facts_of start past) connections) c None start op)
        → MayHappen start past (Committed Global change took) → Sound (after_one (image_of start past) (Committed Global change took)) → OthersStand More doing e.session (after_one (image_of start past) (Committed Global change took))
        → (d : Doing) (next : AllDoing) (after : Connections) (r : Reply) → rest ≡ [] → e.reply ≡ Some r → IsOf (record { command = c; operation = op.number }) e → IsThen doing e.session d next → Leaves e d
        → Promises (all_going next) e [] e.reply → (e.reply ≡ Some (reply.Pending 0) → ⊥) → Answers since start (Happened (Committed Global change took) ∷ past) e connections after
        → Core More since start mode (Entered e ∷ Happened (Committed Global change took) ∷ past) after (text_of mode e) next
    log_fails c op change took e going puts tried exchange may sound others d next after r all is of then leaves promise some a =
        let now : Sessions More start (Entered e ∷ Happened (Committed Global change took) ∷ past) next =
        sessions_fail_to_log More start past doing core.sessions c op change took e going puts tried (with_connections (facts_of start past) connections) exchange may sound others d next of then leaves promise some in
        record {
          owing = owing-committed since start mode past connections after (Committed Global change took) e r (subst (Owing since start mode past connections) all core.owing) refl is may sound
              (enters_of since start (Happened (Committed Global change took) ∷ past) e connections after a
              (own_tried More start past doing core.sessions c op change took e going puts tried (with_connections (facts_of start past) connections) exchange may sound others of)
              (none_owed_now More start (Entered e ∷ Happened (Committed Global change took) ∷ past) next now));
          sessions = now;
        }

    -- ---- in the end

    -- whenever the run ends here, its history is legal with what is going now
    pub core_is_legal : Legal since (record { start = start; happened = happened_of past }) (all_going doing) (history_of past)
    core_is_legal = record {
      timeline = past;
      happened = refl;
      entries = refl;
      connections = connections;
      unfolds = core.owing.run.unfolds;
      stands = core.owing.run.exact;
      none_owed = core.owing.run.none_owed;
      promises = core.sessions.looks.promises;
      named = core.sessions.looks.named;
    }

    -- ---- inside `attach` and `clear`

    pub core_recovers : CoreRecovering More since start mode past connections rest doing
    core_recovers = record { recovering = recovers since start mode past connections rest core.owing; sessions = core.sessions }

  module _ (since : ℕ) (start : Image) (mode : Mode) (past : Timeline) (connections : Connections) (rest : Text) (doing : AllDoing) (core : CoreRecovering More since start mode past connections rest doing) where
    pub recovering_happens : (h : Happening) → Quiet start past h → IsAtRest start (Happened h ∷ past) → AllStand More doing (after_one (image_of start past) h) → CoreRecovering More since start mode (Happened h ∷ past) connections rest doing
    recovering_happens h quiet near stand =
        let now : Sessions More start (Happened h ∷ past) doing = sessions_happen More start past doing core.sessions h doing (record { going = λ t. refl; live = λ t l here. (l, here, refl, refl) }) quiet.tries quiet.may stand quiet.sound in
        record { recovering = recovering-happened since start mode past connections rest h core.recovering quiet.silent quiet.may quiet.sound near (none_owed_now More start (Happened h ∷ past) doing now); sessions = now }

    -- the command that recovers has no operation
    module _ (e : Entry) (c : Command) (going : going_of (doing e.session) ≡ Some (record { command = c; operation = 0 })) (idle : live_of (doing e.session) ≡ None) (of : IsOf (record { command = c; operation = 0 }) e) (d : Doing) (next : AllDoing) (then : IsThen doing e.session d next) (leaves : Leaves e d)
        (promise : Promises (all_going next) e [] e.reply) (some : e.reply ≡ Some (reply.Pending 0) → ⊥) (after : Connections) (r : Reply) (all : rest ≡ []) (is : e.reply ≡ Some r) where
      no_exchange : (A : PlainState) (l : Live) → live_of (doing e.session) ≡ Some l → asked_number l.command ≡ None → IsOwnOf A l.command None start l.op
      no_exchange A l live = absurd (none_some (live_of (doing e.session)) l idle live)

      pub recovering_answers : Answers since start past e connections after → Core More since start mode (Entered e ∷ past) after (text_of mode e) next
      recovering_answers a =
          let now : Sessions More start (Entered e ∷ past) next = sessions_answer More start past doing core.sessions e _ going of d next then leaves promise some (with_connections (facts_of start past) connections) (no_exchange (with_connections (facts_of start past) connections)) in
          record { owing = recovering-entered since start mode past connections after e r (subst (Recovering since start mode past connections) all core.recovering) is (enters_of since start past e connections after a (inl of.operation) (none_owed_now More start (Entered e ∷ past) next now)); sessions = now }

      pub recovering_commits : (h : Happening) → Quiet start past h → OthersStand More doing e.session (after_one (image_of start past) h) → Answers since start (Happened h ∷ past) e connections after → Core More since start mode (Entered e ∷ Happened h ∷ past) after (text_of mode e) next
      recovering_commits h quiet others a =
          let now : Sessions More start (Entered e ∷ Happened h ∷ past) next = sessions_commit More start past doing core.sessions e _ going of d next then leaves promise some (with_connections (facts_of start past) connections) (no_exchange (with_connections (facts_of start past) connections)) h quiet others in
          record { owing = recovering-committed since start mode past connections after h e r (subst (Recovering since start mode past connections) all core.recovering) quiet.silent is quiet.may quiet.sound (enters_of since start (Happened h ∷ past) e connections after a (inl of.operation) (none_owed_now More start (Entered e ∷ Happened h ∷ past) next now)); sessions = now }
