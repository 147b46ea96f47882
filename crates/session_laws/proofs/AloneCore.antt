-- A core over a world that tells its contents alone.
use Rattle.std.proofs.Common.{◌≡◌, inl, ⊎_elim, ℕ, refl, sym, ap, ◌∙◌, subst, Some, None, Option, [], ◌∷◌}
use Rattle.cell_world.specs.Images.{Image}
use Rattle.cell_world.specs.Plain.{Connections, nobody, with_connections}
use Rattle.cell_world.specs.Meaning.{meaning}
use Rattle.cell_world.specs.Sound.{Sound}
use Rattle.cell_world.specs.declared.operations.Op.{Op}
use Rattle.cell_world.specs.declared.operations.StageName.{StageName}
use Rattle.plain_model.specs.declared.commands.Command.{Command}
use Rattle.plain_model.specs.declared.replies.Reply.{Reply}
use Rattle.plain_model.specs.declared.replies.Reply.TheVariants as reply
use Rattle.plain_model.specs.declared.history.Entry.{Entry}
use Rattle.plain_model.specs.JobSteps.{asked_number}
use Rattle.plain_model.specs.Timelines.{Past}
use Rattle.plain_model.specs.Follows.{Follows}
use Rattle.plain_model.specs.Legal.{Going, Promises}
use Rattle.plain_model.specs.GoingOn.{GoesOn, IsOf}
use Rattle.plain_model.specs.RunningAlone.{entries_of}
use Rattle.plain_model.proofs.AloneLaws.{alone_begins, alone_goes_on, alone_enters}
use Rattle.plain_model.proofs.PromiseLaws.{promises_more, promises_stay}
use Rattle.session_laws.specs.Doing.{Doing, Working, Operating, AllDoing, Live, live_of, command_of, going_of, all_going, IsThen}
use Rattle.session_laws.specs.Core.{AllStand, OthersStand, CoreAlone, Leaves, SameGoing}
use Rattle.plain_model.proofs.Looking.{pendings_more}
use Rattle.session_laws.proofs.LookLaws.{same_promises}
use Rattle.session_laws.proofs.SessionLaws.{going_cases, going_none, none_going, command_going, command_in, live_then, command_then, this_or_other}

none_some : {A : Type 0} (x : Option A) (a : A) → x ≡ None → x ≡ Some a → ⊥
none_some x a n s = cc

some_live : (x y : Live) → Some x ≡ Some y → x ≡ y
some_live x y is = cc

same_of : (g h : Going) → Some g ≡ Some h → g ≡ h
same_of g h is = cc

same_command : (x y : Command) → Some x ≡ Some y → x ≡ y
same_command x y is = cc

module _ (More : ℕ → Live → Image → Type 0) where
  pub alone_core_begins : (first : Image) (doing : AllDoing) → Sound first → ((session : ℕ) → going_of (doing session) ≡ None) → CoreAlone More first [] nobody first doing
  alone_core_begins first doing sound rests = record {
    run = alone_begins first sound;
    promises = tt;
    pendings = tt;
    stand = λ session l is. absurd (none_some (live_of (doing session)) l (none_going (doing session) (rests session)).1 is);
    one = λ s t l m is. absurd (none_some (live_of (doing s)) l (none_going (doing s) (rests s)).1 is);
    one_job = λ s t c d number is. absurd (none_some (command_of (doing s)) c (none_going (doing s) (rests s)).0 is);
  }

  module _ (first : Image) (past : Past) (connections : Connections) (image : Image) (doing : AllDoing) (core : CoreAlone More first past connections image doing) where
    pub alone_core_takes : (session : ℕ) (c : Command) (left : Option Op) (next : AllDoing) → command_of (doing session) ≡ None → IsThen doing session (Working c left) next
        → ((t : ℕ) (d : Command) (number : ℕ) → (session ≡ t → ⊥) → command_of (doing t) ≡ Some d → asked_number c ≡ Some number → asked_number d ≡ Some number → ⊥)
        → CoreAlone More first past connections image next
    alone_core_takes session c left next free then only = record {
      run = core.run;
      promises = promises_stay (all_going doing) (all_going next) session (record { command = c; operation = 0 })
          (record {
            others = λ other apart. ap going_of (then.others other (λ same. apart (sym same)));
            going = ap going_of then.here;
            command = λ old is. absurd (none_some (going_of (doing session)) old (going_none (doing session) free) is);
            operation = λ old is. absurd (none_some (going_of (doing session)) old (going_none (doing session) free) is);
          })
          (entries_of past) core.pendings core.promises;
      pendings = core.pendings;
      stand = λ t l is. ⊎_elim (λ this. absurd (none_some None l refl this.1)) (λ other. core.stand t l other.1) (live_then doing session (Working c left) next then t l is);
      one = λ s t l m sl tm same. ⊎_elim
          (λ this. absurd (none_some None l refl this.1))
          (λ other. ⊎_elim (λ this. absurd (none_some None m refl this.1)) (λ also. core.one s t l m other.1 also.1 same) (live_then doing session (Working c left) next then t m tm))
          (live_then doing session (Working c left) next then s l sl);
      one_job = λ s t a b number sa tb an bn. ⊎_elim
          (λ this. ⊎_elim (λ too. sym this.0 ∙ too.0) (λ also. absurd (only t b number also.0 also.1 (ap (λ (o : Command). asked_number o) (same_command c a this.1) ∙ an) bn)) (command_then doing session (Working c left) next then t b tb))
          (λ other. ⊎_elim (λ this. absurd (only s a number other.0 other.1 (ap (λ (o : Command). asked_number o) (same_command c b this.1) ∙ bn) an)) (λ also. core.one_job s t a b number other.1 also.1 an bn)
          (command_then doing session (Working c left) next then t b tb))
          (command_then doing session (Working c left) next then s a sa);
    }

    -- whatever changes the stores and leaves their meaning
    pub alone_core_goes_on : (new : Image) (next : AllDoing) → SameGoing doing next → Sound new → meaning new ≡ meaning image → AllStand More next new → CoreAlone More first past connections new next
    alone_core_goes_on new next same sound means stand = record {
      run = alone_goes_on first past connections image new core.run sound means;
      promises = same_promises (all_going doing) (all_going next) same.going (entries_of past) core.promises;
      pendings = core.pendings;
      stand = stand;
      one = λ s t l m sl tm e. let l' = same.live s l sl in let m' = same.live t m tm in
          core.one s t l'.0 m'.0 l'.1 m'.1 (ap (λ (o : Op). o.number) l'.2 ∙ e ∙ sym (ap (λ (o : Op). o.number) m'.2));
      one_job = λ s t a b number sa tb an bn. core.one_job s t a b number (sym (command_stays s) ∙ sa) (sym (command_stays t) ∙ tb) an bn;
    }
      where
        command_stays : (t : ℕ) → command_of (next t) ≡ command_of (doing t)
        command_stays t = command_going (next t) ∙ ap command_in (same.going t) ∙ sym (command_going (doing t))

    -- an operation is logged, with a number that no session has
    pub alone_core_logs : (session : ℕ) (c : Command) (op : Op) (stage : StageName) (new : Image) (next : AllDoing) (g : Going) → going_of (doing session) ≡ Some g → g.command ≡ c → g.operation ≡ 0 → IsThen doing session (Operating c op stage) next
        → ((t : ℕ) (m : Live) → live_of (doing t) ≡ Some m → op.number ≡ m.op.number → ⊥) → Sound new → meaning new ≡ meaning image → AllStand More next new → CoreAlone More first past connections new next
    alone_core_logs session c op stage new next g going command none then fresh sound means stand = record {
      run = alone_goes_on first past connections image new core.run sound means;
      promises = promises_stay (all_going doing) (all_going next) session (record { command = c; operation = op.number })
          (record {
            others = λ other apart. ap going_of (then.others other (λ same. apart (sym same)));
            going = ap going_of then.here;
            command = λ old is. sym command ∙ ap (λ (g : Going). g.command) (same_of g old (sym going ∙ is));
            operation = λ old is. inl (ap (λ (g : Going). g.operation) (same_of old g (sym is ∙ going)) ∙ none);
          })
          (entries_of past) core.pendings core.promises;
      pendings = core.pendings;
      stand = stand;
      one = λ s t l m sl tm same. ⊎_elim
          (λ this. ⊎_elim (λ too. sym this.0 ∙ too.0) (λ also. absurd (fresh t m also.1 (ap (λ (l : Live). l.op.number) (some_live _ l this.1) ∙ same))) (live_then doing session (Operating c op stage) next then t m tm))
          (λ other. ⊎_elim (λ this. absurd (fresh s l other.1 (ap (λ (l : Live). l.op.number) (some_live _ m this.1) ∙ sym same))) (λ also. core.one s t l m other.1 also.1 same) (live_then doing session (Operating c op stage) next then t m tm))
          (live_then doing session (Operating c op stage) next then s l sl);
      one_job = λ s t a b number sa tb an bn. core.one_job s t a b number (sym (command_stays s) ∙ sa) (sym (command_stays t) ∙ tb) an bn;
    }
      where
        command_stays : (t : ℕ) → command_of (next t) ≡ command_of (doing t)
        command_stays t = ⊎_elim
            (λ this. ap (λ i. command_of (next i)) (sym this) ∙ ap command_of then.here ∙ sym ((going_cases (doing session) g going).0 ∙ ap (λ c. Some c) command) ∙ ap (λ i. command_of (doing i)) this)
            (λ other. ap command_of (then.others t other))
            (this_or_other doing session (Operating c op stage) next then t)

    -- an entry, alone or with the change that it stands for
    pub alone_core_enters : (e : Entry) (g : Going) → going_of (doing e.session) ≡ Some g → IsOf g e → (d : Doing) (next : AllDoing) → IsThen doing e.session d next → Leaves e d → Promises (all_going next) e [] e.reply → (e.reply ≡ Some (reply.Pending 0) → ⊥)
        → (new : Image) (after : Connections) → Sound new → OthersStand More doing e.session new → Follows past (with_connections (meaning image) connections) e (with_connections (meaning new) after) e.reply
        → CoreAlone More first (record { entry = e; before = meaning image } ∷ past) after new next
    alone_core_enters e g going of d next then leaves promise some new after sound others follows = record {
      run = alone_enters first past connections after image new e core.run sound follows;
      promises = promises_more (all_going doing) (all_going next) e goes_on (entries_of past) core.promises promise;
      pendings = pendings_more (entries_of past) e core.pendings some;
      stand = λ t l is. ⊎_elim (λ this. absurd (none_some (live_of d) l leaves.no_operation this.1)) (λ other. others t l other.0 other.1) (live_then doing e.session d next then t l is);
      one = λ s t l m sl tm same. ⊎_elim
          (λ this. absurd (none_some (live_of d) l leaves.no_operation this.1))
          (λ other. ⊎_elim (λ this. absurd (none_some (live_of d) m leaves.no_operation this.1)) (λ also. core.one s t l m other.1 also.1 same) (live_then doing e.session d next then t m tm))
          (live_then doing e.session d next then s l sl);
      one_job = λ s t a b number sa tb an bn. core.one_job s t a b number (was_going s a sa) (was_going t b tb) an bn;
    }
      where
        goes_on : GoesOn (all_going doing) (all_going next) e
        goes_on = record {
          others = λ session other. ap going_of (then.others session (λ same. other (sym same)));
          own = λ g' is. subst (λ (x : Going). IsOf x e) (same_of g g' (sym going ∙ is)) of;
          further = λ g' is silent. record {
            next = record { command = e.command; operation = 0 };
            going = ap going_of then.here ∙ leaves.going silent;
            command = of.command ∙ ap (λ (x : Going). x.command) (same_of g g' (sym going ∙ is));
          };
        }

        of_reply : (c : Command) (r : Option Reply) → e.reply ≡ r → command_of d ≡ Some c → Some e.command ≡ Some c
        of_reply c (Some r) is of_d = absurd (none_some (command_of d) c (none_going d (leaves.answered r is)).0 of_d)
        of_reply c None is of_d = sym (command_going d ∙ ap command_in (leaves.going is)) ∙ of_d

        was_going : (t : ℕ) (c : Command) → command_of (next t) ≡ Some c → command_of (doing t) ≡ Some c
        was_going t c is = ⊎_elim
            (λ this. subst (λ i. command_of (doing i) ≡ Some c) this.0 ((going_cases (doing e.session) g going).0 ∙ ap (λ c. Some c) (sym of.command) ∙ of_reply c e.reply refl this.1))
            (λ other. other.1)
            (command_then doing e.session d next then t c is)
