-- By contents alone: the putting of a log row failed, and the entry names it.
use Rattle.std.proofs.Common.{◌≡◌, ⊎_elim, inl, ℕ, refl, sym, ap, ◌∙◌, subst, Some, None, Option, [], ◌∷◌}
use Rattle.cell_world.specs.Images.{Image}
use Rattle.cell_world.specs.Plain.{Connections, with_connections}
use Rattle.cell_world.specs.Meaning.{meaning}
use Rattle.cell_world.specs.Sound.{Sound}
use Rattle.cell_world.specs.declared.operations.Op.{Op}
use Rattle.cell_world.specs.declared.operations.StageName.TheVariants.{Logged}
use Rattle.plain_model.specs.declared.commands.Command.{Command}
use Rattle.plain_model.specs.declared.replies.Reply.{Reply}
use Rattle.plain_model.specs.declared.replies.Reply.TheVariants as reply
use Rattle.plain_model.specs.declared.history.Entry.{Entry}
use Rattle.plain_model.specs.Timelines.{Past}
use Rattle.plain_model.specs.Follows.{Follows}
use Rattle.plain_model.specs.Legal.{Going, Promises}
use Rattle.plain_model.specs.GoingOn.{TakesUp, GoesOn, IsOf}
use Rattle.plain_model.specs.RunningAlone.{entries_of}
use Rattle.plain_model.proofs.AloneLaws.{alone_enters}
use Rattle.plain_model.proofs.Looking.{pendings_more}
use Rattle.plain_model.proofs.PromiseLaws.{promises_more, promises_stay}
use Rattle.session_laws.specs.Doing.{Doing, Operating, AllDoing, live_of, command_of, going_of, all_going, IsThen, doing_then}
use Rattle.session_laws.specs.Core.{OthersStand, CoreAlone, Leaves}
use Rattle.session_laws.specs.Needs.{Needs}
use Rattle.session_laws.proofs.SessionLaws.{going_cases, none_going, command_going, command_in, live_then, command_then, then_is}

none_some : {A : Type 0} (x : Option A) (a : A) → x ≡ None → x ≡ Some a → ⊥
none_some x a n s = cc

same_of : (g h : Going) → Some g ≡ Some h → g ≡ h
same_of g h is = cc

module _ (first : Image) (past : Past) (connections : Connections) (image : Image) (doing : AllDoing) (core : CoreAlone Needs first past connections image doing) (c : Command) (op : Op) (e : Entry)
    (going : going_of (doing e.session) ≡ Some (record { command = c; operation = 0 })) (of : IsOf (record { command = c; operation = op.number }) e) (d : Doing) (next : AllDoing) (then : IsThen doing e.session d next) (leaves : Leaves e d) where
  -- while the log row is tried
  abbrev middle : AllDoing
  middle = doing_then doing e.session (Operating c op Logged)

  takes : IsThen doing e.session (Operating c op Logged) middle
  takes = then_is doing e.session (Operating c op Logged)

  takes_up : TakesUp (all_going doing) (all_going middle) e.session (record { command = c; operation = op.number })
  takes_up = record {
    others = λ other apart. ap going_of (takes.others other (λ same. apart (sym same)));
    going = ap going_of takes.here;
    command = λ old is. ap (λ (g : Going). g.command) (same_of (record { command = c; operation = 0 }) old (sym going ∙ is));
    operation = λ old is. inl (ap (λ (g : Going). g.operation) (same_of old (record { command = c; operation = 0 }) (sym is ∙ going)));
  }

  goes_on : GoesOn (all_going middle) (all_going next) e
  goes_on = record {
    others = λ session other. ap going_of (then.others session (λ same. other (sym same)) ∙ sym (takes.others session (λ same. other (sym same))));
    own = λ g is. subst (λ (x : Going). IsOf x e) (same_of (record { command = c; operation = op.number }) g (sym (ap going_of takes.here) ∙ is)) of;
    further = λ g is silent. record {
      next = record { command = e.command; operation = 0 };
      going = ap going_of then.here ∙ leaves.going silent;
      command = of.command ∙ ap (λ (x : Going). x.command) (same_of (record { command = c; operation = op.number }) g (sym (ap going_of takes.here) ∙ is));
    };
  }

  of_reply : (a : Command) (r : Option Reply) → e.reply ≡ r → command_of d ≡ Some a → Some e.command ≡ Some a
  of_reply a (Some r) is of_d = absurd (none_some (command_of d) a (none_going d (leaves.answered r is)).0 of_d)
  of_reply a None is of_d = sym (command_going d ∙ ap command_in (leaves.going is)) ∙ of_d

  -- a command that goes on was going
  was_going : (t : ℕ) (a : Command) → command_of (next t) ≡ Some a → command_of (doing t) ≡ Some a
  was_going t a is = ⊎_elim
      (λ this. subst (λ i. command_of (doing i) ≡ Some a) this.0 ((going_cases (doing e.session) (record { command = c; operation = 0 }) going).0 ∙ ap (λ x. Some x) (sym of.command) ∙ of_reply a e.reply refl this.1))
      (λ other. other.1)
      (command_then doing e.session d next then t a is)

  pub alone_core_fails : Promises (all_going next) e [] e.reply → (e.reply ≡ Some (reply.Pending 0) → ⊥) → (new : Image) (after : Connections) → Sound new → OthersStand Needs doing e.session new
      → Follows past (with_connections (meaning image) connections) e (with_connections (meaning new) after) e.reply → CoreAlone Needs first (record { entry = e; before = meaning image } ∷ past) after new next
  alone_core_fails promise some new after sound others follows = record {
    run = alone_enters first past connections after image new e core.run sound follows;
    promises = promises_more (all_going middle) (all_going next) e goes_on (entries_of past)
        (promises_stay (all_going doing) (all_going middle) e.session (record { command = c; operation = op.number }) takes_up (entries_of past) core.pendings core.promises) promise;
    pendings = pendings_more (entries_of past) e core.pendings some;
    stand = λ t l is. ⊎_elim (λ this. absurd (none_some (live_of d) l leaves.no_operation this.1)) (λ other. others t l other.0 other.1) (live_then doing e.session d next then t l is);
    one = λ s t l m sl tm same. ⊎_elim
        (λ this. absurd (none_some (live_of d) l leaves.no_operation this.1))
        (λ other. ⊎_elim (λ this. absurd (none_some (live_of d) m leaves.no_operation this.1)) (λ also. core.one s t l m other.1 also.1 same) (live_then doing e.session d next then t m tm))
        (live_then doing e.session d next then s l sl);
    one_job = λ s t a b number sa tb an bn. core.one_job s t a b number (was_going s a sa) (was_going t b tb) an bn;
  }
