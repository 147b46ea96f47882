-- A core goes on with an entry: alone, with what happened just before it, or with the try of its log cell.
use Rattle.std.proofs.Common.{◌≡◌, inl, inr, ⊎_elim, ℕ, ◌≤◌, ◌<◌, arith, Bool, true, false, refl, sym, ap, ◌∙◌, subst, Some, None, Option, List, [], ◌∷◌, IsTrue}
use Rattle.std.specs.FinMap as map
use Rattle.cell_world.specs.Images.{Image, Global, Happening, Committed, after_one, global}
use Rattle.cell_world.specs.Plain.{PlainState}
use Rattle.cell_world.specs.Meaning.{next_operation}
use Rattle.cell_world.specs.Sound.{Sound}
use Rattle.cell_world.specs.Operations.{conflicts}
use Rattle.cell_world.specs.declared.operations.Op.{Op}
use Rattle.cell_world.specs.declared.operations.Reach.{Reach}
use Rattle.cell_world.specs.declared.operations.StageName.TheVariants.{Logged}
use Rattle.cell_world.specs.declared.changes.Edit.{Edit}
use Rattle.plain_model.specs.declared.commands.Command.{Command}
use Rattle.plain_model.specs.declared.replies.Reply.{Reply}
use Rattle.plain_model.specs.declared.replies.Reply.TheVariants as reply
use Rattle.plain_model.specs.declared.history.Entry.{Entry}
use Rattle.plain_model.specs.JobSteps.{asked_number}
use Rattle.plain_model.specs.Timelines.{Timeline, Happened, Entered, image_of}
use Rattle.plain_model.specs.OnTrail.{logs_put, is_open, NoneOwed, WasTried, IsLive, IsLeastInWay}
use Rattle.plain_model.specs.Legal.{Going, Promises, MayHappen, TriesNumber, NamesItsOwn, IsOwnOf, PromisesJob, PromisesOperation, IsAtJob, IsAtOperation}
use Rattle.plain_model.specs.GoingOn.{GoesOn, IsOf, TriesNumbered}
use Rattle.plain_model.specs.OnTrail.{tried_by}
use Rattle.session_laws.specs.Doing.{Doing, Resting, Working, Operating, AllDoing, Live, live_of, command_of, going_of, all_going, IsThen, doing_then}
use Rattle.plain_model.specs.RunSoFar.{Looks}
use Rattle.session_laws.specs.Core.{IsTriedFor, IsOpen, AllStand, OthersStand, Sessions, Leaves, Quiet}
use Rattle.plain_model.proofs.Looking.{looks_happened, looks_entered}
use Rattle.plain_model.proofs.OpenGoing.{IsGoing, open_going}
use Rattle.session_laws.proofs.LookLaws.{open_numbered}
use Rattle.session_laws.proofs.OpenLaws.{open_entered, tried_happened, tried_entered, tried_now, tried_wider}
use Rattle.session_laws.proofs.SessionLaws.{going_cases, none_going, live_going, command_going, command_in, live_then, command_then, none_owed_of, tries_more, open_more, looks_logged, same_commands, then_is, number_of}

some_live : (x y : Live) → Some x ≡ Some y → x ≡ y
some_live x y is = cc

-- a try has the number that stands
tried_number : (start : Image) (past : Timeline) (change : List Edit) (took : Bool) (op : Op) → logs_put change ≡ op ∷ [] → MayHappen start past (Committed Global change took) → op.number ≡ next_operation (image_of start past)
tried_number start past change true op puts may = number_of _ _ (logs_put change) op puts may
tried_number start past change false op puts may = by (logs_put change) puts may
  where
    first : (a b : Op) (xs ys : List Op) → a ∷ xs ≡ b ∷ ys → a ≡ b
    first a b xs ys is = cc

    by : (ops : List Op) → ops ≡ op ∷ [] → TriesNumber (next_operation (image_of start past)) ops → op.number ≡ next_operation (image_of start past)
    by [] is h = absurd cc
    by (o ∷ []) is h = ap (λ (o : Op). o.number) (sym (first o op [] [] is)) ∙ h
    by (o ∷ q ∷ ops) is h = absurd h

none_some : {A : Type 0} (x : Option A) (a : A) → x ≡ None → x ≡ Some a → ⊥
none_some x a n s = cc

module _ (More : ℕ → Live → Image → Type 0) (start : Image) where
  -- what holds just before the entry; of the session of the entry less
  pub record Before (p : Timeline) (doing : AllDoing) (e : Entry) : Type 0 where
    sound : Sound (image_of start p)
    tries : TriesNumbered p
    looks : Looks (all_going doing) p
    others : OthersStand More doing e.session (image_of start p)
    opens : (t : ℕ) (l : Live) → (e.session ≡ t → ⊥) → live_of (doing t) ≡ Some l → IsOpen start p t l
    one : (s t : ℕ) (l m : Live) → live_of (doing s) ≡ Some l → live_of (doing t) ≡ Some m → l.op.number ≡ m.op.number → s ≡ t
    one_job : (s t : ℕ) (c d : Command) (number : ℕ) → command_of (doing s) ≡ Some c → command_of (doing t) ≡ Some d → asked_number c ≡ Some number → asked_number d ≡ Some number → s ≡ t

  module _ (p : Timeline) (doing : AllDoing) (e : Entry) (before : Before p doing e) (g : Going) (going : going_of (doing e.session) ≡ Some g) (of : IsOf g e) (d : Doing) (next : AllDoing) (then : IsThen doing e.session d next) (leaves : Leaves e d) where
    same_going : (g h : Going) → Some g ≡ Some h → g ≡ h
    same_going g h is = cc

    goes_on : GoesOn (all_going doing) (all_going next) e
    goes_on = record {
      others = λ session other. ap going_of (then.others session (λ same. other (sym same)));
      own = λ g' is. subst (λ (x : Going). IsOf x e) (same_going g g' (sym going ∙ is)) of;
      further = λ g' is silent. record {
        next = record { command = e.command; operation = 0 };
        going = ap going_of then.here ∙ leaves.going silent;
        command = of.command ∙ ap (λ (x : Going). x.command) (same_going g g' (sym going ∙ is));
      };
    }

    looks_after : Promises (all_going next) e [] e.reply → (e.reply ≡ Some (reply.Pending 0) → ⊥) → Looks (all_going next) (Entered e ∷ p)
    looks_after promise some = looks_entered (all_going doing) (all_going next) e p goes_on promise some before.looks

    stand_after : AllStand More next (image_of start (Entered e ∷ p))
    stand_after t l is = ⊎_elim (λ this. absurd (none_some (live_of d) l leaves.no_operation this.1)) (λ other. before.others t l other.0 other.1) (live_then doing e.session d next then t l is)

    -- the entry names no other session's operation
    other_number : (t : ℕ) (l : Live) → (e.session ≡ t → ⊥) → live_of (doing t) ≡ Some l → e.operation ≡ l.op.number → ⊥
    other_number t l other is same = ⊎_elim
        (λ none. open_numbered p before.tries (subst (λ n. is_open n p ≡ true) (sym same ∙ of.operation ∙ none.1) (before.opens t l other is).unnamed))
        (λ live. other (before.one e.session t live.0 l live.1 is (live.3 ∙ sym of.operation ∙ same)))
        (going_cases (doing e.session) g going).1

    opens_after : (t : ℕ) (l : Live) → live_of (next t) ≡ Some l → IsOpen start (Entered e ∷ p) t l
    opens_after t l is = ⊎_elim
        (λ this. absurd (none_some (live_of d) l leaves.no_operation this.1))
        (λ other. let o : IsOpen start p t l = before.opens t l other.0 other.1 in
        record {
          unnamed = open_entered l.op.number p e (other_number t l other.0 other.1) o.unnamed;
          tried = tried_entered start t (λ (image : Image) (op : Op). (op ≡ l.op) × IsTriedFor (asked_number l.command) image op) p e other.0 o.tried;
        })
        (live_then doing e.session d next then t l is)

    one_after : (s t : ℕ) (l m : Live) → live_of (next s) ≡ Some l → live_of (next t) ≡ Some m → l.op.number ≡ m.op.number → s ≡ t
    one_after s t l m sl tm same = ⊎_elim
        (λ this. absurd (none_some (live_of d) l leaves.no_operation this.1))
        (λ other. ⊎_elim (λ this. absurd (none_some (live_of d) m leaves.no_operation this.1)) (λ also. before.one s t l m other.1 also.1 same) (live_then doing e.session d next then t m tm))
        (live_then doing e.session d next then s l sl)

    -- a command that goes on was going
    was_going : (t : ℕ) (c : Command) → command_of (next t) ≡ Some c → command_of (doing t) ≡ Some c
    was_going t c is = ⊎_elim
        (λ this. subst (λ i. command_of (doing i) ≡ Some c) this.0 ((going_cases (doing e.session) g going).0 ∙ ap (λ c. Some c) (sym of.command) ∙ by e.reply refl this.1))
        (λ other. other.1)
        (command_then doing e.session d next then t c is)
      where
        by : (r : Option Reply) → e.reply ≡ r → command_of d ≡ Some c → Some e.command ≡ Some c
        by (Some r) is of_d = absurd (none_some (command_of d) c (none_going d (leaves.answered r is)).0 of_d)
        by None is of_d = sym (command_going d ∙ ap command_in (leaves.going is)) ∙ of_d

    one_job_after : (s t : ℕ) (a b : Command) (number : ℕ) → command_of (next s) ≡ Some a → command_of (next t) ≡ Some b → asked_number a ≡ Some number → asked_number b ≡ Some number → s ≡ t
    one_job_after s t a b number sa tb an bn = before.one_job s t a b number (was_going s a sa) (was_going t b tb) an bn

    none_owed_after : Promises (all_going next) e [] e.reply → (e.reply ≡ Some (reply.Pending 0) → ⊥) → NoneOwed start (Entered e ∷ p)
    none_owed_after promise some = none_owed_of More start (Entered e ∷ p) next before.tries (looks_after promise some) stand_after

    sessions_after : Promises (all_going next) e [] e.reply → (e.reply ≡ Some (reply.Pending 0) → ⊥) → Sessions More start (Entered e ∷ p) next
    sessions_after promise some = record {
      sound = before.sound;
      tries = before.tries;
      looks = looks_after promise some;
      stand = stand_after;
      are_open = opens_after;
      one = one_after;
      one_job = one_job_after;
    }

  -- ---- an entry names its own

  own_by : (A : PlainState) (c : Command) (a : Option ℕ) (image : Image) (op x : Op) → (a ≡ None → IsOwnOf A c None image op) → (x ≡ op) → IsTriedFor a image x → IsOwnOf A c a image x
  own_by A c None image op x exchange is tried = subst (λ (o : Op). IsOwnOf A c None image o) (sym is) (exchange refl)
  own_by A c (Some number) image op x exchange is tried = tried

  names_its_own : (p : Timeline) (A : PlainState) (e : Entry) (doing : Doing) (g : Going) → going_of doing ≡ Some g → IsOf g e
      → ((l : Live) → live_of doing ≡ Some l → WasTried start e.session (λ (image : Image) (op : Op). (op ≡ l.op) × IsTriedFor (asked_number l.command) image op) p)
      → ((l : Live) → live_of doing ≡ Some l → asked_number l.command ≡ None → IsOwnOf A l.command None start l.op) → NamesItsOwn start p A e
  names_its_own p A e doing g going of tried exchange = ⊎_elim
      (λ none. inl (of.operation ∙ none.1))
      (λ live. let l : Live = live.0 in
      let command : l.command ≡ e.command = live.2 ∙ sym of.command in
      let number : l.op.number ≡ e.operation = live.3 ∙ sym of.operation in
      inr (tried_wider start e.session (λ (image : Image) (op : Op). (op ≡ l.op) × IsTriedFor (asked_number l.command) image op)
      (λ (image : Image) (op : Op). (op.number ≡ e.operation) × IsOwnOf A e.command (asked_number e.command) image op) p
      (λ image op h. (ap (λ (o : Op). o.number) h.0 ∙ number, subst (λ (c : Command). IsOwnOf A c (asked_number c) image op) command (own_by A l.command (asked_number l.command) image l.op op (exchange l live.1) h.0 h.1)))
      (tried l live.1)))
      (going_cases doing g going).1

  module _ (past : Timeline) (doing : AllDoing) (core : Sessions More start past doing) where
    -- ---- alone

    before_alone : (e : Entry) → Before past doing e
    before_alone e = record {
      sound = core.sound;
      tries = core.tries;
      looks = core.looks;
      others = λ t l other is. core.stand t l is;
      opens = λ t l other is. core.are_open t l is;
      one = core.one;
      one_job = core.one_job;
    }

    -- ---- with what happened just before

    before_with : (e : Entry) (h : Happening) → tried_by h ≡ [] → MayHappen start past h → Sound (after_one (image_of start past) h) → OthersStand More doing e.session (image_of start (Happened h ∷ past)) → Before (Happened h ∷ past) doing e
    before_with e h tries may sound others = record {
      sound = sound;
      tries = tries_more More start past doing core h may;
      looks = looks_happened (all_going doing) past h tries core.looks;
      others = others;
      opens = λ t l other is. open_more More start past doing core h t l (core.are_open t l is);
      one = core.one;
      one_job = core.one_job;
    }

    module _ (e : Entry) (g : Going) (going : going_of (doing e.session) ≡ Some g) (of : IsOf g e) (d : Doing) (next : AllDoing) (then : IsThen doing e.session d next) (leaves : Leaves e d) (promise : Promises (all_going next) e [] e.reply) (some : e.reply ≡ Some (reply.Pending 0) → ⊥)
        (A : PlainState) (exchange : (l : Live) → live_of (doing e.session) ≡ Some l → asked_number l.command ≡ None → IsOwnOf A l.command None start l.op) where
      pub own_alone : NamesItsOwn start past A e
      own_alone = names_its_own past A e (doing e.session) g going of (λ l is. (core.are_open e.session l is).tried) exchange

      pub sessions_answer : Sessions More start (Entered e ∷ past) next
      sessions_answer = sessions_after past doing e (before_alone e) g going of d next then leaves promise some

      pub own_with : (h : Happening) → NamesItsOwn start (Happened h ∷ past) A e
      own_with h = names_its_own (Happened h ∷ past) A e (doing e.session) g going of
          (λ l is. tried_happened start e.session (λ (image : Image) (op : Op). (op ≡ l.op) × IsTriedFor (asked_number l.command) image op) past h (core.are_open e.session l is).tried) exchange

      pub sessions_commit : (h : Happening) → Quiet start past h → OthersStand More doing e.session (after_one (image_of start past) h) → Sessions More start (Entered e ∷ Happened h ∷ past) next
      sessions_commit h quiet others = sessions_after (Happened h ∷ past) doing e (before_with e h quiet.tries quiet.may quiet.sound others) g going of d next then leaves promise some

    -- ---- with the try of its log cell, which failed, made or not

    module _ (c : Command) (op : Op) (change : List Edit) (took : Bool) (e : Entry) (going : going_of (doing e.session) ≡ Some (record { command = c; operation = 0 })) (puts : logs_put change ≡ op ∷ [])
        (tried : IsTriedFor (asked_number c) (image_of start past) op) (A : PlainState) (exchange : asked_number c ≡ None → IsOwnOf A c None start op)
        (may : MayHappen start past (Committed Global change took)) (sound : Sound (after_one (image_of start past) (Committed Global change took)))
        (others : OthersStand More doing e.session (after_one (image_of start past) (Committed Global change took))) where
      abbrev tried_past : Timeline
      tried_past = Happened (Committed Global change took) ∷ past

      abbrev named_going : Going
      named_going = record { command = c; operation = op.number }

      abbrev mid : AllDoing
      mid = doing_then doing e.session (Operating c op Logged)

      then_mid : IsThen doing e.session (Operating c op Logged) mid
      then_mid = then_is doing e.session (Operating c op Logged)

      going_mid : going_of (mid e.session) ≡ Some named_going
      going_mid = ap going_of then_mid.here

      fresh : (t : ℕ) (m : Live) → live_of (doing t) ≡ Some m → op.number ≡ m.op.number → ⊥
      fresh t m is same =
          let low : m.op.number < next_operation (image_of start past) = core.sound.logged.numbered m.op (core.stand t m is).logged in
          omega (arith, low, tried_number start past change took op puts may, same)

      before_tried : Before tried_past mid e
      before_tried = record {
        sound = sound;
        tries = tries_more More start past doing core (Committed Global change took) may;
        looks = looks_logged More start past doing core e.session c op Logged mid (record { command = c; operation = 0 }) going refl refl then_mid change took puts;
        others = λ t l other is. others t l other (sym (ap live_of (then_mid.others t other)) ∙ is);
        opens = λ t l other is. open_more More start past doing core (Committed Global change took) t l (core.are_open t l (sym (ap live_of (then_mid.others t other)) ∙ is));
        one = λ s t l m sl tm same. ⊎_elim
            (λ this. ⊎_elim
            (λ too. sym this.0 ∙ too.0)
            (λ also. absurd (fresh t m also.1 (ap (λ (l : Live). l.op.number) (some_live _ l this.1) ∙ same)))
            (live_then doing e.session (Operating c op Logged) mid then_mid t m tm))
            (λ other. ⊎_elim
            (λ this. absurd (fresh s l other.1 (ap (λ (l : Live). l.op.number) (some_live _ m this.1) ∙ sym same)))
            (λ also. core.one s t l m other.1 also.1 same)
            (live_then doing e.session (Operating c op Logged) mid then_mid t m tm))
            (live_then doing e.session (Operating c op Logged) mid then_mid s l sl);
        one_job = λ s t a b number sa tb an bn. core.one_job s t a b number
            (sym (same_commands More start past doing core e.session c op Logged mid (record { command = c; operation = 0 }) going refl refl then_mid s) ∙ sa)
            (sym (same_commands More start past doing core e.session c op Logged mid (record { command = c; operation = 0 }) going refl refl then_mid t) ∙ tb) an bn;
      }

      pub own_tried : IsOf named_going e → NamesItsOwn start tried_past A e
      own_tried of = names_its_own tried_past A e (mid e.session) named_going going_mid of
          (λ l is. let same : record { command = c; op = op; stage = Logged } ≡ l = some_live _ l (sym (ap live_of then_mid.here) ∙ is) in
          subst (λ (l : Live). WasTried start e.session (λ (image : Image) (x : Op). (x ≡ l.op) × IsTriedFor (asked_number l.command) image x) tried_past) same
          (tried_now start e.session (λ (image : Image) (x : Op). (x ≡ op) × IsTriedFor (asked_number c) image x) past Global change took op puts (refl, tried)))
          (λ l is none. let same : record { command = c; op = op; stage = Logged } ≡ l = some_live _ l (sym (ap live_of then_mid.here) ∙ is) in
          subst (λ (l : Live). asked_number l.command ≡ None → IsOwnOf A l.command None start l.op) same exchange none)

      pub sessions_fail_to_log : (d : Doing) (next : AllDoing) → IsOf named_going e → IsThen doing e.session d next → Leaves e d → Promises (all_going next) e [] e.reply → (e.reply ≡ Some (reply.Pending 0) → ⊥) → Sessions More start (Entered e ∷ tried_past) next
      sessions_fail_to_log d next of then leaves promise some =
          sessions_after tried_past mid e before_tried named_going going_mid of d next (record { here = then.here; others = λ t other. then.others t other ∙ sym (then_mid.others t other) }) leaves promise some

    -- ---- what looks ahead is kept by what is going

    -- `pending P` of the least number that is in the way and live
    pub pending_is_least : (e : Entry) (next : AllDoing) (reached : Reach) (t : ℕ) (l : Live) → (e.session ≡ t → ⊥) → next t ≡ doing t → live_of (doing t) ≡ Some l → IsTrue (conflicts reached l.op)
        → ((u : ℕ) (m : Live) → live_of (doing u) ≡ Some m → IsTrue (conflicts reached m.op) → l.op.number ≤ m.op.number)
        → IsLeastInWay start past reached l.op.number × PromisesOperation (all_going next) e [] l.op.number
    pending_is_least e next reached t l other stays is in_way least = (
      record {
        op = l.op;
        named = refl;
        live = record { logged = (core.stand t l is).logged; unnamed = (core.are_open t l is).unnamed };
        in_way = in_way;
        least = λ o live conflict. least_of o live conflict (open_going (all_going doing) o.number past core.looks live.unnamed);
      },
      record {
        other = t;
        is_other = λ same. other (sym same);
        at_operation = subst (λ (d : Option Going). IsAtOperation l.op.number d None) (sym (ap going_of stays ∙ (live_going (doing t) l is).0)) refl;
      },
    )
      where
        same_op : (log : Option Op) (a b : Op) → log ≡ Some a → log ≡ Some b → a ≡ b
        same_op log a b p q = cc

        least_of : (o : Op) → IsLive start past o → IsTrue (conflicts reached o) → IsGoing (all_going doing) o.number → l.op.number ≤ o.number
        least_of o live conflict g = ⊎_elim
            (λ none. absurd (open_numbered past core.tries (subst (λ n. is_open n past ≡ true) (sym g.operation ∙ none.1) live.unnamed)))
            (λ m. let number : m.0.op.number ≡ o.number = m.3 ∙ g.operation in
            let op : m.0.op ≡ o = same_op (map.get (global (image_of start past)).log o.number) m.0.op o (ap (map.get (global (image_of start past)).log) (sym number) ∙ (core.stand g.session m.0 m.1).logged) live.logged in
            subst (λ n. l.op.number ≤ n) number (least g.session m.0 m.1 (subst (λ (x : Op). IsTrue (conflicts reached x)) (sym op) conflict)))
            (going_cases (doing g.session) g.going_now g.here).1

    -- `job-running` where another session has a command of the job going
    pub running_is_going : (e : Entry) (next : AllDoing) (t : ℕ) (c : Command) (number : ℕ) → (e.session ≡ t → ⊥) → next t ≡ doing t → command_of (doing t) ≡ Some c → asked_number c ≡ Some number → asked_number e.command ≡ Some number
        → PromisesJob (all_going next) e []
    running_is_going e next t c number other stays is asked same = record {
      other = t;
      is_other = λ same. other (sym same);
      number = number;
      asked = same;
      at_job = subst (λ (d : Doing). IsAtJob number (going_of d) None) (sym stays) (by (doing t) is);
    }
      where
        command_is : (a b : Command) → Some a ≡ Some b → a ≡ b
        command_is a b is = cc

        by : (d : Doing) → command_of d ≡ Some c → IsAtJob number (going_of d) None
        by (Resting left) is = absurd cc
        by (Working a left) is = ap asked_number (command_is a c is) ∙ asked
        by (Operating a op stage) is = ap asked_number (command_is a c is) ∙ asked
