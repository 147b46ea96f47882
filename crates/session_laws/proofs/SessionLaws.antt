-- How the sessions of a core go on.
use Rattle.std.proofs.Common.{◌≡◌, ◌⊎◌, inl, inr, ⊎_elim, ℕ, ◌<◌, arith, Bool, true, false, cond, refl, sym, ap, ◌∙◌, subst, Some, None, Option, is_some, List, [], ◌∷◌, eqb, eq-eqb}
use Rattle.std.proofs.lemmas.Bool.{eqb-true}
use Rattle.cell_world.specs.Images.{Image, Global, Happening, Committed, Wrote, Reopened, after_one}
use Rattle.cell_world.specs.Meaning.{next_operation}
use Rattle.cell_world.specs.Sound.{Sound}
use Rattle.cell_world.specs.declared.operations.Op.{Op}
use Rattle.cell_world.specs.declared.operations.StageName.{StageName}
use Rattle.cell_world.specs.declared.changes.Edit.{Edit}
use Rattle.plain_model.specs.declared.commands.Command.{Command}
use Rattle.plain_model.specs.JobSteps.{asked_number}
use Rattle.plain_model.specs.Timelines.{Timeline, Happened, image_of}
use Rattle.plain_model.specs.OnTrail.{logs_put, is_open, InLog, NoneOwed}
use Rattle.plain_model.specs.Legal.{Going, KeepsCounter, MayHappen, IsAtOperation}
use Rattle.plain_model.specs.GoingOn.{TakesUp, TriesNumbered}
use Rattle.plain_model.proofs.TriedNumbers.{numbered_commit}
use Rattle.plain_model.specs.OnTrail.{tried_by}
use Rattle.session_laws.specs.Doing.{Doing, Resting, Working, Operating, AllDoing, Live, live_of, command_of, going_of, all_going, IsThen, doing_then}
use Rattle.plain_model.specs.RunSoFar.{Looks}
use Rattle.session_laws.specs.Core.{IsTriedFor, IsOpen, AllStand, Sessions, SameGoing}
use Rattle.plain_model.proofs.Looking.{looks_first, looks_happened}
use Rattle.plain_model.proofs.OpenGoing.{IsGoing, open_going}
use Rattle.session_laws.proofs.LookLaws.{looks_taken, looks_tried, looks_same, open_numbered}
use Rattle.session_laws.proofs.OpenLaws.{open_happened, open_tried, tried_happened, tried_now, tried_wider}

-- ---- what a session does

-- what is going is a command alone, or a live operation
pub going_cases : (d : Doing) (g : Going) → going_of d ≡ Some g → (command_of d ≡ Some g.command) × (((live_of d ≡ None) × (g.operation ≡ 0)) ⊎ ((l : Live) × (live_of d ≡ Some l) × (l.command ≡ g.command) × (l.op.number ≡ g.operation)))
going_cases (Resting left) g is = absurd cc
going_cases (Working c left) g is = let e : record { command = c; operation = 0 } ≡ g = some_is _ _ is in (ap (λ (g : Going). Some g.command) e, inl (refl, sym (ap (λ (g : Going). g.operation) e)))
  where
    some_is : (x y : Going) → Some x ≡ Some y → x ≡ y
    some_is x y is = cc
going_cases (Operating c op stage) g is = let e : record { command = c; operation = op.number } ≡ g = some_is _ _ is in
    (ap (λ (g : Going). Some g.command) e, inr (record { command = c; op = op; stage = stage }, refl, ap (λ (g : Going). g.command) e, ap (λ (g : Going). g.operation) e))
  where
    some_is : (x y : Going) → Some x ≡ Some y → x ≡ y
    some_is x y is = cc

pub going_none : (d : Doing) → command_of d ≡ None → going_of d ≡ None
going_none (Resting left) is = refl
going_none (Working c left) is = absurd cc
going_none (Operating c op stage) is = absurd cc

pub none_going : (d : Doing) → going_of d ≡ None → (command_of d ≡ None) × (live_of d ≡ None)
none_going (Resting left) is = (refl, refl)
none_going (Working c left) is = absurd cc
none_going (Operating c op stage) is = absurd cc

pub live_going : (d : Doing) (l : Live) → live_of d ≡ Some l → (going_of d ≡ Some (record { command = l.command; operation = l.op.number })) × (command_of d ≡ Some l.command)
live_going (Resting left) l is = absurd cc
live_going (Working c left) l is = absurd cc
live_going (Operating c op stage) l is = let e : record { command = c; op = op; stage = stage } ≡ l = some_is _ _ is in
    (ap (λ (l : Live). Some (record { command = l.command; operation = l.op.number })) e, ap (λ (l : Live). Some l.command) e)
  where
    some_is : (x y : Live) → Some x ≡ Some y → x ≡ y
    some_is x y is = cc

-- the command is that of what is going
abbrev pub command_in : Option Going → Option Command
command_in None = None
command_in (Some g) = Some g.command

pub command_going : (d : Doing) → command_of d ≡ command_in (going_of d)
command_going (Resting left) = refl
command_going (Working c left) = refl
command_going (Operating c op stage) = refl

pub number_of : (old new : ℕ) (ops : List Op) (op : Op) → ops ≡ op ∷ [] → KeepsCounter old new ops → op.number ≡ old
number_of old new [] op is h = absurd cc
number_of old new (o ∷ []) op is h = let e : o ≡ op = first o op [] [] is in ap (λ (o : Op). o.number) (sym e) ∙ h.0
  where
    first : (a b : Op) (xs ys : List Op) → a ∷ xs ≡ b ∷ ys → a ≡ b
    first a b xs ys is = cc
number_of old new (o ∷ p ∷ ops) op is h = absurd h

none_some : {A : Type 0} (x : Option A) (a : A) → x ≡ None → x ≡ Some a → ⊥
none_some x a n s = cc

-- ---- one session does something else

not_eqb : (a b : ℕ) → (a ≡ b → ⊥) → eqb a b ≡ false
not_eqb a b differ = by (eqb a b) refl
  where
    by : (c : Bool) → eqb a b ≡ c → c ≡ false
    by true is = absurd (differ (eqb-true a b is))
    by false is = refl

pub then_is : (doing : AllDoing) (session : ℕ) (d : Doing) → IsThen doing session d (doing_then doing session d)
then_is doing session d = record {
  here = ap (λ b. cond b d (doing session)) (eq-eqb session session refl);
  others = λ other apart. ap (λ b. cond b d (doing other)) (not_eqb session other apart);
}

module _ (doing : AllDoing) (session : ℕ) (d : Doing) (next : AllDoing) (then : IsThen doing session d next) where
  pub this_or_other : (t : ℕ) → (session ≡ t) ⊎ (session ≡ t → ⊥)
  this_or_other t = by (eqb session t) refl
    where
      by : (b : Bool) → eqb session t ≡ b → (session ≡ t) ⊎ (session ≡ t → ⊥)
      by true is = inl (eqb-true session t is)
      by false is = inr (λ same. let f : eqb session t ≡ true = eq-eqb session t same in cc)

  pub live_then : (t : ℕ) (l : Live) → live_of (next t) ≡ Some l → ((session ≡ t) × (live_of d ≡ Some l)) ⊎ ((session ≡ t → ⊥) × (live_of (doing t) ≡ Some l))
  live_then t l is = ⊎_elim
      (λ same. inl (same, sym (ap live_of then.here) ∙ ap (λ i. live_of (next i)) same ∙ is))
      (λ other. inr (other, sym (ap live_of (then.others t other)) ∙ is))
      (this_or_other t)

  pub command_then : (t : ℕ) (c : Command) → command_of (next t) ≡ Some c → ((session ≡ t) × (command_of d ≡ Some c)) ⊎ ((session ≡ t → ⊥) × (command_of (doing t) ≡ Some c))
  command_then t c is = ⊎_elim
      (λ same. inl (same, sym (ap command_of then.here) ∙ ap (λ i. command_of (next i)) same ∙ is))
      (λ other. inr (other, sym (ap command_of (then.others t other)) ∙ is))
      (this_or_other t)

-- ---- none is owed

module _ (More : ℕ → Live → Image → Type 0) where
  pub none_owed_of : (start : Image) (past : Timeline) (doing : AllDoing) → TriesNumbered past → Looks (all_going doing) past → AllStand More doing (image_of start past) → NoneOwed start past
  none_owed_of start past doing some looks stand number is =
      let g : IsGoing (all_going doing) number = open_going (all_going doing) number past looks is in
      ⊎_elim
      (λ none. absurd (open_numbered past some (subst (λ n. is_open n past ≡ true) (sym g.operation ∙ none.1) is)))
      (λ live. subst (InLog (image_of start past)) (live.3 ∙ g.operation) (ap is_some (stand g.session live.0 live.1).logged))
      (going_cases (doing g.session) g.going_now g.here).1

  -- ---- at first

  pub sessions_begin : (start : Image) (doing : AllDoing) → Sound start → ((session : ℕ) → going_of (doing session) ≡ None) → Sessions More start [] doing
  sessions_begin start doing sound rests = record {
    sound = sound;
    tries = tt;
    looks = looks_first (all_going doing);
    stand = λ session l is. absurd (none_some (live_of (doing session)) l (none_going (doing session) (rests session)).1 is);
    are_open = λ session l is. absurd (none_some (live_of (doing session)) l (none_going (doing session) (rests session)).1 is);
    one = λ s t l m is. absurd (none_some (live_of (doing s)) l (none_going (doing s) (rests s)).1 is);
    one_job = λ s t c d number is. absurd (none_some (command_of (doing s)) c (none_going (doing s) (rests s)).0 is);
  }

  module _ (start : Image) (past : Timeline) (doing : AllDoing) (core : Sessions More start past doing) where
    -- no entry is owed
    pub none_owed_now : NoneOwed start past
    none_owed_now = none_owed_of start past doing core.tries core.looks core.stand

    -- ---- a session takes up a command

    pub sessions_take : (session : ℕ) (c : Command) (left : Option Op) (next : AllDoing) → command_of (doing session) ≡ None → IsThen doing session (Working c left) next
        → ((t : ℕ) (d : Command) (number : ℕ) → (session ≡ t → ⊥) → command_of (doing t) ≡ Some d → asked_number c ≡ Some number → asked_number d ≡ Some number → ⊥)
        → Sessions More start past next
    sessions_take session c left next free then only = record {
      sound = core.sound;
      tries = core.tries;
      looks = looks_taken (all_going doing) (all_going next) session (record { command = c; operation = 0 }) past
          (record {
            others = λ other apart. ap going_of (then.others other (λ same. apart (sym same)));
            going = ap going_of then.here;
            command = λ old is. absurd (none_some (going_of (doing session)) old (going_none (doing session) free) is);
            operation = λ old is. absurd (none_some (going_of (doing session)) old (going_none (doing session) free) is);
          })
          core.tries core.looks;
      stand = λ t l is. ⊎_elim (λ this. absurd (none_some None l refl this.1)) (λ other. core.stand t l other.1) (live_then doing session (Working c left) next then t l is);
      are_open = λ t l is. ⊎_elim (λ this. absurd (none_some None l refl this.1)) (λ other. core.are_open t l other.1) (live_then doing session (Working c left) next then t l is);
      one = λ s t l m sl tm same. ⊎_elim
          (λ this. absurd (none_some None l refl this.1))
          (λ other. ⊎_elim (λ this. absurd (none_some None m refl this.1)) (λ also. core.one s t l m other.1 also.1 same) (live_then doing session (Working c left) next then t m tm))
          (live_then doing session (Working c left) next then s l sl);
      one_job = λ s t a b number sa tb an bn. ⊎_elim
          (λ this. ⊎_elim
          (λ too. sym this.0 ∙ too.0)
          (λ also. absurd (only t b number also.0 also.1 (ap (λ (o : Command). asked_number o) (some_is c a this.1) ∙ an) bn))
          (command_then doing session (Working c left) next then t b tb))
          (λ other. ⊎_elim
          (λ this. absurd (only s a number other.0 other.1 (ap (λ (o : Command). asked_number o) (some_is c b this.1) ∙ bn) an))
          (λ also. core.one_job s t a b number other.1 also.1 an bn)
          (command_then doing session (Working c left) next then t b tb))
          (command_then doing session (Working c left) next then s a sa);
    }
      where
        some_is : (x y : Command) → Some x ≡ Some y → x ≡ y
        some_is x y is = cc

    -- ---- something happens that tries nothing: a stage, an undo, a settling, a reopening, rows

    abbrev Same : AllDoing → Type 0
    Same next = SameGoing doing next

    same_command : (next : AllDoing) → Same next → (t : ℕ) → command_of (next t) ≡ command_of (doing t)
    same_command next same t = command_going (next t) ∙ ap command_in (same.going t) ∙ sym (command_going (doing t))

    pub tries_more : (h : Happening) → MayHappen start past h → TriesNumbered (Happened h ∷ past)
    tries_more (Committed place change took) may = (numbered_commit start past place change took core.sound may, core.tries)
    tries_more (Wrote bytes) may = core.tries
    tries_more (Reopened place cells) may = core.tries

    pub open_more : (h : Happening) (t : ℕ) (l : Live) → IsOpen start past t l → IsOpen start (Happened h ∷ past) t l
    open_more h t l o = record {
      unnamed = open_happened l.op.number past h o.unnamed;
      tried = tried_happened start t (λ (image : Image) (op : Op). (op ≡ l.op) × IsTriedFor (asked_number l.command) image op) past h o.tried;
    }

    open_as : (p : Timeline) (t : ℕ) (m l : Live) → m.op ≡ l.op → m.command ≡ l.command → IsOpen start p t m → IsOpen start p t l
    open_as p t m l op command o = record {
      unnamed = subst (λ (x : Op). is_open x.number p ≡ true) op o.unnamed;
      tried = tried_wider start t (λ (image : Image) (x : Op). (x ≡ m.op) × IsTriedFor (asked_number m.command) image x) (λ (image : Image) (x : Op). (x ≡ l.op) × IsTriedFor (asked_number l.command) image x) p
          (λ image x h. (h.0 ∙ op, subst (λ (c : Command). IsTriedFor (asked_number c) image x) command h.1)) o.tried;
    }

    module _ (h : Happening) (next : AllDoing) (same : SameGoing doing next) (tries : tried_by h ≡ []) (may : MayHappen start past h) (stand : AllStand More next (image_of start (Happened h ∷ past))) where
      looks_quiet : Looks (all_going next) (Happened h ∷ past)
      looks_quiet = looks_same (all_going doing) (all_going next) same.going (Happened h ∷ past) (looks_happened (all_going doing) past h tries core.looks)

      pub sessions_happen : Sound (after_one (image_of start past) h) → Sessions More start (Happened h ∷ past) next
      sessions_happen sound = record {
        sound = sound;
        tries = tries_more h may;
        looks = looks_quiet;
        stand = stand;
        are_open = λ t l is. let m = same.live t l is in open_as (Happened h ∷ past) t m.0 l m.2 m.3 (open_more h t m.0 (core.are_open t m.0 m.1));
        one = λ s t l m sl tm e. let l' = same.live s l sl in let m' = same.live t m tm in
            core.one s t l'.0 m'.0 l'.1 m'.1 (ap (λ (o : Op). o.number) l'.2 ∙ e ∙ sym (ap (λ (o : Op). o.number) m'.2));
        one_job = λ s t a b number sa tb an bn. core.one_job s t a b number (sym (same_command next same s) ∙ sa) (sym (same_command next same t) ∙ tb) an bn;
      }

    -- ---- an operation is logged

    module _ (session : ℕ) (c : Command) (op : Op) (stage : StageName) (next : AllDoing) (g : Going) (going : going_of (doing session) ≡ Some g) (command : g.command ≡ c) (none : g.operation ≡ 0) (then : IsThen doing session (Operating c op stage) next) where
      was_command : command_of (doing session) ≡ Some c
      was_command = (going_cases (doing session) g going).0 ∙ ap (λ c. Some c) command

      pub same_commands : (t : ℕ) → command_of (next t) ≡ command_of (doing t)
      same_commands t = ⊎_elim
          (λ this. ap (λ i. command_of (next i)) (sym this) ∙ ap command_of then.here ∙ sym was_command ∙ ap (λ i. command_of (doing i)) this)
          (λ other. ap command_of (then.others t other))
          (this_or_other doing session (Operating c op stage) next then t)

      takes_operation : TakesUp (all_going doing) (all_going next) session (record { command = c; operation = op.number })
      takes_operation = record {
        others = λ other apart. ap going_of (then.others other (λ same. apart (sym same)));
        going = ap going_of then.here;
        command = λ old is. sym command ∙ ap (λ (g : Going). g.command) (some_is g old (sym going ∙ is));
        operation = λ old is. inl (ap (λ (g : Going). g.operation) (some_is old g (sym is ∙ going)) ∙ none);
      }
        where
          some_is : (x y : Going) → Some x ≡ Some y → x ≡ y
          some_is x y is = cc

      abbrev at_of : Option Going → Type 0
      at_of G = IsAtOperation op.number G None

      pub looks_logged : (change : List Edit) (took : Bool) → logs_put change ≡ op ∷ [] → Looks (all_going next) (Happened (Committed Global change took) ∷ past)
      looks_logged change took puts = looks_tried (all_going next) past Global change took op puts
          (record { session = session; at_operation = subst at_of (sym (ap going_of then.here)) refl })
          (looks_taken (all_going doing) (all_going next) session (record { command = c; operation = op.number }) past takes_operation core.tries core.looks)

      abbrev now : Live
      now = record { command = c; op = op; stage = stage }

      pub sessions_log : (change : List Edit) → logs_put change ≡ op ∷ [] → MayHappen start past (Committed Global change true) → Sound (after_one (image_of start past) (Committed Global change true))
          → IsTriedFor (asked_number c) (image_of start past) op
          → AllStand More next (after_one (image_of start past) (Committed Global change true)) → Sessions More start (Happened (Committed Global change true) ∷ past) next
      sessions_log change puts may sound tried stand = record {
        sound = sound;
        tries = tries_more (Committed Global change true) may;
        looks = looks_logged change true puts;
        stand = stand;
        are_open = λ t l is. ⊎_elim
            (λ this. let e : now ≡ l = some_is now l this.1 in
            subst (λ i. IsOpen start (Happened (Committed Global change true) ∷ past) i l) this.0 (subst (IsOpen start (Happened (Committed Global change true) ∷ past) session) e (record {
              unnamed = open_tried past Global change true op puts;
              tried = tried_now start session (λ (image : Image) (o : Op). (o ≡ op) × IsTriedFor (asked_number c) image o) past Global change true op puts (refl, tried);
            })))
            (λ other. open_more (Committed Global change true) t l (core.are_open t l other.1))
            (live_then doing session (Operating c op stage) next then t l is);
        one = λ s t l m sl tm same. ⊎_elim
            (λ this. ⊎_elim
            (λ too. sym this.0 ∙ too.0)
            (λ also. absurd (fresh t m also.1 (ap (λ (l : Live). l.op.number) (some_is now l this.1) ∙ same)))
            (live_then doing session (Operating c op stage) next then t m tm))
            (λ other. ⊎_elim
            (λ this. absurd (fresh s l other.1 (ap (λ (l : Live). l.op.number) (some_is now m this.1) ∙ sym same)))
            (λ also. core.one s t l m other.1 also.1 same)
            (live_then doing session (Operating c op stage) next then t m tm))
            (live_then doing session (Operating c op stage) next then s l sl);
        one_job = λ s t a b number sa tb an bn. core.one_job s t a b number (sym (same_commands s) ∙ sa) (sym (same_commands t) ∙ tb) an bn;
      }
        where
          some_is : (x y : Live) → Some x ≡ Some y → x ≡ y
          some_is x y is = cc

          -- its number is that of no live operation
          fresh : (t : ℕ) (m : Live) → live_of (doing t) ≡ Some m → op.number ≡ m.op.number → ⊥
          fresh t m is same = let low : m.op.number < next_operation (image_of start past) = core.sound.logged.numbered m.op (core.stand t m is).logged in
              let at : op.number ≡ next_operation (image_of start past) = number_of _ _ (logs_put change) op puts may in omega (arith, low, at, same)
