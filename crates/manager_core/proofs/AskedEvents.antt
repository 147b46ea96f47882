-- The event of a command that is asked, from its parts.
use Rattle.std.proofs.Common.{◌≡◌, ⊎_elim, inl, inr, ℕ, ◌+◌, ◌≤◌, zero, suc, refl, sym, ap, ◌∙◌, subst, arith, Some, None, Option, List, length}
use Rattle.cell_world.specs.Counts.{StoreRose, NeverFall, store_count}
use Rattle.cell_world.specs.Images.{Image, Place}
use Rattle.cell_world.specs.Meaning.{meaning}
use Rattle.cell_world.specs.Outside.{Outside, IfContents, IsLater, StoreRoseBy}
use Rattle.cell_world.specs.declared.changes.Edit.{Edit}
use Rattle.cell_world.specs.declared.operations.Op.{Op}
use Rattle.cell_world.specs.declared.operations.Reach.{Reach}
use Rattle.cell_world.specs.declared.operations.StageName.TheVariants.{Logged}
use Rattle.global_tables.specs.Known.{Known}
use Rattle.op_steps.proofs.Rises.{rose_after, rose_before}
use Rattle.operation_laws.specs.Left.{left_of, without_left}
use Rattle.operation_laws.specs.LiveNumbers.{HasLive}
use Rattle.plain_model.specs.declared.commands.Command.{Command}
use Rattle.plain_model.specs.declared.replies.Reply.{Reply}
use Rattle.plain_model.specs.declared.replies.Reply.TheVariants as reply
use Rattle.plain_model.specs.OnTrail.{reach_of_command}
use Rattle.session_laws.specs.Doing.{AllDoing, Doing, Resting, Working, Operating, IsThen, live_of}
use Rattle.session_laws.proofs.SessionLaws.{this_or_other}
use Rattle.manager_core.specs.declared.answers.Answer.{Answer}
use Rattle.manager_core.specs.declared.coming.Came.{Came}
use Rattle.manager_core.specs.declared.coming.Came.TheVariants.{Going, Ended}
use Rattle.manager_core.specs.Answering.{IsCopy}
use Rattle.manager_core.specs.Asking.{AnswersNow}
use Rattle.manager_core.specs.Coming.{AsksExactly, BecomesAsked, ClearStep, ComesOfAsking, HappensAsking, IsTidied, SettleStep, SettlesLeft, failures, reply_of}
use Rattle.manager_core.specs.Events.{IsResting}
use Rattle.manager_core.specs.Steady.{AreSteady, Becomes, IsSettledOp, KeepsSettled}
use Rattle.manager_core.proofs.ExactAnswers.{exact_as, exact_beside}
use Rattle.manager_core.proofs.MovingLaws.{ends_after, then_then}
use Rattle.manager_core.proofs.Steadiness.{becomes_same, becomes_then}
use Rattle.manager_core.proofs.TidyLaws.{tidied_back, tidied_none, tidied_then, tidied_weaker}

none_some : {A : Type 0} (a : A) → None ≡ Some a → ⊥
none_some a is = cc

-- what is promised where the stores are steady may be shown there
becomes_where : (old new : Outside) (before after : AllDoing) → (AreSteady before old → Becomes old new before after) → Becomes old new before after
becomes_where old new before after so = record {
  steady = λ s. (so s).steady s;
  same = λ s. (so s).same s;
  settled = λ s. (so s).settled s;
  copy = λ known s. (so s).copy known s;
  leads = λ s. (so s).leads s;
}

-- ---- two failures

sums_rise : (n : ℕ) (old new : ℕ → ℕ) → NeverFall old new → store_count n old ≤ store_count n new
sums_rise zero old new up = omega arith
sums_rise (suc n) old new up = omega (arith, sums_rise n old new up, up n)

rose_and : (n : ℕ) (a b d : ℕ → ℕ) → NeverFall b d → StoreRose n 1 a b → StoreRose n 1 b d → StoreRose n 2 a d
rose_and n a b d up (inl last) more = inl (last.0, last.1, omega (arith, last.2, up last.0))
rose_and n a b d up (inr one) (inl last) = inl last
rose_and n a b d up (inr one) (inr two) = inr (omega (arith, one, two))

-- one after the other
pub rose_twice : (a b d : Outside) → IsLater a b → IsLater b d → StoreRoseBy 1 a b → StoreRoseBy 1 b d → StoreRoseBy 2 a d
rose_twice a b d first later one two = rose_and (length a.locations + 1) a.faults_at b.faults_at d.faults_at later.faults one (subst (λ (ls : List _). StoreRose (length ls + 1) 1 b.faults_at d.faults_at) first.locations two)

-- ---- it is answered at once

pub comes_now : (session : ℕ) (c : Command) (answer : Answer) (known fresh : Known) (before : AllDoing) (old new : Outside) → before session ≡ Resting None → AnswersNow c answer.reply known fresh before old new → ComesOfAsking session c (Ended c answer 0) known fresh before before old new
comes_now session c answer known fresh before old new rests now = record {
  becomes = (
    refl,
    record { rests = record { here = rests; others = λ other apart. refl }; ends = now.ends session rests; names = λ short. refl; waits_for = now.waits_for; fault = now.cause },
  );
  so = record { happens = now.happens session; exact = now.exact session; settles = λ steady copy op left. absurd (none_some op (sym (ap left_of rests) ∙ left)) };
}

-- ---- what its session left is settled first

module _ (session : ℕ) (c : Command) (known fresh : Known) (before mid after : AllDoing) (old now new : Outside) (first : IsThen before session (Resting None) mid) (same : (t : ℕ) → live_of (mid t) ≡ live_of (before t)) (part : Becomes old now before mid)
    (tidied : AreSteady before old → IsTidied (SettleStep (before session)) old.told now.told) (later : IsLater old now) (more : IsLater now new) where
  has_as : (number : ℕ) → HasLive mid number → HasLive before number
  has_as number h = record { session = h.session; live = h.live; here = sym (same h.session) ∙ h.here; named = h.named }

  had_as : (number : ℕ) → HasLive before number → HasLive mid number
  had_as number h = record { session = h.session; live = h.live; here = same h.session ∙ h.here; named = h.named }

  becomes_asked : (came : Came) → BecomesAsked session c came known fresh mid after now new → BecomesAsked session c came known fresh before after old new
  becomes_asked (Going number) g = record {
    op = g.op;
    named = g.named;
    next = then_then before session (Resting None) (Operating c g.op Logged) mid after first g.next;
    copy = g.copy;
    becomes = λ copy. becomes_where old new before after (λ steady. becomes_then old now new before mid after part (g.becomes (part.copy known steady copy)));
  }
  becomes_asked (Ended command answer number) g = (
    g.0,
    record {
      rests = then_then before session (Resting None) (Resting None) mid after first g.1.rests;
      ends = ends_after session c answer.reply number known fresh old now new before mid after part g.1.ends;
      names = g.1.names;
      waits_for = λ other is. has_as other (g.1.waits_for other is);
      fault = λ is. rose_after old now new later (g.1.fault is);
    },
  )

  -- what is settled stays so
  keeps_settled : (came : Came) → BecomesAsked session c came known fresh mid after now new → AreSteady mid now → IsCopy known now.told → KeepsSettled now new
  keeps_settled (Going number) g steady copy = (g.becomes copy).settled steady
  keeps_settled (Ended command answer number) g steady copy = g.1.ends.settled steady copy

  -- a failure while it was settled is one more than those that are answered
  rises : (came : Came) → BecomesAsked session c came known fresh mid after now new → StoreRoseBy 1 old now → StoreRoseBy (failures (reply_of came)) old new
  rises (Going number) g rose = rose_before old now new rose more later
  rises (Ended command answer number) g rose = by answer.reply g.1.fault
    where
      by : (r : Reply) → (r ≡ reply.Fault → StoreRoseBy 1 now new) → StoreRoseBy (failures (Some r)) old new
      by reply.Fault fault = rose_twice old now new later more rose (fault refl)
      by r fault = rose_before old now new rose more later

  -- ---- what happened

  settle_step : (image : Image) (place : Place) (change : List Edit) → SettleStep (mid session) image place change → SettleStep (before session) image place change
  settle_step image place change step = absurd (none_some step.0 (sym (ap left_of first.here) ∙ step.1))

  clear_step : (reached : Reach) (image : Image) (place : Place) (change : List Edit) → ClearStep mid reached image place change → ClearStep before reached image place change
  clear_step reached image place change step = (step.0, (step.1.0, λ h. step.1.1 (had_as step.0.number h)), step.2)

  happens_after : (came : Option Reply) (number : ℕ) → AreSteady before old → HappensAsking mid session c came number now.told new.told → HappensAsking before session c came number old.told new.told
  happens_after came number steady h = record {
    reached = h.reached;
    reaches = tidied_back (SettleStep (before session)) old.told now.told (tidied steady) (λ image. h.reached ≡ reach_of_command (meaning image) c) (λ image. h.reached ≡ reach_of_command (meaning image) c)
        (λ image i is means next. is ∙ ap (λ s. reach_of_command s c) means) h.reaches;
    settled = h.settled;
    settles = tidied_then (SettleStep (before session)) old.told now.told h.settled (tidied steady) (tidied_weaker (SettleStep (mid session)) (SettleStep (before session)) settle_step now.told h.settled h.settles);
    between = h.between;
    clears = tidied_weaker (ClearStep mid h.reached) (ClearStep before h.reached) (clear_step h.reached) h.settled h.between h.clears;
    none = h.none;
    tries = h.tries;
  }

  -- it is settled, unless memory was short or a store refused
  module _ (came : Came) (settles : (op : Op) → left_of (before session) ≡ Some op → AreSteady before old → (reply_of came ≡ Some reply.Memory → ⊥) → (StoreRoseBy 1 old now → ⊥) → IfContents now.told (IsSettledOp op)) (comes : ComesOfAsking session c came known fresh mid after now new) where
    settles_left : AreSteady before old → IsCopy known old.told → SettlesLeft (before session) (reply_of came) old new
    settles_left steady copy op left memory rose = keeps_settled came comes.becomes (part.steady steady) (part.copy known steady copy) op (settles op left steady memory (λ before_it. rose (rises came comes.becomes before_it)))

    pub comes_after : ComesOfAsking session c came known fresh before after old new
    comes_after = record {
      becomes = becomes_asked came comes.becomes;
      so = record {
        happens = λ steady copy. happens_after (reply_of came) _ steady (comes.so.happens (part.steady steady) (part.copy known steady copy));
        exact = λ steady copy. tidied_back (SettleStep (before session)) old.told now.told (tidied steady) (AsksExactly before session c (reply_of came)) (AsksExactly mid session c (reply_of came))
            (λ image i e means next. exact_as before session c (reply_of came) i image means next (exact_beside mid before same session c (reply_of came) i e)) (comes.so.exact (part.steady steady) (part.copy known steady copy));
        settles = settles_left;
      };
    }

-- so where nothing is left, and nothing happened before
pub comes_later : (session : ℕ) (c : Command) (came : Came) (known fresh : Known) (before after : AllDoing) (old now new : Outside) → before session ≡ Resting None → now.told ≡ old.told → IsLater old now → IsLater now new
    → ComesOfAsking session c came known fresh before after now new → ComesOfAsking session c came known fresh before after old new
comes_later session c came known fresh before after old now new rests same later more comes = comes_after session c known fresh before before after old now new (record { here = rests; others = λ other apart. refl }) (λ t. refl) (becomes_same old now before same)
    (λ steady. tidied_none (SettleStep (before session)) old.told now.told same) later more came (λ op left. absurd (none_some op (sym (ap left_of rests) ∙ left))) comes

-- ---- a session that rests

rests_without : (d : Doing) → IsResting d → without_left d ≡ Resting None
rests_without (Resting left) is = refl
rests_without (Working command left) is = absurd is
rests_without (Operating command op stage) is = absurd is

none_live : (d : Doing) → IsResting d → live_of d ≡ None
none_live (Resting left) is = refl
none_live (Working command left) is = absurd is
none_live (Operating command op stage) is = absurd is

-- it has nothing left from then on, and what is live stays
pub rests_then : (before mid : AllDoing) (session : ℕ) → IsResting (before session) → IsThen before session (without_left (before session)) mid → IsThen before session (Resting None) mid
rests_then before mid session rests then = subst (λ d. IsThen before session d mid) (rests_without (before session) rests) then

pub live_then : (before mid : AllDoing) (session : ℕ) → IsResting (before session) → IsThen before session (without_left (before session)) mid → (t : ℕ) → live_of (mid t) ≡ live_of (before t)
live_then before mid session rests then t = ⊎_elim
    (λ same. subst (λ i. live_of (mid i) ≡ live_of (before i)) same (ap live_of (rests_then before mid session rests then).here ∙ sym (none_live (before session) rests)))
    (λ other. ap live_of (then.others t other))
    (this_or_other before session (without_left (before session)) mid then t)
