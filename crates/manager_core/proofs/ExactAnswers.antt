-- What a command that is asked is answered on an image.
use Rattle.std.proofs.Common.{◌≡◌, ⊎_elim, inl, inr, ℕ, true, refl, sym, ap, ◌∙◌, subst, Some, None, Option, arith}
use Rattle.cell_world.specs.Images.{Image}
use Rattle.cell_world.specs.Plain.{PlainState, nobody, with_connections}
use Rattle.cell_world.specs.Meaning.{meaning, next_operation}
use Rattle.cell_world.specs.declared.operations.Reach.{Reach}
use Rattle.map_ops.specs.Planning.{is_long}
use Rattle.plain_model.specs.ShortCommands.{is_short, is_short_answer, standing_with}
use Rattle.map_ops.proofs.PlannedLaws.{never_both}
use Rattle.plain_model.specs.declared.commands.Command.{Command}
use Rattle.plain_model.specs.declared.replies.Reply.{Reply}
use Rattle.plain_model.specs.declared.replies.Reply.TheVariants as reply
use Rattle.plain_model.specs.declared.replies.Refusal.{Refusal}
use Rattle.plain_model.specs.declared.replies.Refusal.TheVariants as refused
use Rattle.plain_model.specs.OnTrail.{reach_of_command}
use Rattle.plain_model.specs.Refusing.{refusal}
use Rattle.session_laws.specs.Doing.{AllDoing, live_of}
use Rattle.manager_core.specs.Coming.{AsksExactly, IsAdmitted, IsFull, IsFirstInWay, IsInWay}

none_some : {A : Type 0} (a : A) → None ≡ Some a → ⊥
none_some a is = cc

some_is : {A : Type 0} (a b : A) → Some a ≡ Some b → a ≡ b
some_is a b is = cc

refused_is : (x y : Refusal) → Some (reply.Refused x) ≡ Some (reply.Refused y) → x ≡ y
refused_is x y is = cc

pending_is : (n m : ℕ) → Some (reply.Pending n) ≡ Some (reply.Pending m) → n ≡ m
pending_is n m is = cc

-- an answer is no refusal, and not `pending`
no_refusal : (r : Reply) (x : Refusal) → is_short_answer r ≡ true → Some r ≡ Some (reply.Refused x) → ⊥
no_refusal r x answer is = let other : is_short_answer (reply.Refused x) ≡ true = subst (λ s. is_short_answer s ≡ true) (some_is r (reply.Refused x) is) answer in cc

no_pending : (r : Reply) (n : ℕ) → is_short_answer r ≡ true → Some r ≡ Some (reply.Pending n) → ⊥
no_pending r n answer is = let other : is_short_answer (reply.Pending n) ≡ true = subst (λ s. is_short_answer s ≡ true) (some_is r (reply.Pending n) is) answer in cc

module _ (doing : AllDoing) (session : ℕ) (c : Command) (image : Image) where
  -- no live operation of a session is in the way
  abbrev pub WayIsFree : Type 0
  WayIsFree = (number : ℕ) → IsInWay doing (reach_of_command (meaning image) c) number → ⊥

  -- a store failed, or memory was short
  pub exact_fault : AsksExactly doing session c (Some reply.Fault) image
  exact_fault = record {
    refused = λ x is. absurd cc;
    refuses = λ x is. inr (inl refl);
    full = λ f. inr (inl refl);
    pending = λ number is. absurd cc;
    waits = λ number a f. inr (inl refl);
    going = λ is. absurd cc;
    long = λ l is. cc;
  }

  pub exact_memory : AsksExactly doing session c (Some reply.Memory) image
  exact_memory = record {
    refused = λ x is. absurd cc;
    refuses = λ x is. inr (inr refl);
    full = λ f. inr (inr refl);
    pending = λ number is. absurd cc;
    waits = λ number a f. inr (inr refl);
    going = λ is. absurd cc;
    long = λ l is. cc;
  }

  -- it is refused
  pub exact_refused : (x : Refusal) → refusal (standing_with image nobody) session c ≡ Some x → AsksExactly doing session c (Some (reply.Refused x)) image
  exact_refused x is = record {
    refused = λ y same. inl (is ∙ ap Some (refused_is x y same));
    refuses = λ y other. inl (ap (λ z. Some (reply.Refused z)) (some_is x y (sym is ∙ other)));
    full = λ f. absurd (none_some x (sym f.accepted ∙ is));
    pending = λ number same. absurd cc;
    waits = λ number a f. absurd (none_some x (sym a.accepted ∙ is));
    going = λ same. absurd cc;
    long = λ l same. cc;
  }

  -- no number is left
  pub exact_full : IsFull session c image → AsksExactly doing session c (Some (reply.Refused refused.Full)) image
  exact_full full = record {
    refused = λ y same. inr (sym (refused_is refused.Full y same), full);
    refuses = λ y other. absurd (none_some y (sym full.accepted ∙ other));
    full = λ f. inl refl;
    pending = λ number same. absurd cc;
    waits = λ number a f. absurd (a.number full.long full.last);
    going = λ same. absurd cc;
    long = λ l same. cc;
  }

  -- a live operation is in its way
  pub exact_pending : (number : ℕ) → IsAdmitted session c image → IsFirstInWay doing (reach_of_command (meaning image) c) number → AsksExactly doing session c (Some (reply.Pending number)) image
  exact_pending number admitted first = record {
    refused = λ y same. absurd cc;
    refuses = λ y other. absurd (none_some y (sym admitted.accepted ∙ other));
    full = λ f. absurd (admitted.number f.long f.last);
    pending = λ n same. subst (λ m. IsAdmitted session c image × IsFirstInWay doing (reach_of_command (meaning image) c) m) (pending_is number n same) (admitted, first);
    waits = λ n a other. inl (ap (λ m. Some (reply.Pending m)) (let one = first.least n other.in_way in let two = other.least number first.in_way in omega (arith, one, two)));
    going = λ same. absurd cc;
    long = λ l same. cc;
  }

  -- it is done, and none is
  pub exact_answer : (r : Reply) → is_short_answer r ≡ true → is_short c ≡ true → refusal (standing_with image nobody) session c ≡ None → WayIsFree → AsksExactly doing session c (Some r) image
  exact_answer r answer planned accepted free = record {
    refused = λ y same. absurd (no_refusal r y answer same);
    refuses = λ y other. absurd (none_some y (sym accepted ∙ other));
    full = λ f. absurd (never_both c planned f.long);
    pending = λ n same. absurd (no_pending r n answer same);
    waits = λ n a first. absurd (free n first.in_way);
    going = λ same. absurd cc;
    long = λ l same. never_both c planned l;
  }

  -- its operation has begun
  pub exact_going : is_long c ≡ true → IsAdmitted session c image → WayIsFree → AsksExactly doing session c None image
  exact_going long admitted free = record {
    refused = λ y same. absurd cc;
    refuses = λ y other. absurd (none_some y (sym admitted.accepted ∙ other));
    full = λ f. absurd (admitted.number f.long f.last);
    pending = λ n same. absurd cc;
    waits = λ n a first. absurd (free n first.in_way);
    going = λ same. long;
    long = λ l same. cc;
  }

-- ---- on an image that stands for the same

module _ (session : ℕ) (c : Command) (i j : Image) (means : meaning i ≡ meaning j) (next : next_operation i ≡ next_operation j) where
  same_refusal : refusal (standing_with i nobody) session c ≡ refusal (standing_with j nobody) session c
  same_refusal = ap (λ (s : PlainState). refusal (with_connections s nobody) session c) means

  admitted_as : IsAdmitted session c i → IsAdmitted session c j
  admitted_as a = record { accepted = sym same_refusal ∙ a.accepted; number = λ long last. a.number long (next ∙ last) }

  full_as : IsFull session c i → IsFull session c j
  full_as f = record { long = f.long; accepted = sym same_refusal ∙ f.accepted; last = sym next ∙ f.last }

pub exact_as : (doing : AllDoing) (session : ℕ) (c : Command) (came : Option Reply) (i j : Image) → meaning i ≡ meaning j → next_operation i ≡ next_operation j → AsksExactly doing session c came i → AsksExactly doing session c came j
exact_as doing session c came i j means next e = record {
  refused = λ x is. ⊎_elim (λ r. inl (sym (same_refusal session c i j means next) ∙ r)) (λ f. inr (f.0, full_as session c i j means next f.1)) (e.refused x is);
  refuses = λ x is. e.refuses x (same_refusal session c i j means next ∙ is);
  full = λ f. e.full (full_as session c j i (sym means) (sym next) f);
  pending = λ number is. let p = e.pending number is in (admitted_as session c i j means next p.0, subst (λ s. IsFirstInWay doing (reach_of_command s c) number) means p.1);
  waits = λ number a first. e.waits number (admitted_as session c j i (sym means) (sym next) a) (subst (λ s. IsFirstInWay doing (reach_of_command s c) number) (sym means) first);
  going = e.going;
  long = e.long;
}

-- ---- beside sessions that have the same live

module _ (mid before : AllDoing) (same : (t : ℕ) → live_of (mid t) ≡ live_of (before t)) (reached : Reach) where
  in_way_as : (number : ℕ) → IsInWay mid reached number → IsInWay before reached number
  in_way_as number w = record { session = w.session; live = w.live; here = sym (same w.session) ∙ w.here; named = w.named; conflict = w.conflict }

first_as : (mid before : AllDoing) → ((t : ℕ) → live_of (mid t) ≡ live_of (before t)) → (reached : Reach) (number : ℕ) → IsFirstInWay mid reached number → IsFirstInWay before reached number
first_as mid before same reached number first = record {
  in_way = in_way_as mid before same reached number first.in_way;
  least = λ other w. first.least other (in_way_as before mid (λ t. sym (same t)) reached other w);
}

pub exact_beside : (mid before : AllDoing) → ((t : ℕ) → live_of (mid t) ≡ live_of (before t)) → (session : ℕ) (c : Command) (came : Option Reply) (image : Image) → AsksExactly mid session c came image → AsksExactly before session c came image
exact_beside mid before same session c came image e = record {
  refused = e.refused;
  refuses = e.refuses;
  full = e.full;
  pending = λ number is. let p = e.pending number is in (p.0, first_as mid before same (reach_of_command (meaning image) c) number p.1);
  waits = λ number a first. e.waits number a (first_as before mid (λ t. sym (same t)) (reach_of_command (meaning image) c) number first);
  going = e.going;
  long = e.long;
}
