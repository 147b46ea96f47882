-- Which commands are planned, and how.
use Rattle.std.proofs.Common.{◌≡◌, Bool, true, false, ◌&&◌, ◌||◌, not, refl}
use Rattle.std.specs.Prelude.{Result, Ok, Err}
use Rattle.plain_model.specs.declared.commands.Command.{Command}
use Rattle.plain_model.specs.declared.commands.Command.TheVariants as command
use Rattle.plain_model.specs.declared.plans.Plan.{Plan}
use Rattle.plain_model.specs.declared.plans.Plan.TheVariants as plan
use Rattle.plain_model.specs.declared.plans.PlanStop.{PlanStop}
use Rattle.plain_model.specs.declared.plans.PlanStop.TheVariants as stop
use Rattle.plain_model.specs.ShortCommands.{is_short}
use Rattle.map_ops.specs.Planning.{is_adding, is_asked, is_exchange, is_locking, is_long, is_mapping, is_planned_here, is_short_here, IsShortPlan, IsLongPlan, IsPlanOf}

first_of : (a b : Bool) → (a && b) ≡ true → a ≡ true
first_of true b is = refl
first_of false b is = absurd cc

-- what is planned here and adds no mapping is short
pub here_is_short : (c : Command) → is_short_here c ≡ true → is_short c ≡ true
here_is_short c is = first_of (is_short c) (not (is_locking c)) is

pub here_not_adding : (c : Command) → is_planned_here c ≡ true → is_adding c ≡ false → is_short_here c ≡ true
here_not_adding c here none = first (is_short_here c) (is_adding c) here none
  where
    first : (a b : Bool) → (a || b) ≡ true → b ≡ false → a ≡ true
    first true b is none = refl
    first false b is none = cc

-- what adds a mapping is long, and so is what exchanges mappings that stand
pub adding_is_long : (c : Command) → is_adding c ≡ true → is_long c ≡ true
adding_is_long c is = first (is_adding c) (is_exchange c) is
  where
    first : (a b : Bool) → a ≡ true → (a || b) ≡ true
    first true b is = refl
    first false b is = absurd cc

pub exchange_is_long : (c : Command) → is_exchange c ≡ true → is_long c ≡ true
exchange_is_long c is = second (is_adding c) (is_exchange c) is
  where
    second : (a b : Bool) → b ≡ true → (a || b) ≡ true
    second true b is = refl
    second false b is = is

-- `lock` and `unlock` are short
pub locking_is_short : (c : Command) → is_locking c ≡ true → is_short c ≡ true
locking_is_short (command.Lock name key token) is = refl
locking_is_short (command.Unlock name key token) is = refl
locking_is_short other is = absurd cc

-- what may be asked and is of no mapping that stands is planned here
pub asked_here : (c : Command) → is_asked c ≡ true → is_mapping c ≡ false → is_planned_here c ≡ true
asked_here c asked none = by (is_short c) (is_locking c) (is_adding c) (is_exchange c) asked none
  where
    by : (s l a e : Bool) → (s || (a || e)) ≡ true → (l || e) ≡ false → ((s && not l) || a) ≡ true
    by true true a e asked none = absurd cc
    by true false true e asked none = refl
    by true false false e asked none = refl
    by false true a e asked none = absurd cc
    by false false true e asked none = refl
    by false false false true asked none = absurd cc
    by false false false false asked none = absurd cc

-- and of those on a mapping that stands the ones that don't lock it exchange it
pub mapping_is_exchange : (c : Command) → is_mapping c ≡ true → is_locking c ≡ false → is_exchange c ≡ true
mapping_is_exchange c is none = by (is_locking c) (is_exchange c) is none
  where
    by : (l e : Bool) → (l || e) ≡ true → l ≡ false → e ≡ true
    by true e is none = absurd cc
    by false e is none = is

-- a short command may be asked, and so may a long one
pub short_is_asked : (c : Command) → is_short c ≡ true → is_asked c ≡ true
short_is_asked c is = first (is_short c) (is_long c) is
  where
    first : (a b : Bool) → a ≡ true → (a || b) ≡ true
    first true b is = refl
    first false b is = absurd cc

pub long_is_asked : (c : Command) → is_long c ≡ true → is_asked c ≡ true
long_is_asked c is = second (is_short c) (is_long c) is
  where
    second : (a b : Bool) → b ≡ true → (a || b) ≡ true
    second true b is = refl
    second false b is = is

-- what may be asked and isn't long is short
pub asked_is_short : (c : Command) → is_asked c ≡ true → is_long c ≡ false → is_short c ≡ true
asked_is_short c asked none = first (is_short c) (is_long c) asked none
  where
    first : (a b : Bool) → (a || b) ≡ true → b ≡ false → a ≡ true
    first true b is none = refl
    first false b is none = cc

-- no command is both
pub never_both : (c : Command) → is_short c ≡ true → is_long c ≡ true → ⊥
never_both (command.Add name low high location) short long = cc
never_both (command.Addpoint name key location) short long = cc
never_both (command.Delete name key token) short long = cc
never_both (command.Offline name key token) short long = cc
never_both (command.Online name key token) short long = cc
never_both (command.Move name key location token) short long = cc
never_both (command.Split name key token) short long = cc
never_both (command.Merge name key token) short long = cc
never_both other short long = cc

-- ---- the plan of a short command, and of a long one

pub of_short : (c : Command) → is_short c ≡ true → (result : Result Plan PlanStop) → IsShortPlan result → IsPlanOf c result
of_short c is (Ok (plan.Short reached change r)) short = (is, short)
of_short c is (Ok (plan.Answer r)) short = (is, short)
of_short c is (Ok (plan.Long op)) short = absurd short
of_short c is (Err (stop.Refused r)) short = short
of_short c is (Err stop.Store) short = tt
of_short c is (Err stop.Memory) short = tt

pub of_long : (c : Command) → is_long c ≡ true → (result : Result Plan PlanStop) → IsLongPlan result → IsPlanOf c result
of_long c is (Ok (plan.Short reached change r)) long = absurd long
of_long c is (Ok (plan.Answer r)) long = absurd long
of_long c is (Ok (plan.Long op)) long = (is, long)
of_long c is (Err (stop.Refused r)) long = long
of_long c is (Err stop.Store) long = tt
of_long c is (Err stop.Memory) long = tt

-- The plan of a short command is a short one.
pub short_plan : (c : Command) → is_short c ≡ true → (result : Result Plan PlanStop) → IsPlanOf c result → IsShortPlan result
short_plan c is (Ok (plan.Short reached change r)) of = of.1
short_plan c is (Ok (plan.Answer r)) of = of.1
short_plan c is (Ok (plan.Long op)) of = never_both c is of.0
short_plan c is (Err (stop.Refused r)) of = of
short_plan c is (Err stop.Store) of = tt
short_plan c is (Err stop.Memory) of = tt

-- and that of a long command a long one
pub long_plan : (c : Command) → is_long c ≡ true → (result : Result Plan PlanStop) → IsPlanOf c result → IsLongPlan result
long_plan c is (Ok (plan.Short reached change r)) of = never_both c of.0 is
long_plan c is (Ok (plan.Answer r)) of = never_both c of.0 is
long_plan c is (Ok (plan.Long op)) of = of.1
long_plan c is (Err (stop.Refused r)) of = of
long_plan c is (Err stop.Store) of = tt
long_plan c is (Err stop.Memory) of = tt
