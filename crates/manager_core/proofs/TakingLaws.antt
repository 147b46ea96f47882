-- What the taking up of a planned operation comes to, as the calls answer it.
use Rattle.std.proofs.Common.{◌≡◌, inl, ℕ, ◌<◌, ◌≤◌, ◌^◌, refl, sym, subst, List}
use Rattle.std.specs.Prelude.{Result, Ok, Err}
use Rattle.cell_world.specs.Images.{global}
use Rattle.cell_world.specs.Meaning.{next_operation, counters_of}
use Rattle.cell_world.specs.declared.cells.Counters.{Counters}
use Rattle.cell_world.specs.Outside.{Outside, Told, IfContents}
use Rattle.cell_world.specs.Sound.{Sound}
use Rattle.cell_world.specs.declared.operations.Op.{Op}
use Rattle.cell_world.proofs.ContentsLaws.{contents_all, contents_both, contents_weaker}
use Rattle.global_tables.specs.Known.{Known}
use Rattle.map_ops.specs.Planning.{PlansLong}
use Rattle.plain_model.specs.declared.commands.Command.{Command}
use Rattle.plain_model.specs.declared.replies.Reply.{Reply}
use Rattle.plain_model.specs.declared.replies.Reply.TheVariants as reply
use Rattle.plain_model.specs.declared.replies.Refusal.TheVariants as refused
use Rattle.op_steps.specs.Beginning.{Begins, SaysBegun}
use Rattle.op_steps.specs.Passing.{Passes}
use Rattle.op_steps.specs.declared.beginning.BeginFault.TheVariants as begin
use Rattle.op_steps.specs.declared.beginning.BeginFault.{BeginFault}
use Rattle.op_steps.specs.declared.beginning.Begun.{Begun}
use Rattle.op_steps.specs.declared.beginning.Begun.TheVariants.{Going, Pending}
use Rattle.session_laws.specs.Doing.{AllDoing}
use Rattle.operation_laws.proofs.Reaches.{asks_none}
use Rattle.manager_core.specs.Beginnings.{Takes, TakesUp, TakesUpBelow, IsFullAt, taken_of}
use Rattle.manager_core.specs.declared.beginning.Taken.{Taken}
use Rattle.manager_core.specs.declared.beginning.Taken.TheVariants as taken
use Rattle.manager_core.specs.Steady.{IsSteady, Ends}
use Rattle.manager_core.proofs.BeginningLaws.{full_ends, going_becomes, memory_ends_before, pending_ends, store_ends, tried_ends}
use Rattle.manager_core.proofs.ExactTaking.{exact_going, exact_later, exact_pending, exact_quiet, exact_same, exact_tried, names_pending}
use Rattle.manager_core.proofs.MovingLaws.{ends_after}
use Rattle.manager_core.proofs.NobodyEnds.{long_is_one}
use Rattle.manager_core.proofs.QuietEnds.{FitsAt, quiet_ends, fault_fits, memory_fits}
use Rattle.manager_core.proofs.Steadiness.{becomes_same, becomes_then}

-- ---- as the calls answer it

module _ (live : List ℕ) (op : Op) (old new : Outside) where
  pub takes_below : (result : Result Begun BeginFault) → Passes (Begins live op result) old new → SaysBegun live op result → (to : Taken) → to ≡ taken_of result → TakesUpBelow live op to old new
  takes_below (Ok (Going made stage)) passes says to is below = subst (λ t. TakesUp live op t old new) (sym is) (record {
    takes = λ session c before left long are rests plans. (
      says,
      λ next then. going_becomes session c long before left rests live are op old new (contents_both old.told (λ image. Sound image → PlansLong c op image) (λ image. next_operation image < 2 ^ 63) plans below) made stage passes next then,
    );
    exact = λ c before are steady plans. exact_going live op before are c old new steady (contents_both old.told (λ image. Sound image → PlansLong c op image) (λ image. next_operation image < 2 ^ 63) plans below) made stage passes;
    names = tt;
    begins = says;
    full = below;
  })
  takes_below (Ok (Pending other)) passes says to is below = subst (λ t. TakesUp live op t old new) (sym is) (record {
    takes = λ session c before left long are rests plans known. pending_ends session c long before left rests live are op old new plans other passes known;
    exact = λ c before are steady plans. exact_pending live op before old new steady other passes are;
    names = names_pending live op other says;
    begins = tt;
    full = below;
  })
  takes_below (Err (begin.Tried number)) passes says to is below = subst (λ t. TakesUp live op t old new) (sym is) (record {
    takes = λ session c before left long are rests plans known. tried_ends session c long before left rests live are op old new
        (contents_both old.told (λ image. Sound image → PlansLong c op image) (λ image. next_operation image < 2 ^ 63) plans below) number passes known;
    exact = λ c before are steady plans. exact_tried live op before are c old new steady (contents_both old.told (λ image. Sound image → PlansLong c op image) (λ image. next_operation image < 2 ^ 63) plans below) number passes;
    names = tt;
    begins = tt;
    full = below;
  })
  takes_below (Err begin.Store) passes says to is below = subst (λ t. TakesUp live op t old new) (sym is) (record {
    takes = λ session c before left long are rests plans known. store_ends session c long before left rests live are op old new known passes;
    exact = λ c before are steady plans. exact_quiet live op before are old new taken.Store (inl (refl, inl refl)) tt tt steady passes;
    names = tt;
    begins = tt;
    full = contents_all old.told (λ image. Unit {0}) (λ image. tt);
  })
  takes_below (Err begin.Memory) passes says to is below = subst (λ t. TakesUp live op t old new) (sym is) (record {
    takes = λ session c before left long are rests plans known. memory_ends_before session c long before left rests live are op old new known passes;
    exact = λ c before are steady plans. exact_quiet live op before are old new taken.Memory (refl, refl) tt tt steady passes;
    names = tt;
    begins = tt;
    full = contents_all old.told (λ image. Unit {0}) (λ image. tt);
  })

  -- where nothing happened
  module _ (same : new.told ≡ old.told) where
    pub full_takes : (next : Counters) → IfContents old.told (λ image. next ≡ counters_of (global image).counter) → 2 ^ 63 ≤ next.operation → TakesUp live op taken.Full old new
    full_takes next found spent = record {
      takes = λ session c before left long are rests plans known. full_ends session c long before left rests live are op old new known same
          (contents_both old.told (λ image. Sound image → PlansLong c op image) (λ image. 2 ^ 63 ≤ next_operation image) plans at_last);
      exact = λ c before are steady plans. exact_same op before old new taken.Full (refl, refl) tt same same;
      names = tt;
      begins = tt;
      full = at_last;
    }
      where
        at_last : IfContents old.told (λ image. 2 ^ 63 ≤ next_operation image)
        at_last = contents_weaker old.told (λ image. next ≡ counters_of (global image).counter) (λ image. 2 ^ 63 ≤ next_operation image) (λ image is. subst (λ (n : Counters). 2 ^ 63 ≤ n.operation) is spent) found

    pub store_takes : TakesUp live op taken.Store old new
    store_takes = record {
      takes = λ session c before left long are rests plans known. quiet_ends session c (asks_none c (long_is_one c long)) reply.Fault refl before left rests old new same
          (contents_all old.told (λ image. IsSteady before image → FitsAt session c reply.Fault image) (λ image s. fault_fits session c long image)) known;
      exact = λ c before are steady plans. exact_same op before old new taken.Store (inl (refl, inl refl)) tt tt same;
      names = tt;
      begins = tt;
      full = contents_all old.told (λ image. Unit {0}) (λ image. tt);
    }

    pub memory_takes : TakesUp live op taken.Memory old new
    memory_takes = record {
      takes = λ session c before left long are rests plans known. quiet_ends session c (asks_none c (long_is_one c long)) reply.Memory refl before left rests old new same
          (contents_all old.told (λ image. IsSteady before image → FitsAt session c reply.Memory image) (λ image s. memory_fits session c long image)) known;
      exact = λ c before are steady plans. exact_same op before old new taken.Memory (refl, refl) tt tt same;
      names = tt;
      begins = tt;
      full = contents_all old.told (λ image. Unit {0}) (λ image. tt);
    }

-- and where nothing happened before
module _ (live : List ℕ) (op : Op) (old mid new : Outside) (same : mid.told ≡ old.told) where
  ends_later : (session : ℕ) (c : Command) (r : Reply) (number : ℕ) (before : AllDoing) (known : Known) → Ends session c r number known known mid new before before → Ends session c r number known known old new before before
  ends_later session c r number before known = ends_after session c r number known known old mid new before before before (becomes_same old mid before same)

  by : (session : ℕ) (c : Command) (before : AllDoing) (result : Taken) → Takes session c op before result mid new → Takes session c op before result old new
  by session c before (taken.Going made stage) t = (t.0, λ next then. becomes_then old mid new before before next (becomes_same old mid before same) (t.1 next then))
  by session c before taken.Full t = λ known. ends_later session c (reply.Refused refused.Full) 0 before known (t known)
  by session c before (taken.Pending number) t = λ known. ends_later session c (reply.Pending number) 0 before known (t known)
  by session c before (taken.Tried number) t = λ known. ends_later session c reply.Fault number before known (t known)
  by session c before taken.Store t = λ known. ends_later session c reply.Fault 0 before known (t known)
  by session c before taken.Memory t = λ known. ends_later session c reply.Memory 0 before known (t known)

  pub takes_later : (result : Taken) → TakesUp live op result mid new → TakesUp live op result old new
  takes_later result t = record {
    takes = λ session c before left long are rests plans. by session c before result (t.takes session c before left long are rests (subst (λ x. IfContents x (λ image. Sound image → PlansLong c op image)) (sym same) plans));
    exact = λ c before are steady plans. exact_later op before old mid new same result (t.exact c before are (subst (λ x. IfContents x (IsSteady before)) (sym same) steady) (subst (λ x. IfContents x (λ image. Sound image → PlansLong c op image)) (sym same) plans));
    names = t.names;
    begins = t.begins;
    full = subst (λ x. IfContents x (IsFullAt result)) same t.full;
  }

-- a number is left
pub below_at : (told later : Told) → later ≡ told → (next : Counters) → IfContents told (λ image. next ≡ counters_of (global image).counter) → next.operation < 2 ^ 63 → IfContents later (λ image. next_operation image < 2 ^ 63)
below_at told later same next found less = subst (λ t. IfContents t (λ image. next_operation image < 2 ^ 63)) (sym same)
    (contents_weaker told (λ image. next ≡ counters_of (global image).counter) (λ image. next_operation image < 2 ^ 63) (λ image is. subst (λ (n : Counters). n.operation < 2 ^ 63) is less) found)
