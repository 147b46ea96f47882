use Rattle.std.proofs.Common.{◌≡◌, ◌++◌, length, take, drop, arith}
use Rattle.turnstile.proofs.Places.{new_are_idle, lent_back}
use Rattle.bench_turns.proofs.threads.run.Goals as goal

pub all_threads-requires-clause-each : goal.all_threads-requires-clause-each
all_threads-requires-clause-each g c κs within = rw c.as_mut_slice.ensures.value (new_are_idle _ _ 0 _ c.in-Ok.ensures.each)

pub close-requires-clause-each : goal.close-requires-clause-each
close-requires-clause-each g c =
    let back : take c.in-Ok.passes.len (c.all_threads.new.passes ++ drop (length c.all_threads.new.passes) c.in-Ok.passes.items) ≡ c.all_threads.new.passes = lent_back _ _ _ (omega arith) in
    rw back c.all_threads.ensures.each
