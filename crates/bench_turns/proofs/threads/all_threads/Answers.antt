use Rattle.std.proofs.Common.{◌≡◌, ℕ, ◌<◌, length, slice_index_or, sym, subst, arith}
use Rattle.turnstile.specs.States.{IsIdle}
use Rattle.turnstile.proofs.Places.{each_at, each_of}
use Rattle.bench_turns.proofs.threads.all_threads.Goals as goal

pub for_each_mut-requires-clause-accepts : goal.for_each_mut-requires-clause-accepts
for_each_mut-requires-clause-accepts g c κs within i p below is =
    let z = c.args.turnstile.now.table in
    subst (λ q. IsIdle z i q) (sym is) (each_at (IsIdle z) 0 _ i i p.now below (omega arith) c.requires.each)

pub returns : goal.returns
returns g c = record {
  each = each_of _ 0 _ (λ i k d b e.
      let z = c.args.turnstile.now.table in
      let below : i < length c.args.passes.now = omega arith in
      let h = (c.for_each_mut.ensures i d below).1 in
      let t : IsIdle z i h.after_call.now = h.call in
      let same : i ≡ k = omega arith in
      subst (λ (j : ℕ). IsIdle z j (slice_index_or c.for_each_mut.new.s i d)) same (subst (λ q. IsIdle z i q) h.left t));
}
