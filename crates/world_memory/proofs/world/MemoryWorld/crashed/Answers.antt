use Rattle.std.proofs.Common.{arith, ℕ, sym, ap, subst, ◌∙◌, ◌≡◌, ◌≤◌, ◌+◌, length, take, IsTrue, List}
use Rattle.std.specs.List.{AllByRecursion, IsDistinct}
use Rattle.std.proofs.lemmas.List.{length-take-le, length-replicate}
use Rattle.cell_world.specs.Images.{image_at}
use Rattle.cell_world.specs.Keys.{same}
use Rattle.cell_world.specs.Texts.{Text, is_location}
use Rattle.cell_world.specs.declared.limits.TheConstants.{MOST_LOCATIONS}
use Rattle.world_memory.specs.Kept.{IsKept}
use Rattle.world_memory.specs.Told.{tells, trail_from}
use Rattle.world_memory.proofs.Trails.{moments, made_anew, crash, kept_take}
use Rattle.world_memory.proofs.world.MemoryWorld.crashed.Goals as goal

pub overflow_add-start : goal.overflow_add-start
overflow_add-start c = let m = moments c.args.self.now.locations.items c.args.self.now.happened.items c.args.self.now.start c.args.self.now.within in omega (arith, m, c.requires, c.args.self.now.happened.small)

pub slice_bounds-happened_copied-end : goal.slice_bounds-happened_copied-end
slice_bounds-happened_copied-end c =
    let m = moments c.args.self.now.locations.items c.args.self.now.happened.items c.args.self.now.start c.args.self.now.within in
    let n : c.args.self.now.start + c.args.moment ≤ length c.deref.result.now = omega (arith, m, c.requires, ap length c.deref.ensures.value) in
    sym (length-take-le (c.args.self.now.start + c.args.moment) c.deref.result.now n)

pub invariant_of-result : goal.invariant_of-result
invariant_of-result c =
    let copied : c.in_ok-happened.happened.items ≡ take (c.args.self.now.start + c.args.moment) c.args.self.now.happened.items = c.in_ok-happened.ensures ∙ ap (take (c.args.self.now.start + c.args.moment)) c.deref.ensures.value in
    let m = moments c.args.self.now.locations.items c.args.self.now.happened.items c.args.self.now.start c.args.self.now.within in
    let n : c.args.self.now.start + c.args.moment ≤ length c.args.self.now.happened.items = omega (arith, m, c.requires) in
    let len = length-take-le (c.args.self.now.start + c.args.moment) c.args.self.now.happened.items n in
    let places : c.in_ok-locations.locations.items ≡ c.args.self.now.locations.items = c.in_ok-locations.ensures.items ∙ c.as_slice.ensures.value in
    let known : c.len.result ≡ length c.args.self.now.locations.items = grind (arith, c.len.ensures, c.args.self.now.locations.ok) in
    record {
      spelled = subst (λ xs. AllByRecursion (λ location. IsTrue (is_location location)) xs) (sym places) c.args.self.now.spelled;
      distinct = subst (IsDistinct same) (sym places) c.args.self.now.distinct;
      few = subst (λ (xs : List Text). length xs ≤ MOST_LOCATIONS) (sym places) c.args.self.now.few;
      kept = subst (AllByRecursion IsKept) (sym copied) (kept_take c.args.self.now.happened.items (c.args.self.now.start + c.args.moment) c.args.self.now.kept);
      within = omega (arith, len, ap length copied);
      at = c.new.ensures _;
      places = ap length c.in_ok-failed.ensures ∙ length-replicate (c.len.result + 1) (let none : ℕ = 0 in none) ∙ ap (λ n. n + 1) (known ∙ ap (λ (xs : List Text). length xs) (sym places));
      sunk = omega arith;
      counted = omega arith;
    }

pub returns-clause-image : goal.returns-clause-image
returns-clause-image c =
    let w = c.args.self.now in
    let copied : c.in_ok-happened.happened.items ≡ take (w.start + c.args.moment) w.happened.items = c.in_ok-happened.ensures ∙ ap (take (w.start + c.args.moment)) c.deref.ensures.value in
    let places : c.in_ok-locations.locations.items ≡ w.locations.items = c.in_ok-locations.ensures.items ∙ c.as_slice.ensures.value in
    (λ i. tells (places i) (trail_from (places i) (copied i) (w.start + c.args.moment)) c.in_ok-failed.failed.items 0 0)
    ∙ made_anew w.locations.items (image_at (trail_from w.locations.items w.happened.items w.start) c.args.moment) _ c.in_ok-failed.failed.items _ (crash w.locations.items w.happened.items w.start c.args.moment) c.in_ok-failed.ensures
