use Rattle.std.specs.Result.{is_ok}
use Rattle.world_memory.proofs.Now.{kept_after, within_after, at_after, has_happened, pushed}
use Rattle.world_memory.proofs.world.MemoryWorld.keep.Goals as goal

pub invariant_of-self : goal.invariant_of-self
invariant_of-self c =
    let w = c.args.self.now in
    record {
      spelled = w.spelled;
      distinct = w.distinct;
      few = w.few;
      kept = kept_after w.happened.items c.args.entry (is_ok c.push.result) c.push.new.self.items c.push.ensures.items w.kept c.requires;
      within = within_after w.happened.items c.args.entry (is_ok c.push.result) c.push.new.self.items w.start c.push.ensures.items w.within;
      at = at_after w.happened.items c.args.entry (is_ok c.push.result) c.push.new.self.items w.contents.cells w.contents.done w.contents.part c.push.ensures.items w.at;
      places = w.places;
      sunk = w.sunk;
      counted = w.counted;
    }

pub returns-clause-ok : goal.returns-clause-ok
returns-clause-ok c =
    let w = c.args.self.now in
    has_happened w.locations.items w.happened.items w.failed.items w.start w.sink w.reads w.within c.args.entry c.push.new.self.items (pushed w.happened.items c.args.entry c.push.new.self.items c.push.result c.if-is_err.ensures.value c.push.ensures.items)
