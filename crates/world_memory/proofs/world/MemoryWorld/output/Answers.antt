use Rattle.std.proofs.Common.{◌≡◌, ◌++◌, ◌-◌, List, length, length-drop, take, drop, arith, ap, sym, ◌∙◌}
use Rattle.std.proofs.lemmas.List.{take_all}
use Rattle.world_memory.specs.declared.contents.Made.{Made}
use Rattle.world_memory.specs.Told.{wrote, begins}
use Rattle.world_memory.proofs.Trails.{wrote_more, all_written}
use Rattle.world_memory.proofs.world.MemoryWorld.output.Goals as goal

pub loop-entry-preserved : goal.loop-entry-preserved
loop-entry-preserved c =
    let hs : List Made = take (length c.deref.result.now - c.args.self.now.start) (drop c.args.self.now.start c.deref.result.now) in
    let more = wrote_more hs c.loop-entry.entry-index c.entry-item.result c.loop-entry-test.true c.entry-item.is in
    let joined : c.extend_from_slice.new.self.items ≡ c.loop-entry.bytes.items ++ c.bytes_of.result.now = grind (arith, c.extend_from_slice.ensures.items, c.is_err.ensures.negation, c.if-is_err.false) in
    joined ∙ ap (λ r. r ++ c.bytes_of.result.now) c.loop-entry.invariant ∙ ap (λ r. wrote (take c.loop-entry.entry-index hs) ++ r) c.bytes_of.ensures ∙ sym more

pub returns : goal.returns
returns c =
    let hs : List Made = take (length c.deref.result.now - c.args.self.now.start) (drop c.args.self.now.start c.deref.result.now) in
    let whole : take c.loop-entry.entry-index hs ≡ drop c.args.self.now.start c.args.self.now.happened.items =
    take_all c.loop-entry.entry-index hs c.loop-entry-test.false ∙ take_all _ (drop c.args.self.now.start c.deref.result.now) (omega (arith, length-drop c.args.self.now.start c.deref.result.now)) ∙ ap (drop c.args.self.now.start) c.deref.ensures.value in
    c.loop-entry.invariant ∙ ap wrote whole ∙ sym (all_written c.args.self.now.locations.items (begins c.args.self.now.locations.items c.args.self.now.happened.items c.args.self.now.start) (drop c.args.self.now.start c.args.self.now.happened.items))
