use Rattle.std.proofs.Common.{◌≡◌, ◌++◌, ◌∷◌, [], arith, sym, subst, true}
use Rattle.world_memory.proofs.Scanned.{IsScanning, scan_begins, scan_more, scan_full}
use Rattle.world_memory.proofs.find.scan.Goals as goal

pub loop-alloc-init : goal.loop-alloc-init
loop-alloc-init c stores holds keyed = subst (IsScanning (stores c.args.site.0) c.args.from.now c.args.limit c.args.from.now _) (sym c.new-found.ensures.items) (scan_begins (stores c.args.site.0) c.args.from.now c.args.limit)

pub loop-alloc-preserved : goal.loop-alloc-preserved
loop-alloc-preserved c stores holds keyed =
    let pushed : c.push.new.self.items ≡ c.loop-alloc.found.items ++ c.in-Some.cell.now ∷ [] = grind (arith, c.push.ensures.items, c.is_err.ensures.negation, c.if-is_err.false, c.in_ok-cell_copied.ensures) in
    let more = scan_more (stores c.args.site.0) c.args.from.now c.args.limit c.loop-alloc.at c.loop-alloc.past c.loop-alloc.found.items (c.loop-alloc.invariant stores holds keyed) c.in-Some.cell.now (grind (arith, c.len.ensures, c.loop-alloc-test.true, c.loop-alloc.found.ok)) (c.in-Some.ensures stores holds keyed) in
    subst (λ k. IsScanning (stores c.args.site.0) c.args.from.now c.args.limit k true c.push.new.self.items) (sym c.key_of-at.ensures)
    (subst (IsScanning (stores c.args.site.0) c.args.from.now c.args.limit _ true) (sym pushed) more)

pub returns : goal.returns
returns c stores holds keyed = scan_full (stores c.args.site.0) c.args.from.now c.args.limit c.loop-alloc.at c.loop-alloc.past c.loop-alloc.found.items (c.loop-alloc.invariant stores holds keyed) (grind (arith, c.len.ensures, c.loop-alloc-test.false, c.loop-alloc.found.ok))
