use Rattle.std.proofs.Common.{arith, rules, sym, ◌∙◌, ◌≡◌, Some, None, get_or, ap, false}
use Rattle.std.proofs.lemmas.List.{take_all}
use Rattle.text_scan.specs.Walks.{walk}
use Rattle.text_scan.proofs.Walks.{walk_more, stops, ends_early}
use Rattle.text_scan.proofs.scanning.scan.Goals as goal

pub returns-in-None-clause-err : goal.returns-in-None-clause-err
returns-in-None-clause-err g c =
    let m = g.M.Machine in
    let text = c.args.text.now in
    let none : m.next c.loop-place.state (get_or text c.loop-place.place 0) ≡ None = search rules in
    stops m.next m.is_end (Some m.first) text c.loop-place.place c.loop-place.state (omega arith) c.loop-place.invariant none (g.met.M.Machine.live c.loop-place.state)

pub loop-place-preserved : goal.loop-place-preserved
loop-place-preserved g c =
    let m = g.M.Machine in
    let text = c.args.text.now in
    let some : m.next c.loop-place.state (get_or text c.loop-place.place 0) ≡ Some c.in-Some.after = search rules in
    walk_more m.next (Some m.first) text c.loop-place.place c.loop-place.state (omega arith) c.loop-place.invariant ∙ some

pub returns-else-ends-clause-err : goal.returns-else-ends-clause-err
returns-else-ends-clause-err g c =
    let m = g.M.Machine in
    let text = c.args.text.now in
    let whole : walk m.next (Some m.first) text ≡ Some c.loop-place.state = ap (walk m.next (Some m.first)) (sym (take_all c.loop-place.place text (omega arith))) ∙ c.loop-place.invariant in
    let short : m.is_end c.loop-place.state ≡ false = search rules in
    ends_early m.next m.is_end (Some m.first) text c.loop-place.state whole short (g.met.M.Machine.live c.loop-place.state)
