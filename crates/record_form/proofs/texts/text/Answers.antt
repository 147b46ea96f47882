use Rattle.std.proofs.Common.{rules, arith, ◌≡◌, ◌-◌, get_or, Some, None, ◌∙◌, refl}
use Rattle.std.proofs.lemmas.List.{append-nil}
use Rattle.record_form.proofs.Loops.{goes_on, stops_at, ends_at, is_done}
use Rattle.record_form.proofs.texts.text.Goals as goal

pub returns-then-i-bytes : goal.returns-then-i-bytes
returns-then-i-bytes g c = ends_at g.S.Steps.next c.args.len c.loop-i.i c.loop-i.state c.args.input.now.now _ (omega arith) (omega arith) c.loop-i.invariant.read

pub returns-in-None : goal.returns-in-None
returns-in-None g c =
    let none : g.S.Steps.next (c.args.len - 1 - c.loop-i.i) c.loop-i.state (get_or c.args.input.now.now c.loop-i.i 0) ≡ None = search rules in
    stops_at g.S.Steps.next c.args.len c.loop-i.i c.loop-i.state c.args.input.now.now _ (omega arith) (omega arith) none c.loop-i.invariant.read

pub loop-i-preserved : goal.loop-i-preserved
loop-i-preserved g c =
    let some : g.S.Steps.next (c.args.len - 1 - c.loop-i.i) c.loop-i.state (get_or c.args.input.now.now c.loop-i.i 0) ≡ Some c.in-Some.after = search rules in
    record { within = omega arith; read = goes_on g.S.Steps.next c.args.len c.loop-i.i c.loop-i.state c.in-Some.after c.args.input.now.now _ (omega arith) (omega arith) some c.loop-i.invariant.read }

pub returns : goal.returns
returns g c =
    is_done g.S.Steps.next c.args.len c.loop-i.i c.loop-i.state c.args.input.now.now _ (omega arith) c.loop-i.invariant.read ∙ rw (append-nil, c.split_at.ensures.front, c.split_at.ensures.back) refl
