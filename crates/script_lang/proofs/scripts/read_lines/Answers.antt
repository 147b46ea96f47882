use Rattle.std.proofs.Common.{◌≡◌, ◌==◌, true, length, subst, sym, arith, rules}
use Rattle.std.proofs.lemmas.Bool.{eqb-true}
use Rattle.std.proofs.lemmas.List.{nil_from_length}
use Rattle.script_lang.specs.Scripts.{IsScriptFault}
use Rattle.script_lang.proofs.ScriptLaws.{SoFar, nothing_read, one_line, all_read, stopped}
use Rattle.script_lang.proofs.scripts.read_lines.Goals as goal

pub loop-rest-init : goal.loop-rest-init
loop-rest-init c = record {
  far = subst (λ a. SoFar c.args.program c.args.in_force.now c.args.bytes.now c.args.bytes.now a 1 0) (sym c.new-asked.ensures) (nothing_read c.args.program c.args.in_force.now c.args.bytes.now);
  few = omega arith;
}

pub loop-rest-preserved : goal.loop-rest-preserved
loop-rest-preserved c = record {
  far = one_line _ _ _ _ _ _ _ _ _ _ _ _ c.first_line-line.ensures.first c.in-Ok.ensures.ok c.in-Ok-take_line.ensures c.loop-rest.invariant.far;
  few = omega (arith, c.first_line-line.ensures.shorter, c.loop-rest.invariant.few);
}

pub returns-in-Err-clause-err : goal.returns-in-Err-clause-err
returns-in-Err-clause-err c =
    subst (IsScriptFault c.args.program c.args.in_force.now c.args.bytes.now) (sym c.fault_at.ensures)
    (stopped c.args.program c.args.in_force.now c.args.bytes.now c.loop-rest.rest.now c.first_line-line.result.text.now c.first_line-line.result.behind.now c.loop-rest.asked c.loop-rest.session c.loop-rest.number _ c.first_line-line.ensures.first c.in-Err.ensures.err c.loop-rest.invariant.far)

pub returns-clause-ok : goal.returns-clause-ok
returns-clause-ok c =
    let empty : (length c.loop-rest.rest.now == 0) ≡ true = search rules in
    all_read _ _ _ c.loop-rest.rest.now _ _ _ (nil_from_length c.loop-rest.rest.now (eqb-true (length c.loop-rest.rest.now) 0 empty)) c.loop-rest.invariant.far
