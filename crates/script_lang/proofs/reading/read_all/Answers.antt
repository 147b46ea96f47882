use Rattle.std.proofs.Common.{rules, arith, sym, ◌∙◌, ap, length}
use Rattle.std.proofs.lemmas.Grind.{common_steps}
use Rattle.script_lang.specs.Sources.{script_limit}
use Rattle.script_lang.proofs.SourceLaws.{taken_none, taken_all, nothing_left, taken_more, taken_long, extended}
use Rattle.script_lang.proofs.reading.read_all.Goals as goal

pub loop-bytes-init : goal.loop-bytes-init
loop-bytes-init g c = record {
  taken = taken_none _ _ c.new-bytes.ensures.items;
  short = omega (arith, c.new-bytes.ensures.len);
  buffer = search rules;
  falls = omega arith;
}

pub returns-in-Ok-eq0-clause-all : goal.returns-in-Ok-eq0-clause-all
returns-in-Ok-eq0-clause-all g c = taken_all _ _ _ _ _ _ (search rules) c.loop-bytes.invariant.taken c.in-Ok-eq0.ensures.taken

pub returns-in-Ok-eq0-clause-drained : goal.returns-in-Ok-eq0-clause-drained
returns-in-Ok-eq0-clause-drained g c = nothing_left _ _ _ _ _ _ (search rules) c.loop-bytes.invariant.taken c.in-Ok-eq0.ensures.taken

pub returns-then-taken-len-clause-long : goal.returns-then-taken-len-clause-long
returns-then-taken-len-clause-long g c = λ _. taken_long _ _ _ _ _ c.in-Ok-take.taken script_limit c.loop-bytes.invariant.taken c.in-Ok-take.ensures.taken (omega (arith, c.in-Ok-take.ensures.fits, c.take.auto.into)) (omega (arith, c.if-taken-len.true, c.len.ensures, c.loop-bytes.bytes.ok.0)) (omega (arith, c.loop-bytes.invariant.short, c.loop-bytes.bytes.ok.0))

pub loop-bytes-preserved : goal.loop-bytes-preserved
loop-bytes-preserved g c = record {
  taken = taken_more _ _ _ _ _ _ c.in-Ok-take.taken c.loop-bytes.invariant.taken c.in-Ok-take.ensures.taken (extended _ _ _ _ _ _ c.in-Ok-take.taken c.extend_from_slice.result c.extend_from_slice.ensures.items c.deref.ensures.value (omega (arith, c.take.auto.into, ap length c.deref_mut.ensures.value, c.loop-bytes.buffer.ok.0)) (sym c.is_err.ensures.value ∙ c.if-is_err.false));
  short = grind (arith, common_steps);
  buffer = c.loop-bytes.invariant.buffer;
  falls = omega (arith, c.loop-bytes.invariant.falls, c.in-Ok-take.ensures.never_falls);
}
