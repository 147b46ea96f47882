use Rattle.std.proofs.Common.{◌^◌, Some, sym, ap, ◌∙◌}
use Rattle.std.specs.Int.{w32}
use Rattle.std.proofs.lemmas.Int.{to_z-of_z}
use Rattle.key_space.specs.Values.{moved_up}
use Rattle.key_space.proofs.Readings.{int_some, int_none}
use Rattle.key_space.proofs.reading.int.Goals as goal

pub returns-in-Some-clause-ok : goal.returns-in-Some-clause-ok
returns-in-Some-clause-ok c = int_some c.args.text.now _ (c.in-Some.ensures.some ∙ ap (λ x. Some (moved_up (2 ^ 31) x)) (sym (to_z-of_z w32 c.in-Some.x c.in-Some.ensures.fits)))

pub returns-in-None-clause-err : goal.returns-in-None-clause-err
returns-in-None-clause-err c = (tt, c.in_ok-check_signed.ensures.ok, int_none c.args.text.now c.in-None.ensures.none)
