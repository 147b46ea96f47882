use Rattle.std.proofs.Common.{◌^◌, Some, sym, ap, ◌∙◌}
use Rattle.std.specs.Int.{w64}
use Rattle.std.proofs.lemmas.Int.{to_z-of_z}
use Rattle.key_space.specs.Values.{moved_up}
use Rattle.key_space.proofs.Readings.{long_some, long_none}
use Rattle.key_space.proofs.reading.long.Goals as goal

pub returns-in-Some-clause-ok : goal.returns-in-Some-clause-ok
returns-in-Some-clause-ok c = long_some c.args.text.now _ (c.in-Some.ensures.some ∙ ap (λ x. Some (moved_up (2 ^ 63) x)) (sym (to_z-of_z w64 c.in-Some.x c.in-Some.ensures.fits)))

pub returns-in-None-clause-err : goal.returns-in-None-clause-err
returns-in-None-clause-err c = (tt, c.in_ok-check_signed.ensures.ok, long_none c.args.text.now c.in-None.ensures.none)
