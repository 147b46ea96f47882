use Rattle.std.proofs.Common.{◌≡◌, ◌^◌, Some, sym, subst}
use Rattle.std.specs.Prelude.{IfOk}
use Rattle.std.specs.Int.{w64, to_be_bytes}
use Rattle.std.proofs.lemmas.Result.{IfErr-weaker}
use Rattle.key_space.specs.Values.{moved_up}
use Rattle.key_space.proofs.Readings.{timespan_as_long, as_timespan}
use Rattle.key_space.proofs.reading.timespan.Goals as goal

pub returns-clause-ok : goal.returns-clause-ok
returns-clause-ok c = subst (λ form. IfOk c.long.result (λ x. form ≡ Some (to_be_bytes w64 (moved_up (2 ^ 63) x)))) (sym (timespan_as_long c.args.text.now)) c.long.ensures.ok

pub returns-clause-err : goal.returns-clause-err
returns-clause-err c = IfErr-weaker c.long.result _ _ (as_timespan c.args.text.now) c.long.ensures.err
