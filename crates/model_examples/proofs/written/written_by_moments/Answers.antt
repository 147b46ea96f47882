use Rattle.std.proofs.Common.{◌≡◌, ◌≤◌, arith, refl, subst, false, []}
use Rattle.std.specs.Fmt.{digits}
use Rattle.plain_model.specs.Lines.{lines_of}
use Rattle.plain_model.specs.Written.{EachReply, WrittenAt}
use Rattle.model_examples.specs.Values.{trail_of}
use Rattle.model_examples.proofs.written.written_by_moments.Goals as goal

pub returns-clause-nothing_of_nothing : goal.returns-clause-nothing_of_nothing
unfolding digits lines_of
returns-clause-nothing_of_nothing c t from to = let e : 0 ≡ t = omega (arith, from, to) in let z : 0 ≤ 0 = omega arith in subst (WrittenAt (EachReply false) (trail_of []) 0 []) e (record { front = ([], refl); most = z; least = z })

pub returns-clause-never_too_early : goal.returns-clause-never_too_early
unfolding digits lines_of
returns-clause-never_too_early c w = let from : 0 ≤ 1 = omega arith in let to : 1 ≤ 2 = omega arith in let e : 3 ≤ 0 = (w 1 from to).most in omega arith
