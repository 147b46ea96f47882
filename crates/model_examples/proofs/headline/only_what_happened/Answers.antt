use Rattle.std.proofs.Common.{◌≡◌, ◌≤◌, arith, false, true≢false, refl, sym, subst, [], ◌∷◌, inl, inr, ⊎_elim}
use Rattle.plain_model.specs.Lines.{lines_of, refusal_text}
use Rattle.plain_model.specs.Written.{EachReply, WrittenAt}
use Rattle.model_examples.specs.Values.{trail_of}
use Rattle.model_examples.specs.Runs.{list_refused, no_map_line}
use Rattle.model_examples.proofs.ListRun.{only_this}
use Rattle.model_examples.proofs.LegalRuns.{map_written, map_unwritten_so_far}
use Rattle.model_examples.proofs.headline.only_what_happened.Goals as goal

pub returns-clause-all : goal.returns-clause-all
unfolding lines_of refusal_text
returns-clause-all c = only_this

pub returns-clause-but_the_last_line : goal.returns-clause-but_the_last_line
unfolding lines_of refusal_text
returns-clause-but_the_last_line c = record { written = λ t from to. let e : 0 ≡ t = omega (arith, from, to) in let z : 0 ≤ 0 = omega arith in let m : 0 ≤ 7 = omega arith in subst (WrittenAt (EachReply false) (trail_of []) 0 (list_refused ∷ [])) e (record { front = (no_map_line, refl); most = m; least = z }); all = λ ran. absurd (true≢false ran); last = inr refl }

pub returns-clause-never_less_unless_it_stopped : goal.returns-clause-never_less_unless_it_stopped
unfolding lines_of refusal_text
returns-clause-never_less_unless_it_stopped c h = let e : [] ≡ no_map_line = h.all refl in cc

pub returns-clause-never_less_where_the_last_has_no_line : goal.returns-clause-never_less_where_the_last_has_no_line
unfolding lines_of refusal_text
returns-clause-never_less_where_the_last_has_no_line c h = ⊎_elim (λ all. let e : [] ≡ no_map_line = all in cc) (λ ends. true≢false (sym ends)) h.last

pub returns-clause-never_too_early : goal.returns-clause-never_too_early
unfolding lines_of refusal_text
returns-clause-never_too_early c h = let from : 0 ≤ 1 = omega arith in let to : 1 ≤ 2 = omega arith in let e : 3 ≤ 0 = (h.written 1 from to).most in omega arith

pub returns-clause-of_one_map : goal.returns-clause-of_one_map
unfolding lines_of refusal_text
returns-clause-of_one_map c = record { written = map_written; all = λ ran. refl; last = inl refl }

pub returns-clause-but_the_line_of_a_map : goal.returns-clause-but_the_line_of_a_map
returns-clause-but_the_line_of_a_map c = record { written = map_unwritten_so_far; all = λ ran. absurd (true≢false ran); last = inr refl }
