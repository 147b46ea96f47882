use Rattle.std.proofs.Common.{◌≡◌, ℕ, ◌^◌, ◌<◌, Some, sym, ap, subst, ◌∙◌, inl, inr, unwrap_or, Option}
use Rattle.std.proofs.lemmas.Bool.{cases_lt}
use Rattle.std.proofs.lemmas.Result.{MatchResult-at_ok}
use Rattle.std.specs.Str.Parse.{digits_value}
use Rattle.key_space.proofs.DecimalValues.{read_number, number_utf8, without_plus, ok_from}
use Rattle.script_lang.proofs.numbers.number_at.Goals as goal

pub unwrap-digits-requires : goal.unwrap-digits-requires
unwrap-digits-requires c = ok_from c.from_utf8.result _ _ _ c.from_utf8.ensures.cases (number_utf8 c.args.word.now (read_number c.args.word.now c.requires))

pub returns-in-Ok-clause-some : goal.returns-in-Ok-clause-some
returns-in-Ok-clause-some c =
    let text = c.args.word.now in
    let is = read_number text c.requires in
    let same = (MatchResult-at_ok _ _ _ c.unwrap-digits.ensures c.from_utf8.ensures.cases).0 in
    let read = rw (same, without_plus text is) at c.in-Ok.ensures.value.0 in
    is.value ∙ ap Some (sym read.1)

pub returns-in-Err-clause-none : goal.returns-in-Err-clause-none
returns-in-Err-clause-none c =
    let text = c.args.word.now in
    let is = read_number text c.requires in
    let same = (MatchResult-at_ok _ _ _ c.unwrap-digits.ensures c.from_utf8.ensures.cases).0 in
    let refused = rw (same, without_plus text is) at c.in-Err.ensures.value.0 in
    λ n e.
    let value : digits_value 10 text ≡ n = ap (λ (o : Option ℕ). unwrap_or o 0) (sym is.value ∙ e) in
    elim (cases_lt n (2 ^ 64)) [
      | inl small ↦ absurd (refused (is.numeral, subst (λ m. m < 2 ^ 64) (sym value) small))
      | inr large ↦ large
    ]
