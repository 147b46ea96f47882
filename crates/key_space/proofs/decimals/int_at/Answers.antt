use Rattle.std.proofs.Common.{◌^◌, Some, sym, ap, subst, ◌∙◌}
use Rattle.std.specs.Prelude.{FitsSigned}
use Rattle.std.specs.Int.{w32}
use Rattle.std.proofs.lemmas.Int.{to_z-of_z}
use Rattle.std.proofs.lemmas.Result.{MatchResult-at_ok}
use Rattle.key_space.specs.Values.{moved_up}
use Rattle.key_space.proofs.DecimalValues.{read_signed, within_32, fits_32, ok_from}
use Rattle.key_space.proofs.decimals.int_at.Goals as goal

pub unwrap-digits-requires : goal.unwrap-digits-requires
unwrap-digits-requires c = ok_from c.from_utf8.result _ _ _ c.from_utf8.ensures.cases (read_signed (2 ^ 31) c.args.text.now c.requires).utf8

pub returns-in-Ok-clause-some : goal.returns-in-Ok-clause-some
returns-in-Ok-clause-some c =
    let text = c.args.text.now in
    let same = (MatchResult-at_ok _ _ _ c.unwrap-digits.ensures c.from_utf8.ensures.cases).0 in
    let read = rw same at c.in-Ok.ensures.value.0 in
    (read_signed (2 ^ 31) text c.requires).inside (within_32 _ read.0.1) ∙ ap (λ z. Some (moved_up (2 ^ 31) z)) (sym read.1 ∙ sym (to_z-of_z w32 c.in-Ok.x (subst (FitsSigned w32) (sym read.1) read.0.1)))

pub returns-in-Err-clause-none : goal.returns-in-Err-clause-none
returns-in-Err-clause-none c =
    let same = (MatchResult-at_ok _ _ _ c.unwrap-digits.ensures c.from_utf8.ensures.cases).0 in
    let is = read_signed (2 ^ 31) c.args.text.now c.requires in
    is.outside (λ within. (rw same at c.in-Err.ensures.value.0) (is.numeral, fits_32 _ within))
