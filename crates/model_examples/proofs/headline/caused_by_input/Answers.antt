use Rattle.std.proofs.Common.{ℕ, ◌≡◌, arith, refl}
use Rattle.plain_model.specs.declared.finish.Reason.TheVariants.{BadByte, LongLine}
use Rattle.model_examples.proofs.headline.caused_by_input.Goals as goal

pub returns-clause-words : goal.returns-clause-words
returns-clause-words c = refl

pub returns-clause-never_words_elsewhere : goal.returns-clause-never_words_elsewhere
returns-clause-never_words_elsewhere c h = let e : ◌≡◌ {A = ℕ} 1 2 = h in omega arith

pub returns-clause-script : goal.returns-clause-script
returns-clause-script c = (refl, refl)

pub returns-clause-never_another_line : goal.returns-clause-never_another_line
returns-clause-never_another_line c h = let e : ◌≡◌ {A = ℕ} 1 3 = h.0 in omega arith

pub returns-clause-never_another_reason : goal.returns-clause-never_another_reason
returns-clause-never_another_reason c h = let e : LongLine ≡ BadByte = h.1 in cc

pub returns-clause-reading : goal.returns-clause-reading
returns-clause-reading c = tt

pub returns-clause-never_a_read_fault : goal.returns-clause-never_a_read_fault
returns-clause-never_a_read_fault c h = h

pub returns-clause-length : goal.returns-clause-length
returns-clause-length c = tt

pub returns-clause-never_too_long : goal.returns-clause-never_too_long
returns-clause-never_too_long c h = h
