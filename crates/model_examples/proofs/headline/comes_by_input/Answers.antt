use Rattle.std.proofs.Common.{◌≡◌, false, true≢false, refl, sym, ap, ◌∙◌, inl, inr, ⊎_elim}
use Rattle.plain_model.specs.declared.finish.RunStatus.{RunStatus}
use Rattle.plain_model.specs.declared.finish.RunStatus.TheVariants as status
use Rattle.plain_model.specs.declared.finish.Reason.TheVariants.{BadByte}
use Rattle.std.specs.Prelude.{Bool, ◌==◌}
use Rattle.model_examples.proofs.Lookups.{differ}
use Rattle.model_examples.proofs.headline.comes_by_input.Goals as goal

abbrev is_of_line_3 : RunStatus → Bool
is_of_line_3 (status.BadScript line reason) = line == 3
is_of_line_3 other = false

pub returns-clause-nothing_wrong : goal.returns-clause-nothing_wrong
returns-clause-nothing_wrong c = record { words = λ place wrong. absurd wrong; reading = λ long. absurd long; script = λ line reason wrong. absurd wrong }

pub returns-clause-words : goal.returns-clause-words
returns-clause-words c = record { words = λ place wrong. inl (ap status.BadWords (sym wrong)); reading = λ long. absurd long; script = λ line reason wrong. absurd wrong }

pub returns-clause-words_without_memory : goal.returns-clause-words_without_memory
returns-clause-words_without_memory c = record { words = λ place wrong. inr refl; reading = λ long. absurd long; script = λ line reason wrong. absurd wrong }

pub returns-clause-never_past_wrong_words : goal.returns-clause-never_past_wrong_words
returns-clause-never_past_wrong_words c h = ⊎_elim (λ e. let f : status.Done ≡ status.BadWords 2 = e in cc) (λ e. let f : status.Done ≡ status.Memory = e in cc) (h.words 2 refl)

pub returns-clause-never_a_read_fault_before_the_words : goal.returns-clause-never_a_read_fault_before_the_words
returns-clause-never_a_read_fault_before_the_words c h = ⊎_elim (λ e. let f : status.ReadFault ≡ status.BadWords 2 = e in cc) (λ e. let f : status.ReadFault ≡ status.Memory = e in cc) (h.words 2 refl)

pub returns-clause-too_long : goal.returns-clause-too_long
returns-clause-too_long c = record { words = λ place wrong. absurd wrong; reading = λ long. refl; script = λ line reason wrong. absurd wrong }

pub returns-clause-a_read_fault_before_the_end : goal.returns-clause-a_read_fault_before_the_end
returns-clause-a_read_fault_before_the_end c = record { words = λ place wrong. absurd wrong; reading = λ long. refl; script = λ line reason wrong. absurd wrong }

pub returns-clause-never_past_too_many_bytes : goal.returns-clause-never_past_too_many_bytes
returns-clause-never_past_too_many_bytes c h = true≢false (sym (h.reading tt))

pub returns-clause-script : goal.returns-clause-script
returns-clause-script c = record { words = λ place wrong. absurd wrong; reading = λ long. absurd long; script = λ line reason wrong. inl (ap (λ n. status.BadScript n BadByte) (sym wrong.0) ∙ ap (status.BadScript line) (sym wrong.1)) }

pub returns-clause-never_past_a_wrong_line : goal.returns-clause-never_past_a_wrong_line
returns-clause-never_past_a_wrong_line c h = ⊎_elim (λ e. let f : status.Done ≡ status.BadScript 3 BadByte = e in cc) (λ e. true≢false (sym e)) (h.script 3 BadByte (refl, refl))

pub returns-clause-never_another_line : goal.returns-clause-never_another_line
returns-clause-never_another_line c h = ⊎_elim (λ e. differ is_of_line_3 _ _ (sym e) refl refl) (λ e. true≢false (sym e)) (h.script 3 BadByte (refl, refl))

pub returns-clause-never_a_store_fault_before_the_script : goal.returns-clause-never_a_store_fault_before_the_script
returns-clause-never_a_store_fault_before_the_script c h = ⊎_elim (λ e. let f : status.StoreFault ≡ status.BadScript 3 BadByte = e in cc) (λ e. true≢false (sym e)) (h.script 3 BadByte (refl, refl))
