use Rattle.std.proofs.Common.{◌≡◌, true≢false, refl, sym, ap, inl, inr, ⊎_elim}
use Rattle.plain_model.specs.declared.finish.RunStatus.TheVariants as status
use Rattle.model_examples.specs.Runs.{site_c, site_d}
use Rattle.model_examples.proofs.Lookups.{differ}
use Rattle.model_examples.proofs.UnknownLocations.{none_unknown, c_is_first, first_is_c}
use Rattle.cell_world.specs.Keys.{same}
use Rattle.model_examples.proofs.headline.comes_by_opening.Goals as goal

pub returns-clause-unknown : goal.returns-clause-unknown
returns-clause-unknown c location f = inl (ap status.UnknownLocation (sym (first_is_c location f)))

pub returns-clause-failed : goal.returns-clause-failed
returns-clause-failed c location f = inr refl

pub returns-clause-wrong_script : goal.returns-clause-wrong_script
returns-clause-wrong_script c location f = inr refl

pub returns-clause-nothing_unknown : goal.returns-clause-nothing_unknown
returns-clause-nothing_unknown c location f = absurd (none_unknown _ location f)

pub returns-clause-never_done : goal.returns-clause-never_done
returns-clause-never_done c h = ⊎_elim (λ e. let f : status.Done ≡ status.UnknownLocation site_c = e in cc) (λ e. true≢false (sym e)) (h site_c c_is_first)

pub returns-clause-never_a_write_fault : goal.returns-clause-never_a_write_fault
returns-clause-never_a_write_fault c h = ⊎_elim (λ e. let f : status.WriteFault ≡ status.UnknownLocation site_c = e in cc) (λ e. true≢false (sym e)) (h site_c c_is_first)

pub returns-clause-never_the_second : goal.returns-clause-never_the_second
returns-clause-never_the_second c h = ⊎_elim (λ e. let f : status.UnknownLocation site_d ≡ status.UnknownLocation site_c = e in let n : site_d ≡ site_c = cc in differ (same site_d) _ _ n refl refl) (λ e. true≢false (sym e)) (h site_c c_is_first)

pub returns-clause-nothing_told : goal.returns-clause-nothing_told
returns-clause-nothing_told c location f = absurd f

pub returns-clause-never_done_on_a_trail : goal.returns-clause-never_done_on_a_trail
returns-clause-never_done_on_a_trail c h = ⊎_elim (λ e. let f : status.Done ≡ status.UnknownLocation site_c = e in cc) (λ e. true≢false (sym e)) (h site_c c_is_first)
