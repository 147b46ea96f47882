use Rattle.std.proofs.Common.{refl, sym, ap, ◌∙◌, inl, inr, ⊎_elim}
use Rattle.cell_world.specs.Plain.{holds_nothing}
use Rattle.model_examples.specs.Values.{empty_state}
use Rattle.world_examples.specs.Examples.{map_n}
use Rattle.model_examples.proofs.Lookups.{differ}
use Rattle.model_examples.proofs.Maps.{makes_m, makes_m_once, m_is_more, m_is_not_n, has_map, has_it, has_none}
use Rattle.model_examples.proofs.follows.faults.Goals as goal

pub returns-clause-not_done : goal.returns-clause-not_done
returns-clause-not_done c = inl refl

pub returns-clause-done : goal.returns-clause-done
returns-clause-done c = inr (holds_nothing, sym (ap (λ r. r.0) (makes_m holds_nothing)))

pub returns-clause-never_another_change : goal.returns-clause-never_another_change
returns-clause-never_another_change c = ⊎_elim
    (λ e. differ (has_map map_n) _ _ e (has_it empty_state map_n) (has_none map_n))
    (λ f. m_is_not_n (sym (f.1 ∙ ap (λ r. r.0) (makes_m f.0))))

pub returns-clause-never_where_it_is_refused : goal.returns-clause-never_where_it_is_refused
returns-clause-never_where_it_is_refused c = ⊎_elim
    (λ e. m_is_more (sym e))
    (λ f. m_is_more (sym (f.1 ∙ ap (λ r. r.0) (makes_m_once f.0))))
