use Rattle.std.proofs.Common.{ℕ, ◌≡◌, ◌<◌, ◌≤◌, inr, arith, true≢false, refl, sym, [], ◌∷◌, ⊎_elim}
use Rattle.cell_world.specs.Outside.{TellsContents}
use Rattle.plain_model.specs.declared.finish.RunStatus.TheVariants as status
use Rattle.model_examples.specs.Values.{two_sites}
use Rattle.world_examples.specs.Examples.{site_a, site_b}
use Rattle.model_examples.specs.Runs.{site_c, list_refused}
use Rattle.model_examples.proofs.UnknownLocations.{none_unknown, c_is_first}
use Rattle.model_examples.proofs.RunStatuses.{list_caused}
use Rattle.model_examples.proofs.headline.status_has_cause.Goals as goal

pub returns-clause-refused : goal.returns-clause-refused
returns-clause-refused c = list_caused (TellsContents two_sites) (TellsContents two_sites) (none_unknown (site_a ∷ site_b ∷ []))

pub returns-clause-never_without_its_cause : goal.returns-clause-never_without_its_cause
returns-clause-never_without_its_cause c h = let e : ◌≡◌ {A = ℕ} 1 0 = h.cause.0 in omega arith

pub returns-clause-never_past_wrong_words : goal.returns-clause-never_past_wrong_words
returns-clause-never_past_wrong_words c h = ⊎_elim (λ e. let f : status.Refused ≡ status.BadWords 2 = e in cc) (λ e. let f : status.Refused ≡ status.Memory = e in cc) (h.by_input.words 2 refl)

pub returns-clause-never_past_an_unknown_location : goal.returns-clause-never_past_an_unknown_location
returns-clause-never_past_an_unknown_location c h = ⊎_elim (λ e. let f : status.Refused ≡ status.UnknownLocation site_c = e in cc) (λ e. true≢false (sym e)) (h.by_opening site_c c_is_first)

pub returns-clause-never_after_memory : goal.returns-clause-never_after_memory
returns-clause-never_after_memory c h = true≢false h.kept.ends_with_memory.0

pub returns-clause-never_done_at_an_unknown_location : goal.returns-clause-never_done_at_an_unknown_location
returns-clause-never_done_at_an_unknown_location c h = let e : list_refused ∷ [] ≡ [] = (h.unknown site_c c_is_first).0 in cc

pub returns-clause-never_an_entry_at_an_unknown_location : goal.returns-clause-never_an_entry_at_an_unknown_location
returns-clause-never_an_entry_at_an_unknown_location c h = let e : list_refused ∷ [] ≡ [] = (h.unknown site_c c_is_first).0 in cc
