use Rattle.std.proofs.Common.{refl, sym, true≢false}
use Rattle.model_examples.specs.Runs.{site_d}
use Rattle.model_examples.proofs.Lookups.{differ}
use Rattle.model_examples.proofs.UnknownLocations.{none_unknown, c_is_first, first_is_c}
use Rattle.cell_world.specs.Keys.{same}
use Rattle.model_examples.proofs.headline.caused_by_opening.Goals as goal

pub returns-clause-unknown : goal.returns-clause-unknown
returns-clause-unknown c = (refl, c_is_first)

pub returns-clause-never_the_second : goal.returns-clause-never_the_second
returns-clause-never_the_second c f = differ (same site_d) _ _ (first_is_c site_d f.1) refl refl

pub returns-clause-never_of_empty_stores : goal.returns-clause-never_of_empty_stores
returns-clause-never_of_empty_stores c f = none_unknown _ _ f.1

pub returns-clause-never_a_known_location : goal.returns-clause-never_a_known_location
returns-clause-never_a_known_location c f = true≢false f.0
