use Rattle.std.proofs.Common.{refl}
use Rattle.model_examples.specs.Runs.{site_d}
use Rattle.model_examples.proofs.Lookups.{differ}
use Rattle.model_examples.proofs.UnknownLocations.{none_unknown, c_is_first, d_is_first, first_is_c, c_is_known}
use Rattle.cell_world.specs.Keys.{same}
use Rattle.model_examples.proofs.headline.first_unknown.Goals as goal

pub returns-clause-the_first : goal.returns-clause-the_first
returns-clause-the_first c = c_is_first

pub returns-clause-the_next_where_the_first_is_known : goal.returns-clause-the_next_where_the_first_is_known
returns-clause-the_next_where_the_first_is_known c = d_is_first

pub returns-clause-never_the_second : goal.returns-clause-never_the_second
returns-clause-never_the_second c f = differ (same site_d) _ _ (first_is_c site_d f) refl refl

pub returns-clause-never_a_known_one : goal.returns-clause-never_a_known_one
returns-clause-never_a_known_one c f = c_is_known f

pub returns-clause-never_one_that_no_cell_names : goal.returns-clause-never_one_that_no_cell_names
returns-clause-never_one_that_no_cell_names c f = none_unknown _ _ f
