use Rattle.std.proofs.Common.{◌≡◌, refl, sym, subst, [], ◌∷◌}
use Rattle.cell_world.specs.Images.{Image, global}
use Rattle.cell_world.specs.Outside.{TellsContents}
use Rattle.plain_model.specs.Headline.{IsFirstUnknown}
use Rattle.model_examples.specs.Values.{two_sites, with_global}
use Rattle.world_examples.specs.Examples.{site_a, site_b}
use Rattle.model_examples.specs.Runs.{site_c, list_refused, unknown_store}
use Rattle.model_examples.proofs.UnknownLocations.{none_unknown, c_is_first}
use Rattle.model_examples.proofs.headline.left_unknown.Goals as goal

pub returns-clause-nothing_done : goal.returns-clause-nothing_done
returns-clause-nothing_done c location f = (refl, refl)

pub returns-clause-all_known : goal.returns-clause-all_known
returns-clause-all_known c location f = absurd (none_unknown _ location f)

pub returns-clause-never_an_entry : goal.returns-clause-never_an_entry
returns-clause-never_an_entry c h = let e : list_refused ∷ [] ≡ [] = (h site_c c_is_first).0 in cc

pub returns-clause-never_a_change : goal.returns-clause-never_a_change
returns-clause-never_a_change c h = let told : TellsContents two_sites ≡ TellsContents (with_global unknown_store) = (h site_c c_is_first).1 in let image : two_sites ≡ with_global unknown_store = cc in none_unknown (site_a ∷ site_b ∷ []) site_c (subst (λ (i : Image). IsFirstUnknown (global i) (site_a ∷ site_b ∷ []) site_c) (sym image) c_is_first)
