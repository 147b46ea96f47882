use Rattle.std.proofs.Common.{◌≡◌, refl, ap, [], ◌∷◌}
use Rattle.cell_world.specs.Images.{Image}
use Rattle.world_examples.specs.Examples.{site_a, site_b}
use Rattle.model_examples.specs.Runs.{nothing_done}
use Rattle.model_examples.proofs.headline.goes_on_from.Goals as goal

pub returns-clause-further : goal.returns-clause-further
returns-clause-further c = record { start = refl; front = refl }

pub returns-clause-never_shorter : goal.returns-clause-never_shorter
returns-clause-never_shorter c h = let e : [] ≡ nothing_done ∷ [] = h.front in cc

pub returns-clause-never_otherwise : goal.returns-clause-never_otherwise
returns-clause-never_otherwise c h = let e = h.front in cc

pub returns-clause-never_from_elsewhere : goal.returns-clause-never_from_elsewhere
returns-clause-never_from_elsewhere c h = let e : [] ≡ site_a ∷ site_b ∷ [] = ap (λ (image : Image). image.locations) h.start in cc
