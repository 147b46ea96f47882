use Rattle.std.proofs.Common.{◌≡◌, refl, sym, ◌∙◌, Some}
use Rattle.cell_world.specs.Images.{Shard}
use Rattle.image_laws.proofs.SiteLaws.{place_of_number, number_known}
use Rattle.image_laws.proofs.sites.sites_have_their_places.Goals as goal

pub returns-clause-global_store : goal.returns-clause-global_store
returns-clause-global_store c locations = refl

pub returns-clause-shards : goal.returns-clause-shards
returns-clause-shards c = place_of_number

pub returns-clause-known : goal.returns-clause-known
returns-clause-known c locations location = (λ h. sym (number_known locations location) ∙ h, λ h. number_known locations location ∙ h)

pub returns-clause-own : goal.returns-clause-own
returns-clause-own c locations a b site h g = let is : Some (Shard a) ≡ Some (Shard b) = sym (place_of_number locations a site h) ∙ place_of_number locations b site g in cc
