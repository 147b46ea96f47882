-- The sites of an operation as at most two locations.
use Rattle.std.specs.Prelude.{◌≡◌, ◌⊎◌, List, [], ◌∷◌, ◌++◌, Option, Some, None, option_to_list, IfSome, IsSome, if◌then◌else◌}
use Rattle.cell_world.specs.Texts.{Text}
use Rattle.cell_world.specs.Keys.{same}
use Rattle.cell_world.specs.Lists.{IsOneOf}
use Rattle.op_log.specs.declared.sites.Sites.{Sites}

-- the locations, the first one first
abbrev pub locations_in : Sites → List Text
locations_in sites = option_to_list sites.one ++ option_to_list sites.two

-- Of the locations, which may stand there more than once, no more than two differ.
pub record AreAtMostTwo (locations : List Text) : Type 0 where
  -- two of them
  pub one : Text
  pub two : Text
  -- each is one of the two
  pub each : (location : Text) → IsOneOf locations location → (location ≡ one) ⊎ (location ≡ two)

-- a second one stands only beside a first, and is another one
abbrev pub AreInOrder : Sites → Type 0
AreInOrder sites = IfSome sites.two (λ two. IsSome sites.one × (sites.one ≡ Some two → ⊥))

-- ---- how they are gathered

-- a location is taken in where it isn't there yet and two don't stand
abbrev pub with_next : Text → Option Text → Option Text → Sites
with_next location None two = record { one = Some location; two = two }
with_next location (Some one) None = if same one location then record { one = Some one; two = None } else record { one = Some one; two = Some location }
with_next location (Some one) (Some two) = record { one = Some one; two = Some two }

abbrev pub with_site : Sites → Text → Sites
with_site sites location = with_next location sites.one sites.two

abbrev pub with_sites : Sites → List Text → Sites
with_sites sites [] = sites
with_sites sites (location ∷ locations) = with_sites (with_site sites location) locations
