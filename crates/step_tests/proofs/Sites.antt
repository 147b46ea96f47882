-- The site of a location is one that the world has, and not the global store.
use Rattle.std.proofs.Common.{◌≡◌, ℕ, ◌+◌, ◌<◌, Option, Some, None, option_map, is_some, sym, ap, ◌∙◌, arith}
use Rattle.std.specs.List.{position}
use Rattle.cell_world.specs.Texts.{Text}
use Rattle.cell_world.specs.Keys.{same}
use Rattle.cell_world.specs.Outside.{Outside, IsSite, site_number}
use Rattle.cell_world.specs.declared.cells.Site.{Site}
use Rattle.image_laws.proofs.SiteLaws.{place_of_number}

pub is_site : (o : Outside) (at : Text) (site : Site) (found : Option Site) → found ≡ site_number o.locations at → found ≡ Some site → IsSite o site
is_site o at site found says is = ap is_some (place_of_number o.locations at site (sym says ∙ is))

pub is_shard : (o : Outside) (at : Text) (site : Site) (found : Option Site) → found ≡ site_number o.locations at → found ≡ Some site → 0 < site.0
is_shard o at site found says is = by (position (same at) o.locations) (sym says ∙ is)
  where
    by : (n : Option ℕ) → option_map (λ n. record { 0 = n + 1 }) n ≡ Some site → 0 < site.0
    by None e = cc
    by (Some n) e = let number : n + 1 ≡ site.0 = cc in omega (arith, number)
