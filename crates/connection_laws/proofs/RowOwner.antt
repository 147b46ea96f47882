-- What an owned connection gives the laws of rows, where the world knows its location.
use Rattle.std.proofs.Common.{◌≡◌, true, refl, sym, subst, Some, None, Option}
use Rattle.std.specs.Prelude.{IsTrue}
use Rattle.std.specs.FinMap as map
use Rattle.cell_world.specs.Keys.{is_among}
use Rattle.cell_world.specs.Images.{Image, global}
use Rattle.cell_world.specs.Plain.{Connection, state_of, is_attached}
use Rattle.cell_world.specs.Meaning.{meaning}
use Rattle.cell_world.specs.Sound.{IsAttachedIn}
use Rattle.cell_world.specs.declared.cells.Away.{Away}
use Rattle.cell_world.specs.declared.cells.Away.TheVariants.{Detached, Suspect}
use Rattle.cell_world.specs.declared.cells.SiteState.TheVariants as site
use Rattle.connections.specs.Links.{IsOwned}
use Rattle.connection_laws.specs.Keeping.{HasOwner}

attached_of : (a : Option Away) → state_of a ≡ site.Attached → is_attached a ≡ true
attached_of None e = refl
attached_of (Some Detached) e = absurd cc
attached_of (Some Suspect) e = absurd cc

pub has_owner : (image : Image) (c : Connection) → IsOwned (meaning image) c → IsTrue (is_among image.locations c.location) → HasOwner image c
has_owner image c o known = record {
  piece = o.piece;
  owned = o.owned;
  here = o.here;
  online = o.online;
  attached = subst (IsAttachedIn image) (sym o.here) (record { known = known; attached = attached_of (map.get (global image).away c.location) o.attached });
}
