-- What is used of mappings holds of those of a sound image.
use Rattle.cell_world.specs.Stores.{Store, IsKeyed}
use Rattle.cell_world.specs.Images.{Image, Global, global}
use Rattle.cell_world.specs.Sound.{Sound, GlobalCells, AreMappings}

pub are_mappings : (g : Store) → IsKeyed g → GlobalCells g → AreMappings g.maps g.mappings
are_mappings g keyed cells = record { placed = keyed.mappings; spans = cells.spans; disjoint = cells.disjoint }

pub sound_mappings : (image : Image) → Sound image → AreMappings (global image).maps (global image).mappings
sound_mappings image sound = are_mappings (global image) (sound.keyed Global) sound.globals
