-- When two states are near: they agree but for what recovery may change at sites that are away.
use Rattle.std.specs.Prelude.{◌≡◌, Some, None}
use Rattle.std.specs.FinMap as map
use Rattle.cell_world.specs.Texts.{Text}
use Rattle.cell_world.specs.Plain.{PlainState}
use Rattle.cell_world.specs.declared.cells.Away.TheVariants as away
use Rattle.plain_model.specs.Differing.{local_status, local_rows_of}

abbrev pub IsSuspectAt : PlainState → Text → Type 0
IsSuspectAt s location = map.get s.away location ≡ Some away.Suspect

pub record Near (a b : PlainState) : Type 0 where
  -- they agree in all but what sites hold
  pub same : record a { held = b.held } ≡ b
  -- and in what a site holds that isn't away; what a detached one holds is free
  pub here : (location : Text) → map.get b.away location ≡ None → a.held location ≡ b.held location
  -- a suspect site has the same row cells
  pub rows : (location : Text) → IsSuspectAt b location → (a.held location).rows ≡ (b.held location).rows
  -- and over each key the same local status, however its local rows are cut
  pub status : (location name key : Text) → IsSuspectAt b location → local_status (local_rows_of (a.held location).locals name) key ≡ local_status (local_rows_of (b.held location).locals name) key
