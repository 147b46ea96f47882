-- The token of a command whose operation is planned opens what the operation replaces, whatever number it is given.
use Rattle.std.proofs.Common.{◌≡◌, ◌⊎◌, inl, inr, ℕ, Bool, true, false, ◌&&◌, not, refl, sym, Option, Some, None}
use Rattle.std.specs.Prelude.{is_some}
use Rattle.cell_world.specs.Images.{Image}
use Rattle.cell_world.specs.Spelled.{listed}
use Rattle.cell_world.specs.declared.cells.Token.{Token}
use Rattle.cell_world.specs.declared.operations.Op.{Op}
use Rattle.cell_world.specs.declared.operations.Piece.{Piece}
use Rattle.cell_world.proofs.ListLaws.{all_at}
use Rattle.map_ops.specs.Planning.{PlansLong}
use Rattle.mapping_plans.proofs.NextMappings.{one_token}
use Rattle.op_steps.specs.Beginning.{numbered}
use Rattle.operation_laws.specs.Opening.{Opens}
use Rattle.plain_model.specs.declared.commands.Command.{Command}
use Rattle.plain_model.specs.Refusing.{given_token, locked, same_token}

is_true : (b : Bool) → not b ≡ false → b ≡ true
is_true true h = refl
is_true false h = absurd cc

-- where a mapping isn't locked it has no token, or the one that is given
open_of : (given token : Option Token) → (is_some token && not (same_token given token)) ≡ false → (token ≡ None) ⊎ (token ≡ given)
open_of given None h = inl refl
open_of given (Some a) h = inr (sym (one_token given (Some a) (is_true (same_token given (Some a)) h)))

pub opens_planned : (c : Command) (op : Op) (image : Image) → PlansLong c op image → (number : ℕ) → Opens (given_token c) (numbered op number)
opens_planned c op image plans number = record {
  olds = λ p one. open_of (given_token c) p.token (all_at (λ (old : Piece). (locked (given_token c) (Some old)).0 ≡ false) (listed op.olds) plans.tokens p one);
  no_job = plans.no_job;
}
