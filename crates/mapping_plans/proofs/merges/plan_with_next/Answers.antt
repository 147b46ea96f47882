use Rattle.std.proofs.Common.{sym, subst, Option, true, ◌≡◌}
use Rattle.std.specs.Prelude.{IsTrue, IfSome}
use Rattle.cell_world.specs.Keys.{same}
use Rattle.cell_world.specs.Spelled.{is_spelled}
use Rattle.cell_world.specs.declared.cells.Cell.TheVariants as cell
use Rattle.cell_world.specs.declared.operations.Op.{Op}
use Rattle.cell_world.specs.declared.operations.Piece.{Piece}
use Rattle.mapping_plans.proofs.MergePlans.{merge_spelled}
use Rattle.mapping_plans.proofs.merges.plan_with_next.Goals as goal

pub plan_some-requires : goal.plan_some-requires
plan_some-requires g c =
    subst (λ (o : Option Op). IfSome o (λ op. IsTrue (is_spelled (cell.Log op)))) (sym c.merge_op.ensures) (merge_spelled c.args.piece.now c.in-Ok-Some.next
    (subst (λ (o : Option Piece). IfSome o (λ (q : Piece). same c.args.piece.now.map q.map ≡ true)) c.in-Ok-Some.field-0-is c.in-Ok-Some.ensures.of_map))
