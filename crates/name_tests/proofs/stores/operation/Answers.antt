use Rattle.std.proofs.Common.{◌≡◌, true, ◌&&◌, ap, ◌∙◌}
use Rattle.cell_world.specs.Texts.{Text}
use Rattle.cell_world.specs.Keys.{same}
use Rattle.cell_world.proofs.SpanLaws.{same_self}
use Rattle.name_tests.proofs.stores.operation.Goals as goal

alike : (a b : Text) → b ≡ a → same a b ≡ true
alike a b is = ap (same a) is ∙ same_self a

pub returns : goal.returns
returns c =
    λ i. alike c.args.map c.piece.result.map c.piece.ensures i && (alike c.args.map c.piece-2.result.map c.piece-2.ensures i && (alike c.args.map c.piece-3.result.map c.piece-3.ensures i && (alike c.args.map c.piece-4.result.map c.piece-4.ensures i && true)))
