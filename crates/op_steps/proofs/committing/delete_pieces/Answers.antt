use Rattle.image_laws.specs.CommitEdits.{deletes}
use Rattle.op_steps.proofs.CommitLaws.{edits_both, deletes-append}
use Rattle.op_steps.proofs.committing.delete_pieces.Goals as goal

pub returns : goal.returns
returns c = edits_both deletes deletes-append _ _ _ c.args.pieces.now.one c.args.pieces.now.two c.in_ok-delete_piece.ensures c.in_ok-delete_piece-2.ensures
