use Rattle.image_laws.specs.CommitEdits.{puts}
use Rattle.op_steps.proofs.CommitLaws.{edits_both, puts-append}
use Rattle.op_steps.proofs.committing.put_pieces.Goals as goal

pub returns : goal.returns
returns c = edits_both puts puts-append _ _ _ c.args.pieces.now.one c.args.pieces.now.two c.in_ok-put_piece.ensures c.in_ok-put_piece-2.ensures
