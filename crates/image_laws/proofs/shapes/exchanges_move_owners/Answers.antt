use Rattle.image_laws.proofs.FitLaws.{old_owned, new_owns, owner_stays, owner_was_old, owner_is_new, unowned_before, unowned_after}
use Rattle.image_laws.proofs.shapes.exchanges_move_owners.Goals as goal

pub returns-clause-before : goal.returns-clause-before
returns-clause-before c = old_owned

pub returns-clause-after : goal.returns-clause-after
returns-clause-after c = new_owns

pub returns-clause-elsewhere : goal.returns-clause-elsewhere
returns-clause-elsewhere c = owner_stays

pub returns-clause-was_old : goal.returns-clause-was_old
returns-clause-was_old c = owner_was_old

pub returns-clause-is_new : goal.returns-clause-is_new
returns-clause-is_new c = owner_is_new

pub returns-clause-bare_before : goal.returns-clause-bare_before
returns-clause-bare_before c = unowned_before

pub returns-clause-bare_after : goal.returns-clause-bare_after
returns-clause-bare_after c = unowned_after
