use Rattle.std.proofs.Common.{◌≡◌, refl, ap, subst, arith, rules, IsTrue}
use Rattle.sqlite.specs.State.{HasCleanDisk, KeepsCommit}
use Rattle.sqlite.specs.Steps.{FailsToCommit}
use Rattle.sqlite.specs.Held.{state}
use Rattle.cell_table.proofs.ChangeLemmas.{undone_is, failed_is, always, on_failure}
use Rattle.cell_table.proofs.change.Goals as goal

pub returns-in_err-make_all-clause-unmade : goal.returns-in_err-make_all-clause-unmade
returns-in_err-make_all-clause-unmade g c clean is_open =
    let old = c.args.conn.now in
    let last = c.make_all.new.tx.conn.now in
    let end = c.drop-tx.new.self.0 in
    let first = c.transaction-tx.result.conn.now in
    let begun = c.transaction-tx.ensures.begun in
    let same : end ≡ c.conn-1.given.0 = search rules in
    let late : HasCleanDisk (state g.S.Store end) = rw same clean in
    let open_end : IsTrue (state g.S.Store end).is_open = rw same is_open in
    let kept : KeepsCommit (state g.S.Store first) (state g.S.Store last) = c.make_all.ensures.kept (omega (arith, c.drop-tx.ensures.survives.clean)) in
    let undone = undone_is (state g.S.Store old) (state g.S.Store first) (state g.S.Store last) (state g.S.Store end) (c.is_autocommit-settled.ensures.settled (rw c.requires at c.is_autocommit-settled.ensures.value))
    (ap (λ h. (state g.S.Store h).committed) begun) (λ o. subst (λ h. IsTrue (state g.S.Store h).is_open) begun o) kept (c.drop-tx.ensures.undone late) open_end in
    always c.from_residual.result (rw same at undone)

pub returns-clause-unmade : goal.returns-clause-unmade
returns-clause-unmade g c clean is_open =
    let old = c.args.conn.now in
    let last = c.make_all.new.tx.conn.now in
    let end = c.commit.new.self.0 in
    let first = c.transaction-tx.result.conn.now in
    let begun = c.transaction-tx.ensures.begun in
    let same : end ≡ c.conn-2-1.given.0 = search rules in
    let late : HasCleanDisk (state g.S.Store end) = rw same clean in
    let open_end : IsTrue (state g.S.Store end).is_open = rw same is_open in
    let mid : HasCleanDisk (state g.S.Store last) = omega (arith, c.commit.ensures.survives.clean) in
    let kept : KeepsCommit (state g.S.Store first) (state g.S.Store last) = c.make_all.ensures.kept mid in
    let began : IsTrue (state g.S.Store first).in_transaction = rw begun refl in
    let inside : IsTrue (state g.S.Store last).in_transaction = c.in_ok-make_all.ensures.inside mid began in
    on_failure (FailsToCommit (state g.S.Store last) (state g.S.Store end)) c.commit.result (c.commit.ensures.err late) (λ e fails.
    let undone = failed_is (state g.S.Store old) (state g.S.Store first) (state g.S.Store last) (state g.S.Store end) e (c.is_autocommit-settled.ensures.settled (rw c.requires at c.is_autocommit-settled.ensures.value))
    (ap (λ h. (state g.S.Store h).committed) begun) (λ o. subst (λ h. IsTrue (state g.S.Store h).is_open) begun o) kept inside fails open_end in
    rw same at undone)
