use Rattle.manager_core.proofs.Comings.{comes_on, event_goes, event_stays, event_waits, still_on}
use Rattle.manager_core.proofs.manager.Core.event.Goals as goal

pub returns-in-Going-clause-comes : goal.returns-in-Going-clause-comes
returns-in-Going-clause-comes g c =
    let on = still_on c.args.self.now.stop c.in_default.not-Some in
    comes_on c.args.self.now.stop on c.args.tagged c.args.session c.args.event _ _ _ (event_goes c.args.session c.args.event _ _ on c.requires.may_come c.in-Going.number c.in-Going.ensures.comes)

pub returns-in-Going-clause-stays : goal.returns-in-Going-clause-stays
returns-in-Going-clause-stays g c = event_stays c.args.session c.args.event _ _ (still_on c.args.self.now.stop c.in_default.not-Some) c.requires.may_come c.in-Going.number c.in-Going.ensures.comes

pub returns-in-Ended-clause-comes : goal.returns-in-Ended-clause-comes
returns-in-Ended-clause-comes g c =
    let on = still_on c.args.self.now.stop c.in_default.not-Some in
    comes_on c.args.self.now.stop on c.args.tagged c.args.session c.args.event _ _ _ (c.conclude.ensures.comes _ c.args.event c.args.tagged c.tag_of-tag.ensures.tag
    (event_waits c.args.session c.args.event _ _ on c.requires.may_come c.in-Ended.command c.in-Ended.answer c.in-Ended.number c.in-Ended.ensures.comes c.come.ensures.later))

pub returns-in-Ended-clause-stays : goal.returns-in-Ended-clause-stays
returns-in-Ended-clause-stays g c = c.conclude.ensures.stays _ c.args.event
    (event_waits c.args.session c.args.event _ _ (still_on c.args.self.now.stop c.in_default.not-Some) c.requires.may_come c.in-Ended.command c.in-Ended.answer c.in-Ended.number c.in-Ended.ensures.comes c.come.ensures.later)
