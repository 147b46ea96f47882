use Rattle.manager_core.specs.Cores.{Parts, parts}
use Rattle.script_shell.proofs.ServingLaws.{asked_course, gone_course, course_ends, going_is_long}
use Rattle.script_shell.proofs.run.run_command.Goals as goal

pub returns-clause-serves : goal.returns-clause-serves
returns-clause-serves g c =
    let old : Parts = parts (g.W.World.outside c.args.core.now.world) c.args.core.now.journal.entries c.args.core.now.doings c.args.core.now.known c.args.core.now.stop in
    let asked = c.event-asked.new.self in
    let begun : Parts = parts (g.W.World.outside asked.world) asked.journal.entries asked.doings asked.known asked.stop in
    let first = c.go_on-first.new.core in
    let one : Parts = parts (g.W.World.outside first.world) first.journal.entries first.doings first.known first.stop in
    let second = c.go_on-second.new.core in
    let two : Parts = parts (g.W.World.outside second.world) second.journal.entries second.doings second.known second.stop in
    let third = c.go_on.new.core in
    let three : Parts = parts (g.W.World.outside third.world) third.journal.entries third.doings third.known third.stop in
    course_ends c.args.session c.args.command old three c.go_on.result
    (gone_course 2 c.args.session c.args.command old two three c.go_on-second.result c.go_on.result
    (gone_course 1 c.args.session c.args.command old one two c.go_on-first.result c.go_on-second.result
    (gone_course 0 c.args.session c.args.command old begun one c.event-asked.result c.go_on-first.result
    (asked_course c.args.session c.args.command old begun c.requires.goes (λ d op stage is. going_is_long asked.doings c.args.session d op stage c.proper.ensures is) c.event-asked.ensures.stays c.event-asked.ensures.later c.event-asked.result c.event-asked.ensures.comes)
    c.go_on-first.ensures.further c.go_on-first.ensures.later)
    c.go_on-second.ensures.further c.go_on-second.ensures.later)
    c.go_on.ensures.further c.go_on.ensures.later)
