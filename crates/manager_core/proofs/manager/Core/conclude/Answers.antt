use Rattle.std.proofs.Common.{refl, ap, Some, None, [], take, drop}
use Rattle.std.specs.Prelude.{Ok, Err}
use Rattle.std.proofs.lemmas.List.{append-nil, take-append-drop}
use Rattle.cell_world.specs.declared.outside.WorldError.TheVariants as error
use Rattle.plain_model.specs.Lines.{reply_lines, tag_of}
use Rattle.manager_core.proofs.Concluding.{enters, stays}
use Rattle.manager_core.proofs.Writings.{rose_then, wrote}
use Rattle.manager_core.proofs.manager.Core.conclude.Goals as goal

pub returns-in-Ok-clause-comes : goal.returns-in-Ok-clause-comes
returns-in-Ok-clause-comes g c = λ old event tagged tag waits.
    let r = c.args.answer.reply in
    let lines = reply_lines (tag_of tagged c.args.session) r in
    let writes = wrote _ _ c.args.tag (tag_of tagged c.args.session) r _ (Ok tt) tag refl (c.in-Ok.ensures.writes r c.requires.lines) in (
      r,
      c.sort-sort.ensures,
      c.stop_after-self.ensures,
      enters c.args.session event c.args.command r c.args.number c.moment-moment.result old _ waits c.moment-moment.ensures _ c.push.ensures.entries refl c.forget_after.ensures (Some lines) writes c.write_lines.ensures.later tagged [] (append-nil lines),
    )

pub returns-in-Ok-clause-stays : goal.returns-in-Ok-clause-stays
returns-in-Ok-clause-stays g c = λ old event waits.
    let r = c.args.answer.reply in
    let writes = c.in-Ok.ensures.writes r c.requires.lines in
    stays c.args.session event c.args.command r c.args.number c.moment-moment.result old _ waits c.moment-moment.ensures _ c.push.ensures.entries refl c.forget_after.ensures (Some (reply_lines c.args.tag r)) writes c.write_lines.ensures.later

pub returns-in-Err-Failed-clause-comes : goal.returns-in-Err-Failed-clause-comes
returns-in-Err-Failed-clause-comes g c = λ old event tagged tag waits.
    let r = c.args.answer.reply in
    let lines = reply_lines (tag_of tagged c.args.session) r in
    let failed = ap Err c.in-Err-Failed.field-0-is in
    let writes = wrote _ _ c.args.tag (tag_of tagged c.args.session) r _ (Err error.Failed) tag failed (c.in-Err-Failed.ensures.writes r c.requires.lines) in (
      r,
      refl,
      rose_then old.outside.sink_faults (g.W.World.outside c.args.self.now.world).sink_faults (g.W.World.outside c.write_lines.new.world).sink_faults waits.later.sink (c.in-Err-Failed.ensures.cause failed),
      (
        take writes.0 lines,
        drop writes.0 lines,
        enters c.args.session event c.args.command r c.args.number c.moment-moment.result old _ waits c.moment-moment.ensures _ c.push.ensures.entries refl c.forget_after.ensures (Some (take writes.0 lines)) writes.1 c.write_lines.ensures.later tagged (drop writes.0 lines)
            (take-append-drop writes.0 lines),
      ),
    )

pub returns-in-Err-Failed-clause-stays : goal.returns-in-Err-Failed-clause-stays
returns-in-Err-Failed-clause-stays g c = λ old event waits.
    let r = c.args.answer.reply in
    let writes = wrote _ _ c.args.tag c.args.tag r _ (Err error.Failed) refl (ap Err c.in-Err-Failed.field-0-is) (c.in-Err-Failed.ensures.writes r c.requires.lines) in
    stays c.args.session event c.args.command r c.args.number c.moment-moment.result old _ waits c.moment-moment.ensures _ c.push.ensures.entries refl c.forget_after.ensures (Some (take writes.0 (reply_lines c.args.tag r))) writes.1 c.write_lines.ensures.later

pub returns-clause-comes : goal.returns-clause-comes
returns-clause-comes g c = λ old event tagged tag waits.
    let r = c.args.answer.reply in
    let writes = wrote _ _ c.args.tag c.args.tag r _ (Err error.Memory) refl (ap Err c.in-Err-Memory.field-0-is) (c.in-Err-Memory.ensures.writes r c.requires.lines) in (
      r,
      refl,
      enters c.args.session event c.args.command r c.args.number c.moment-moment.result old _ waits c.moment-moment.ensures _ c.push.ensures.entries refl c.forget_after.ensures None writes c.write_lines.ensures.later tagged (reply_lines (tag_of tagged c.args.session) r) refl,
    )

pub returns-clause-stays : goal.returns-clause-stays
returns-clause-stays g c = λ old event waits.
    let r = c.args.answer.reply in
    let writes = wrote _ _ c.args.tag c.args.tag r _ (Err error.Memory) refl (ap Err c.in-Err-Memory.field-0-is) (c.in-Err-Memory.ensures.writes r c.requires.lines) in
    stays c.args.session event c.args.command r c.args.number c.moment-moment.result old _ waits c.moment-moment.ensures _ c.push.ensures.entries refl c.forget_after.ensures None writes c.write_lines.ensures.later
