use Rattle.script_lang.proofs.WritingLaws.{as_told, difference_list}
use Rattle.script_lang.proofs.replies.add_difference_list.Goals as goal

pub returns : goal.returns
returns c =
    as_told c.add_differences.result _ _ _
    (difference_list c.args.tag c.args.keys c.args.differences.now c.args.lines.now.items c.add_count_line.new.lines.items c.in_ok-add_count_line.ensures) c.add_differences.ensures
