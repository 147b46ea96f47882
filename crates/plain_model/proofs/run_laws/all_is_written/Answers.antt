use Rattle.plain_model.proofs.RunsAtMoments.{all_lines_written, summary_written}
use Rattle.plain_model.proofs.WrittenAtMoments.{all_by_moments}
use Rattle.plain_model.proofs.run_laws.all_is_written.Goals as goal

pub returns-clause-each_reply : goal.returns-clause-each_reply
returns-clause-each_reply c = all_lines_written

pub returns-clause-summary : goal.returns-clause-summary
returns-clause-summary c = summary_written

pub returns-clause-in_parts : goal.returns-clause-in_parts
returns-clause-in_parts c = all_by_moments
