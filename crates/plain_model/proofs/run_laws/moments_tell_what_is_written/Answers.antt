use Rattle.plain_model.proofs.WrittenBack.{written_before_from, written_now_from, written_at_moments, all_at_end, all_at_end_from}
use Rattle.plain_model.proofs.run_laws.moments_tell_what_is_written.Goals as goal

pub returns-clause-before : goal.returns-clause-before
returns-clause-before c = written_before_from

pub returns-clause-now : goal.returns-clause-now
returns-clause-now c = written_now_from

pub returns-clause-at_moments : goal.returns-clause-at_moments
returns-clause-at_moments c = written_at_moments

pub returns-clause-all : goal.returns-clause-all
returns-clause-all c mode trail t0 going history le legal = (all_at_end_from mode trail t0 going history le legal, all_at_end mode trail t0 going history le legal)
