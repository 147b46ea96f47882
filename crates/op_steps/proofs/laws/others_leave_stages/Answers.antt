use Rattle.op_steps.proofs.StagesStay.{advance_leaves, undo_leaves, begin_leaves, short_leaves, job_site_leaves}
use Rattle.op_steps.proofs.laws.others_leave_stages.Goals as goal

pub returns-clause-goes_on : goal.returns-clause-goes_on
returns-clause-goes_on c = advance_leaves

pub returns-clause-undone : goal.returns-clause-undone
returns-clause-undone c = undo_leaves

pub returns-clause-begins : goal.returns-clause-begins
returns-clause-begins c = begin_leaves

pub returns-clause-short : goal.returns-clause-short
returns-clause-short c = short_leaves

pub returns-clause-jobs_and_sites : goal.returns-clause-jobs_and_sites
returns-clause-jobs_and_sites c = job_site_leaves
