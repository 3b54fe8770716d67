use Rattle.report_text.proofs.Statuses.{done_exactly}
use Rattle.report_text.proofs.laws.a_run_is_done_where_each_job_is.Goals as goal

pub returns : goal.returns
returns c = done_exactly
