use Rattle.report_text.proofs.ReadBack.{fault_is_told, whole_is_told, log_is_told}
use Rattle.report_text.proofs.laws.a_run_is_read_from_its_text.Goals as goal

pub returns : goal.returns
returns c = record { fault = fault_is_told; whole = whole_is_told; log = log_is_told }
