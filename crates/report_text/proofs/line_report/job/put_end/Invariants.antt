use Rattle.std.proofs.Common.{◌≡◌, drop}
use Rattle.std.specs.List.{filter_map}
use Rattle.call_words.specs.ReportText.{first_or_open}
use Rattle.call_words.specs.Printed.{end_of}
use Rattle.report_text.proofs.line_report.job.put_end.Given as goal

-- nothing is appended, and the entries that are left end the job as all do
abbrev pub invariant-loop-entry : goal.invariant-loop-entry
invariant-loop-entry l = record {
  unchanged : l.out ≡ l.fn.out;
  ends : first_or_open (filter_map (λ entry. end_of l.job entry.what) (drop l.entry-index l.log)) ≡ first_or_open (filter_map (λ entry. end_of l.job entry.what) l.log);
}
