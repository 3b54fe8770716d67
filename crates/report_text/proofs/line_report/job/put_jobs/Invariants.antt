use Rattle.std.proofs.Common.{◌≡◌, ◌+◌, ◌++◌, drop}
use Rattle.std.specs.List.{flat_map, enumerate_from}
use Rattle.call_words.specs.Printed.{job_line}
use Rattle.report_text.proofs.line_report.job.put_jobs.Given as goal

-- the lines so far and those of the jobs that are left are all lines
abbrev pub invariant-loop-place : goal.invariant-loop-place
invariant-loop-place l = l.out ++ flat_map (λ p. job_line l.log p.0 p.1) (enumerate_from (l.place + 1) (drop l.place l.jobs)) ≡ l.fn.out ++ flat_map (λ p. job_line l.log p.0 p.1) (enumerate_from 1 l.jobs)
