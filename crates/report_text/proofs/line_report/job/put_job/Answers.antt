use Rattle.std.specs.Prelude.{codes, [], ◌∷◌}
use Rattle.std.specs.Fmt.{decimal}
use Rattle.std.specs.List.{filter_map}
use Rattle.knx_model.specs.Addresses.{device_text}
use Rattle.call_words.specs.ReportText.{first_or_open, job_word}
use Rattle.call_words.specs.Printed.{end_of}
use Rattle.report_text.proofs.Lines.{line_more}
use Rattle.report_text.proofs.line_report.job.put_job.Goals as goal

pub returns : goal.returns
returns c =
    line_more c.push.result (codes "job") (decimal c.args.number ∷ job_word c.args.job.kind ∷ device_text c.args.job.device ∷ []) (first_or_open (filter_map (λ entry. end_of c.args.number entry.what) c.args.log.now)) _ _ _ _ c.in_ok-put_job_words.ensures c.in_ok-put_end.ensures c.push.ensures.ok
