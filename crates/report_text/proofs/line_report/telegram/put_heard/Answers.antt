use Rattle.std.specs.Prelude.{codes, [], ◌∷◌}
use Rattle.knx_model.specs.Addresses.{device_text, group_text}
use Rattle.call_words.specs.Printed.{service_words}
use Rattle.report_text.proofs.Lines.{line_more}
use Rattle.report_text.proofs.line_report.telegram.put_heard.Goals as goal

pub returns : goal.returns
returns c =
    line_more c.push.result (codes "heard") (group_text c.args.heard.now.group ∷ device_text c.args.heard.now.«from» ∷ []) (service_words c.args.heard.now.service) _ _ _ _ c.in_ok-put_heard_words.ensures c.in_ok-put_service.ensures c.push.ensures.ok
