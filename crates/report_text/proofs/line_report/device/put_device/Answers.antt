use Rattle.std.proofs.Common.{◌≡◌, ◌++◌, ◌∙◌, ap, subst}
use Rattle.std.specs.Prelude.{codes, map, OnOk, [], ◌∷◌}
use Rattle.knx_model.specs.Addresses.{device_text}
use Rattle.call_words.specs.ReportText.{case_word}
use Rattle.call_words.specs.Printed.{value_word, device_line}
use Rattle.report_text.specs.Behind.{behind}
use Rattle.report_text.proofs.Lines.{line_more}
use Rattle.report_text.proofs.line_report.device.put_device.Goals as goal

pub returns : goal.returns
returns c =
    subst (λ d. OnOk c.push.result (c.push.new.self ≡ c.args.out.now ++ device_line d)) c.shown.view_is
    (line_more c.push.result (codes "device") (device_text c.shown.inside.device ∷ case_word c.shown.inside.case ∷ []) (map value_word c.shown.inside.values) _ _ _ _ c.in_ok-put_device_words.ensures (c.in_ok-put_values.ensures ∙ ap (λ vs. c.put_device_words.new.out ++ behind (map value_word vs)) c.as_slice.ensures) c.push.ensures.ok)
