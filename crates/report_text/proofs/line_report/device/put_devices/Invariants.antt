use Rattle.std.proofs.Common.{◌≡◌, ◌++◌, drop}
use Rattle.std.specs.List.{flat_map}
use Rattle.call_words.specs.Printed.{device_line}
use Rattle.report_text.proofs.line_report.device.put_devices.Given as goal

-- the lines so far and those that are left are all lines
abbrev pub invariant-loop-shown : goal.invariant-loop-shown
invariant-loop-shown l = l.out ++ flat_map device_line (drop l.shown-index l.devices) ≡ l.fn.out ++ flat_map device_line l.devices
