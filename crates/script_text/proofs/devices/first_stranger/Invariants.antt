use Rattle.std.proofs.Common.{◌≡◌, drop}
use Rattle.knx_model.specs.ScriptText.{strangers}
use Rattle.script_text.proofs.devices.first_stranger.Given as goal

-- the strangers are those of the lines that are left
abbrev pub invariant-loop-line : goal.invariant-loop-line
invariant-loop-line l = strangers l.devices (drop l.line-index l.lines) ≡ strangers l.devices l.lines
