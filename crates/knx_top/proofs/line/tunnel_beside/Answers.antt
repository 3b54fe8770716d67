use Rattle.std.proofs.Common.{◌∙◌}
use Rattle.knx_top.proofs.Tunnels.{tunnel_some, tunnel_none}
use Rattle.knx_top.proofs.line.tunnel_beside.Goals as goal

pub returns-in-Some : goal.returns-in-Some
returns-in-Some c = λ devices e. tunnel_some devices c.in-Some.first (e ∙ c.in-Some.is)

pub returns-in-None : goal.returns-in-None
returns-in-None c = λ devices e. tunnel_none devices (e ∙ c.in-None.is)
