use Rattle.calm_law.proofs.the_gateway_tells_its_own_address.Goals as goal
use Rattle.calm_law.proofs.TunnelTold.{tunnel_is_told}

pub returns : goal.returns
returns c = tunnel_is_told
