use Rattle.std.proofs.Common.{slice_get, None, sym, ◌∙◌}
use Rattle.knx_model.specs.declared.frames.ip.IpFrame.TheVariants.{ConnectResponse}
use Rattle.line_model.specs.Network.{changed_at, once_more}
use Rattle.line_model.specs.Tunnel.{with_up}
use Rattle.tunnel_sim.proofs.Tunnels.{refused, refused_not}
use Rattle.tunnel_sim.proofs.tunnel.Tunnel.refuse.Goals as goal

pub returns-in-Some : goal.returns-in-Some
returns-in-Some c t is = refused _ c.in-Some.from c.args.status (with_up t (changed_at c.args.age once_more t.network.up)) (slice_get t.network.up c.args.age) (sym c.in-Some.is ∙ c.sender-from.ensures t is)
    (c.post.ensures (with_up t (changed_at c.args.age once_more t.network.up)) (ConnectResponse 0 c.args.status None) (record { present = is.present; now = is.now; up = c.deliver.ensures.simulates t.network.up is.up; down = is.down; short = is.short; gateway = is.gateway }) c.refusal.ensures)

pub returns-in_default : goal.returns-in_default
returns-in_default c t is = refused_not _ c.args.status (with_up t (changed_at c.args.age once_more t.network.up)) (slice_get t.network.up c.args.age) (record { present = is.present; now = is.now; up = c.deliver.ensures.simulates t.network.up is.up; down = is.down; short = is.short; gateway = is.gateway }) (sym c.in_default.is ∙ c.sender-from.ensures t is)
