use Rattle.std.proofs.Common.{◌≡◌, Some, refl, subst}
use Rattle.knx_model.specs.declared.frames.cemi.Ldata.{Ldata}
use Rattle.line_model.specs.Tunnel as tunnel
use Rattle.line_model.specs.World.{World, DevRepeat, heard, step}
use Rattle.line_sim.specs.Line.{LineNow, IsNow}
use Rattle.tunnel_sim.specs.Tunnels.{IsTunnel, at_gateway, tunnel_now}
use Rattle.line_sim.proofs.Lines.{repeats_so, repeats_nothing, roomy}
use Rattle.line_sim.proofs.line.Line.dev_repeat.Goals as goal

pub returns-in_default-clause-next : goal.returns-in_default-clause-next
returns-in_default-clause-next c =
    let old : LineNow = record { tunnel = tunnel_now c.self.inside.tunnel; devices = c.self.inside.devices; echo = c.self.inside.echo } in
    let seen : old ≡ c.args.self.now = let h = c.self.view_is in cc in
    let new : LineNow = record { tunnel = tunnel_now c.elsewhere.new.self; devices = c.repeat.new.self; echo = c.self.inside.echo } in
    subst (λ (n : LineNow). (w : World) → IsNow n w → IsNow new (step w (DevRepeat c.args.device (at_gateway c.args.at)))) seen
    (λ w is. repeats_nothing old new w c.args.device (at_gateway c.args.at) c.in_default.ensures.frame is (λ t held. c.elsewhere.ensures t (roomy old.tunnel _ t c.reserve.ensures.items held)) c.in_default.ensures.next refl)

pub returns-clause-next : goal.returns-clause-next
returns-clause-next c =
    let old : LineNow = record { tunnel = tunnel_now c.self.inside.tunnel; devices = c.self.inside.devices; echo = c.self.inside.echo } in
    let seen : old ≡ c.args.self.now = let h = c.self.view_is in cc in
    let new : LineNow = record { tunnel = tunnel_now c.hear.new.self; devices = c.repeat.new.self; echo = Some c.in-Some.frame } in
    subst (λ (n : LineNow). (w : World) → IsNow n w → IsNow new (step w (DevRepeat c.args.device (at_gateway c.args.at)))) seen
    (λ w is. repeats_so old new w c.args.device (at_gateway c.args.at) (Some c.in-Some.frame) c.in-Some.ensures.frame is
    (λ t held. subst (λ (f : Ldata). IsTunnel new.tunnel (tunnel.step t (heard (at_gateway c.args.at) (Some f)))) c.copied.ensures (c.hear.ensures t (roomy old.tunnel _ t c.reserve.ensures.items held)))
    c.in-Some.ensures.next refl)
