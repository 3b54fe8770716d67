use Rattle.std.proofs.Common.{rules, arith}
use Rattle.knx_model.specs.Apdu.{Reads}
use Rattle.knx_model.specs.declared.frames.tpdu.Tpdu.TheVariants.{Unnumbered}
use Rattle.apdu_frames.proofs.Ranges.{service_in_range}
use Rattle.apdu_frames.proofs.service.service_in.Goals as goal

pub returns-in-Ok-Unnumbered-clause-range : goal.returns-in-Ok-Unnumbered-clause-range
returns-in-Ok-Unnumbered-clause-range c =
    let octets = c.args.octets.now in
    let read : Reads octets (Unnumbered c.in-Ok-Unnumbered.apdu) = search rules in
    service_in_range octets (λ k. omega (arith, c.type_inv.octets k)) c.in-Ok-Unnumbered.apdu read
