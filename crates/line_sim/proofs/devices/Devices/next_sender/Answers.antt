use Rattle.std.proofs.Common.{◌≡◌, ◌≤◌, ◌<◌, ◌*◌, ◌+◌, ℕ, List, Option, None, ap, sym, ◌∙◌, subst, arith}
use Rattle.knx_model.specs.DeviceState.{DeviceState}
use Rattle.line_sim.specs.Places.{DevicesNow, device_at, sending_at}
use Rattle.line_sim.proofs.Nearest.{AllQuiet, all_silent, quiet_between, silent_at_end, silent_before, silent_with}
use Rattle.line_sim.proofs.devices.Devices.next_sender.Goals as goal

pub returns-in-Some-sending_in-clause-least : goal.returns-in-Some-sending_in-clause-least
returns-in-Some-sending_in-clause-least c =
    let places : c.self.inside.places.items ≡ c.args.self.now.places = ap (λ (n : DevicesNow). n.places) c.self.view_is in
    let line : c.from.result ≡ c.args.self.now.line = c.from.ensures ∙ ap (λ (n : DevicesNow). n.line) c.self.view_is in
    let end : c.in-Some.next ≤ 256 = omega (arith, c.in-Some.ensures.within.1) in
    let quiet : AllQuiet c.args.self.now.places c.loop-next.part c.in-Some.next
    = subst (λ (there : List (Option DeviceState)). AllQuiet there c.loop-next.part c.in-Some.next) places (quiet_between c.self.inside.line c.self.inside.places.items c.self.inside.busy _ _ c.self.invariant end c.in-Some.ensures.none_between) in
    subst (λ (k : ℕ). (a : ℕ) → a < k * 256 + c.in-Some.next → sending_at (device_at c.args.self.now a) c.args.now ≡ None) (sym line)
    (silent_before c.args.self.now c.args.now c.in-Some.next (silent_at_end c.args.self.now.places c.args.now c.loop-next.part c.in-Some.next quiet c.loop-next.invariant.none))

pub loop-next-preserved : goal.loop-next-preserved
loop-next-preserved c =
    let places : c.self.inside.places.items ≡ c.args.self.now.places = ap (λ (n : DevicesNow). n.places) c.self.view_is in
    let end : c.in-Some.next ≤ 256 = omega (arith, c.in-Some.ensures.within.1) in
    let quiet : AllQuiet c.args.self.now.places c.loop-next.part c.in-Some.next
    = subst (λ (there : List (Option DeviceState)). AllQuiet there c.loop-next.part c.in-Some.next) places (quiet_between c.self.inside.line c.self.inside.places.items c.self.inside.busy _ _ c.self.invariant end c.in-Some.ensures.none_between) in
    record {
      within = omega (arith, c.in-Some.ensures.within.1);
      none = silent_with c.args.self.now.places c.args.now c.in-Some.next (sym c.sending_in.ensures ∙ c.in_default-sending_in.is)
          (silent_at_end c.args.self.now.places c.args.now c.loop-next.part c.in-Some.next quiet c.loop-next.invariant.none);
    }

pub returns-clause-none : goal.returns-clause-none
returns-clause-none c =
    let places : c.self.inside.places.items ≡ c.args.self.now.places = ap (λ (n : DevicesNow). n.places) c.self.view_is in
    let quiet : AllQuiet c.args.self.now.places c.loop-next.part 256
    = subst (λ (there : List (Option DeviceState)). AllQuiet there c.loop-next.part 256) places (quiet_between c.self.inside.line c.self.inside.places.items c.self.inside.busy _ _ c.self.invariant (omega arith) c.in_default.ensures.none) in
    all_silent c.args.self.now c.args.now (silent_at_end c.args.self.now.places c.args.now c.loop-next.part 256 quiet c.loop-next.invariant.none)
