-- The devices that a run is prepared for are on the line.
use Rattle.std.proofs.Common.{ℕ, ◌≡◌, Bool, true, false, List, [], ◌∷◌, filter, Option, Some, None, All, refl, sym, ap, subst}
use Rattle.std.specs.Prelude.{IsSome}
use Rattle.std.specs.List.{AllByRecursion}
use Rattle.std.proofs.lemmas.List.Elements.{All-from_recursion}
use Rattle.bus_sim.specs.RunNow.{start, world}
use Rattle.knx_model.specs.declared.address.IndAddr.{IndAddr}
use Rattle.knx_model.specs.declared.config.Image.{Image}
use Rattle.knx_model.specs.DeviceState.{DeviceState}
use Rattle.knx_model.specs.Meaning.{Installation}
use Rattle.line_model.specs.Lines.{Script, script_of}
use Rattle.line_model.specs.StartOf.{BusOf, DeviceBegins, is_on_bus, line_of, nothing_kept, tunnel_address}
use Rattle.line_model.specs.World.{World, Event, replay}
use Rattle.knx_top.specs.Begun.{BeginsLine, IsOrder}
use Rattle.call_parts.specs.OnLine.{AreCompiled, addresses_of_line, on_bus}
use Rattle.knx_top.specs.declared.commands.sim.judge.Order.{Order}
use Rattle.knx_top.specs.Ran.{Commission}

each_passes : (p : IndAddr → Bool) (listed : List IndAddr) → AllByRecursion (λ a. p a ≡ true) (filter p listed)
each_passes p [] = tt
each_passes p (a ∷ listed) = where_passed (p a) p a listed refl (each_passes p listed)
  where
    where_passed : (b : Bool) (p : IndAddr → Bool) (a : IndAddr) (listed : List IndAddr) → p a ≡ b → AllByRecursion (λ a. p a ≡ true) (filter p listed) → AllByRecursion (λ a. p a ≡ true) (filter p (a ∷ listed))
    where_passed true p a listed e rest = rw e (e, rest)
    where_passed false p a listed e rest = rw e rest

all_on_bus : (new old : Installation) → AllByRecursion (λ a. is_on_bus new old a.raw ≡ true) (on_bus new old)
unfolding on_bus
all_on_bus new old = each_passes (λ (d : IndAddr). is_on_bus new old d.raw) (addresses_of_line (line_of (tunnel_address new).raw))

some_begins : (old : Installation) (script : Script) (device : ℕ) (b : Bool) (d : Option DeviceState) → b ≡ true → DeviceBegins old script device None b d → IsSome d
some_begins old script device true (Some d) e h = refl
some_begins old script device true None e h = absurd h
some_begins old script device false d e h = absurd cc

each_there : (project new old : Installation) (script : Script) (w : World) (devices : List (IndAddr × Option Image)) (listed : List IndAddr) → BusOf new old script nothing_kept w → AreCompiled project devices listed → AllByRecursion (λ a. is_on_bus new old a.raw ≡ true) listed
    → AllByRecursion (λ d. IsSome (w.devices d.0.raw)) devices
each_there project new old script w [] [] bus are all = tt
each_there project new old script w [] (a ∷ listed) bus are all = absurd are
each_there project new old script w (d ∷ ds) [] bus are all = absurd are
each_there project new old script w (d ∷ ds) (a ∷ listed) bus are all =
    let here : IsSome (w.devices a.raw) = some_begins old script a.raw (is_on_bus new old a.raw) (w.devices a.raw) all.0 (bus.devices a.raw) in
    (subst (λ (x : IndAddr). IsSome (w.devices x.raw)) (sym are.0.device) here, each_there project new old script w ds listed bus are.1 all.1)

pub devices_there : (c : Commission) (order : Order) → IsOrder c order → All (λ (d : IndAddr × Option Image). IsSome ((world order.line.run).devices d.0.raw)) order.devices
devices_there c order is =
    let begins : BeginsLine c.project c.before c.script order.line.run = is.line in
    let now : start order.line.run ≡ world order.line.run = ap (λ (events : List Event). replay (start order.line.run) events) (sym begins.nothing) in
    subst (λ (w : World). All (λ (d : IndAddr × Option Image). IsSome (w.devices d.0.raw)) order.devices) now
    (All-from_recursion _ order.devices (each_there c.project c.project c.before (script_of c.script) (start order.line.run) order.devices (on_bus c.project c.before) begins.begins is.prepared.devices (all_on_bus c.project c.before)))
