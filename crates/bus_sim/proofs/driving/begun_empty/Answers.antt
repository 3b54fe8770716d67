use Rattle.std.proofs.Common.{[], refl, sym, subst}
use Rattle.knx_model.specs.ScriptText as text
use Rattle.bus_sim.specs.declared.clients.Clients.TheVariants.{One}
use Rattle.bus_sim.specs.Held.{IsLoaded}
use Rattle.bus_sim.proofs.driving.begun_empty.Goals as goal

pub begin-requires : goal.begin-requires
unfolding text.strangers
begin-requires c =
    subst (λ ds. IsLoaded (record { clients = One; tunnel = record { raw = 4607 }; devices = ds; script = c.new-2.result })) (sym c.new.ensures)
    (subst (λ ls. IsLoaded (record { clients = One; tunnel = record { raw = 4607 }; devices = []; script = ls })) (sym c.new-2.ensures) (record { can = tt; lines = refl; known = refl }))
