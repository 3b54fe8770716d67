use Rattle.std.proofs.Common.{◌≡◌, refl, subst, sym, ◌∙◌}
use Rattle.line_model.specs.Legal.{IsLegal}
use Rattle.line_model.specs.World.{Renew}
use Rattle.bus_sim.specs.declared.clients.Clients.TheVariants.{One}
use Rattle.bus_sim.specs.Begun.{mode_of, start_of}
use Rattle.bus_sim.specs.Owing.{LetsClient}
use Rattle.bus_sim.specs.RunNow.{RunState}
use Rattle.bus_sim.proofs.Counting.{uncounted, takes_nothing, writes_nothing}
use Rattle.bus_sim.proofs.Holds.{after_client, run}
use Rattle.bus_sim.proofs.Laws.{endpoints}
use Rattle.bus_sim.proofs.Rights.{renew_right}
use Rattle.bus_sim.proofs.run.Run.renew.Goals as goal

pub invariant_of-self-2 : goal.invariant_of-self-2
invariant_of-self-2 c =
    after_client c.self.inside.begun c.self.inside.events.list c.make_room.new.events.list c.push.new.self.list c.self.inside.index c.self.inside.line c.renew.new.self c.self.inside.counts c.self.inside.counts c.self.inside.owed.list c.make_room.new.owed.list c.wait.new.self.list (Renew) refl tt c.self.invariant c.renew.ensures
    (renew_right (run c.self.inside.begun c.self.inside.events.list) (subst (λ (v : RunState). v.begun.clients ≡ One) (sym c.self.view_is) c.in_ok-drives.ensures.one) (subst LetsClient (c.make_room.ensures.owed ∙ c.self.invariant.called) c.wait.ensures.lets)) c.make_room.ensures.events c.push.ensures.list c.in_ok-make_room.ensures.few c.make_room.ensures.owed c.wait.ensures.list refl
    (uncounted c.self.inside.counts (start_of c.self.inside.begun) c.self.inside.events.list (Renew) (record { to = λ a. refl; from = λ a. refl; taken = λ a. takes_nothing _; wrote = λ a. writes_nothing _; connect = refl }) c.self.invariant.counted) refl

pub renew-requires : goal.renew-requires
renew-requires c =
    let one : c.self.inside.begun.clients ≡ One = subst (λ (v : RunState). v.begun.clients ≡ One) (sym c.self.view_is) c.in_ok-drives.ensures.one in
    endpoints c.self.inside.line (start_of c.self.inside.begun) c.self.inside.events.list c.self.invariant.pictured c.self.invariant.keeps.fresh
    (subst (λ k. IsLegal (mode_of k) (start_of c.self.inside.begun) c.self.inside.events.list) one c.self.invariant.keeps.legal) c.self.invariant.few
