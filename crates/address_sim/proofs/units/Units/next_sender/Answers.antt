use Rattle.std.proofs.Common.{◌<◌, length, refl, arith}
use Rattle.std.proofs.lemmas.Option.{slice_get_read}
use Rattle.address_sim.proofs.Places.{responds}
use Rattle.address_sim.proofs.units.Units.next_sender.Goals as goal

pub returns-clause-found : goal.returns-clause-found
returns-clause-found c states are =
    let within : c.in_ok-place.place < length c.args.self.now.units.items = omega (arith, c.in_ok-place.ensures.within, c.args.self.now.even) in
    responds c.args.self.now.units.items c.args.self.now.answers.items states c.in_ok-place.place c.index.result.now are
    (slice_get_read c.args.self.now.units.items (length c.args.self.now.units.items) c.in_ok-place.place c.index.result.now refl within c.index.ensures) c.in_ok-place.ensures.due
