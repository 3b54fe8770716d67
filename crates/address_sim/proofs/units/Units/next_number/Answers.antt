use Rattle.std.proofs.Common.{length, refl, arith}
use Rattle.std.proofs.lemmas.Option.{slice_get_read}
use Rattle.address_sim.proofs.Held.{few_responses}
use Rattle.address_sim.proofs.Places.{next_sent}
use Rattle.address_sim.proofs.units.Units.next_number.Goals as goal

pub returns : goal.returns
returns c events counted few = next_sent c.args.self.now.answers.items events c.args.place c.saturating_add.result c.index.result.now
    (slice_get_read c.args.self.now.answers.items (length c.args.self.now.answers.items) c.args.place c.index.result.now refl c.requires c.index.ensures) c.saturating_add.ensures
    (omega (arith, few_responses c.args.place events, few)) counted
