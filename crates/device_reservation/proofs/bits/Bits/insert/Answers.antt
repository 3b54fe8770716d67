use Rattle.std.proofs.Common.{◌*◌, ◌<◌, length, ap, ◌∙◌, arith}
use Rattle.device_reservation.specs.Bits.{holds}
use Rattle.device_reservation.proofs.Words.{inserted, inserted_others}
use Rattle.device_reservation.proofs.bits.Bits.insert.Goals as goal

pub returns-clause-itself : goal.returns-clause-itself
returns-clause-itself c =
    let within : c.args.number < 64 * length c.self.inside.words.items = omega (arith, ap length c.self.view_is) in
    inserted c.self.inside.words.items c.args.number c.index_mut.result.now within

pub returns-clause-others : goal.returns-clause-others
returns-clause-others c = λ n apart.
    let within : c.args.number < 64 * length c.self.inside.words.items = omega (arith, ap length c.self.view_is) in
    inserted_others c.self.inside.words.items c.args.number c.index_mut.result.now within c.index_mut.ensures.value n apart ∙ ap (λ words. holds words n) c.self.view_is
