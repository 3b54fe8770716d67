use Rattle.address_commission.proofs.Asks.{put_told}
use Rattle.address_commission.proofs.Pacing.{ends_none_of}
use Rattle.address_commission.proofs.ask.put.Goals as goal

pub returns-clause-goes : goal.returns-clause-goes
returns-clause-goes g c =
    put_told c.args.wanted c.args.asked c.args.ear.now c.before-2.result c.request_of-cemi.result _ c.request_of-cemi.ensures.reads
    (record { confirmed = c.before-2.ensures.confirmed; since = c.before-2.ensures.since; read = c.before-2.ensures.read; other = c.before-2.ensures.other })
    c.put-put.result c.told.result c.told.ensures.same _ _ c.put-put.ensures.grows c.put-put.ensures.adds c.put-put.ensures.timeless (ends_none_of _ _ c.put-put.ensures.alone) c.requires.turn c.told.ensures.cause
