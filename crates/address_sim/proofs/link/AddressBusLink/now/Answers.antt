use Rattle.std.proofs.Common.{sym, ◌∙◌}
use Rattle.address_sim.proofs.Polling.{newest_now}
use Rattle.address_sim.proofs.link.AddressBusLink.now.Goals as goal

pub returns-clause-told : goal.returns-clause-told
returns-clause-told c = c.time.ensures ∙ sym (newest_now c.args.self.now.run)
