use Rattle.std.proofs.Common.{◌≡◌, sym, Some}
use Rattle.std.specs.Prelude.{slice_get, slice_set}
use Rattle.line_model.specs.Network.{once_more, changed_at}
use Rattle.network_sim.proofs.Windows.{set_delivered}
use Rattle.network_sim.proofs.changes.deliver_at.Goals as goal

pub returns-in-Some : goal.returns-in-Some
returns-in-Some c =
    let there : slice_get c.args.kept.now.items c.args.age ≡ Some c.in-Some.sending.now = sym c.in-Some.ensures.value in
    let same : slice_set c.args.kept.now.items c.args.age (once_more c.in-Some.sending.now) ≡ changed_at c.args.age once_more c.args.kept.now.items = set_delivered _ _ _ there in
    cc
