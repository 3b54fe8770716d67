use Rattle.std.proofs.Common.{◌≡◌, sym, ap, List, Some, None}
use Rattle.std.specs.Prelude.{slice_get, slice_set}
use Rattle.circular_buffer.specs.Buffer.{buffer}
use Rattle.line_model.specs.Network.{Sent, gone, changed_at}
use Rattle.network_sim.proofs.Windows.{set_lost, none_lost}
use Rattle.network_sim.proofs.changes.lose_at.Goals as goal

pub returns-in-Some : goal.returns-in-Some
returns-in-Some c =
    let there : slice_get c.args.kept.now.items c.args.age ≡ Some c.in-Some.sending.now = sym c.in-Some.ensures.value in
    let same : slice_set c.args.kept.now.items c.args.age (gone c.in-Some.sending.now) ≡ changed_at c.args.age gone c.args.kept.now.items = set_lost _ _ _ there in
    cc

pub returns-in_default : goal.returns-in_default
returns-in_default c =
    let there : slice_get c.args.kept.now.items c.args.age ≡ None = sym c.in_default.ensures.value in
    ap (λ (items : List Sent). buffer items c.args.kept.now.capacity) (sym (none_lost c.args.kept.now.items c.args.age there))
