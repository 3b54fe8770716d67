use Rattle.std.proofs.Common.{nat_cmp}
use Rattle.std.specs.BTreeMap.{get}
use Rattle.device_reservation.proofs.Chained.{Chained}
use Rattle.device_reservation.proofs.chains.Chains.of.Given as goal

-- the chains of the jobs so far
abbrev pub invariant-loop-index : goal.invariant-loop-index
invariant-loop-index l = Chained l.devices l.index l.chains.next.items l.chains.first (λ q. get nat_cmp l.last q)
