-- What a poll and the answer to it leave of the link's counts: a fault that is passed on counts as it did, and a poll itself comes to no fault but three failed tries.
use Rattle.std.proofs.Common.{◌≡◌, ℕ, None, Result, Err, refl, sym, subst}
use Rattle.line_model.specs.declared.fault.HubFault.{HubFault}
use Rattle.line_model.specs.declared.outside.fault_counts.FaultCounts.{FaultCounts}
use Rattle.line_model.specs.LinkStory.{Story}
use Rattle.tunnel_link.specs.declared.came.Answer.{Answer}
use Rattle.tunnel_link.specs.declared.known.Known.{Known}
use Rattle.tunnel_link.specs.Calls.{Polled}
use Rattle.tunnel_link.specs.Rights.{IsOfTries, after_result}
use Rattle.tunnel_link.proofs.Faulted.{item_of}

-- a fault that is passed on
pub counts_on : {X Y : Type 0} (r : Result X HubFault) (s : Result Y HubFault) (fault : HubFault) (counts : FaultCounts) → r ≡ Err fault → s ≡ Err fault → after_result r counts ≡ after_result s counts
counts_on r s fault counts p q = rw (p, q) refl

pub polled_tries : (answer : Answer) (wait : ℕ) (k new : Known) (before after : Story) → k.fault ≡ None → Polled answer wait k new before after → IsOfTries new.fault
polled_tries answer wait k new before after calm p = subst (λ (n : Known). IsOfTries n.fault) (sym p.known) (item_of k p.what p.now calm)
