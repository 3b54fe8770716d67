use Rattle.std.proofs.Common.{◌≡◌, Result, Ok, Err, refl, ◌∙◌, ap}
use Rattle.line_model.specs.declared.outside.fault_counts.FaultCounts.{FaultCounts}
use Rattle.line_model.specs.declared.outside.link.LinkFault.{LinkFault}
use Rattle.line_model.specs.declared.outside.link.LinkFault.TheVariants as fault
use Rattle.line_model.specs.Dialled.{with_link}
use Rattle.line_model.specs.Polled.{after_call, none_failed}
use Rattle.discovery_ends.proofs.looking.search_over.Goals as goal

-- of a link of which no call had failed
taken_back : {X : Type 0} (ended : Result X LinkFault) (counts : FaultCounts) → with_link (after_call ended none_failed) counts ≡ after_call ended counts
taken_back (Ok x) counts = refl
taken_back (Err (fault.NoMemory want)) counts = refl
taken_back (Err fault.Failed) counts = refl

pub returns-clause-counts : goal.returns-clause-counts
returns-clause-counts g c =
    c.hang.ensures.counts ∙ ap (λ (l : FaultCounts). with_link l (g.D.Dialer.now c.args.dial.now).counts) (rw c.requires.sound at c.run-ended.ensures.counts) ∙ taken_back c.run-ended.result (g.D.Dialer.now c.args.dial.now).counts
