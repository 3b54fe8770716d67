-- What a link's counts tell of an end: a fault of the link is told exactly where one call of it failed, or found no memory, and no other did. Behind an answer the
-- channel is left as it should be, or one call of the link failed, which changes no answer.
use Rattle.std.specs.Prelude.{◌≡◌, ◌⊎◌, Result, Ok, Err}
use Rattle.knx_model.specs.declared.address.IndAddr.{IndAddr}
use Rattle.line_model.specs.declared.outside.fault_counts.FaultCounts.{FaultCounts}
use Rattle.line_model.specs.LinkStory.{Story}
use Rattle.line_model.specs.Polled.{one_failed}
use Rattle.address_talk.specs.Ends.{Leaves, after_assign_fault}
use Rattle.address_talk.specs.declared.assigned.Assigned.{Assigned}
use Rattle.address_talk.specs.declared.assigned.AssignFault.{AssignFault}
use Rattle.address_commission.specs.Exact.{WhereClock}

abbrev pub CountsEnd : IndAddr → Result Assigned AssignFault → FaultCounts → FaultCounts → Story → Type 0
CountsEnd wanted (Ok assigned) before after story = ((after ≡ before) × WhereClock (Leaves wanted assigned) story) ⊎ (after ≡ one_failed before)
CountsEnd wanted (Err fault) before after story = after ≡ after_assign_fault fault before
