-- What the answer of a poll says of its link: the datagram that was got is the first octets of the buffer, at most 512; a quiet wait brings none.
-- And how calls that failed are counted, and those that found no memory: each answer that is a fault once, in the count that is its own, and no other answer.
use Rattle.std.specs.Prelude.{ℕ, ◌≤◌, List, take, Option, Some, None, Result, Ok, Err}
use Rattle.knx_model.specs.Outside.{one_more}
use Rattle.line_model.specs.declared.fault.HubFault.{HubFault}
use Rattle.line_model.specs.declared.fault.HubFault.TheVariants as run
use Rattle.line_model.specs.declared.outside.fault_counts.FaultCounts.{FaultCounts}
use Rattle.line_model.specs.declared.outside.link.LinkFault.{LinkFault}
use Rattle.line_model.specs.declared.outside.link.LinkFault.TheVariants as fault
use Rattle.line_model.specs.declared.outside.link.Polled.{Polled}
use Rattle.line_model.specs.declared.outside.link.Polled.TheVariants as answer
use Rattle.line_model.specs.Record.{Got, Quiet, longest_got}
use Rattle.line_model.specs.LinkStory.{Story, Polls, PollsNothing}

abbrev pub PollsAs : Polled → List ℕ → ℕ → ℕ → Story → Story → Type 0
PollsAs (answer.Got n) into wait clock before after = (n ≤ longest_got) × Polls (Got (take n into)) wait clock before after
PollsAs answer.Quiet into wait clock before after = Polls Quiet wait clock before after

abbrev pub PollsSo : Result Polled LinkFault → List ℕ → ℕ → ℕ → Story → Story → Type 0
PollsSo (Ok polled) into wait clock before after = PollsAs polled into wait clock before after
PollsSo (Err fault) into wait clock before after = PollsNothing wait before after

-- ---- how many calls failed, and how many found no memory

abbrev pub none_failed : FaultCounts
none_failed = record { failed = 0; wanting = 0 }

abbrev pub one_failed : FaultCounts → FaultCounts
one_failed counts = record counts { failed = one_more counts.failed }

abbrev pub one_wanting : FaultCounts → FaultCounts
one_wanting counts = record counts { wanting = one_more counts.wanting }

-- after a call of a link that answered so
abbrev pub after_link_fault : LinkFault → FaultCounts → FaultCounts
after_link_fault (fault.NoMemory want) counts = one_wanting counts
after_link_fault fault.Failed counts = one_failed counts

abbrev pub after_call : {X : Type 0} → Result X LinkFault → FaultCounts → FaultCounts
after_call (Ok x) counts = counts
after_call (Err why) counts = after_link_fault why counts

-- the counts of a link, by the fault that its client told: that one call, and no other
abbrev pub after_fault : Option HubFault → FaultCounts → FaultCounts
after_fault None counts = counts
after_fault (Some (run.NoMemory want)) counts = one_wanting counts
after_fault (Some run.LinkFailed) counts = one_failed counts
after_fault (Some (run.GatewayRefused three)) counts = counts
after_fault (Some run.Flooded) counts = counts
after_fault (Some (run.WrongLine device tunnel)) counts = counts
