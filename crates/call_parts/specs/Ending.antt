-- How a call ends, the text that is written of that, and its status. It stops; it tells a text; a gateway isn't reached or a port not bound; a run is over,
-- and memory is wanting for what is shown of it, or it is reported, or its sums are told; or a serving, a search for gateways or the giving of an address is over.
use Rattle.std.specs.Prelude.{◌≡◌, ◌⊎◌, codes, List, [], ◌∷◌, Option, Some, None, Result, Ok, Err, ℕ}
use Rattle.std.specs.Fmt.{decimal}
use Rattle.call_words.specs.declared.status.Status.{Status}
use Rattle.call_words.specs.declared.status.Status.TheVariants as status
use Rattle.call_words.specs.declared.stop.Stop.{Stop}
use Rattle.call_words.specs.declared.stop.Stop.TheVariants as stop
use Rattle.call_words.specs.Printed.{fault_line, line_report_text}
use Rattle.call_words.specs.ReportText.{stop_text, stop_status}
use Rattle.call_words.specs.Sums.{sums_text}
use Rattle.knx_model.specs.Outside.{Rose, SinkNow, Wrote, WroteFront}
use Rattle.knx_model.specs.TextLines.{line}
use Rattle.line_model.specs.declared.fault.HubFault.TheVariants.{LinkFailed}
use Rattle.line_model.specs.declared.log.Report.{Report}
use Rattle.report_text.specs.LineStatus.{line_status}
use Rattle.call_parts.specs.Given.{assign_status, assign_text}
use Rattle.call_parts.specs.Searched.{search_status, search_text}
use Rattle.call_parts.specs.declared.ending.End.{End}
use Rattle.call_parts.specs.declared.ending.End.TheVariants as ends
use Rattle.call_parts.specs.declared.ending.ServiceEnd.{ServiceEnd}
use Rattle.call_parts.specs.declared.ending.ServiceEnd.TheVariants as over
use Rattle.call_parts.specs.declared.given.AssignEnd.TheVariants as given
use Rattle.call_parts.specs.declared.searched.SearchEnd.TheVariants as search

-- just this end
abbrev pub Is : End → End → Type 0
Is end other = other ≡ end

-- the end of a command that tells a text, or stops
abbrev pub end_told : Result (List ℕ) Stop → End
end_told (Ok text) = ends.Tells text
end_told (Err why) = ends.Stops why

-- the report of the run, where one began
abbrev pub report_in : End → Option Report
report_in (ends.BreaksOff report want) = Some report
report_in (ends.Reports told) = Some told.report
report_in (ends.Sums told counts) = Some told.report
report_in end = None

-- a call stopped for a reason, or for want of memory
abbrev pub StopsFor : Stop → End → Type 0
StopsFor why (ends.Stops told) = (told ≡ why) ⊎ (told ≡ stop.NoMemory tt)
StopsFor why end = ⊥

-- what a call tells of what it has found: a text of it, or that there was no memory
abbrev pub TellsText : (List ℕ → Type 0) → End → Type 0
TellsText IsText (ends.Stops told) = told ≡ stop.NoMemory tt
TellsText IsText (ends.Tells text) = IsText text
TellsText IsText end = ⊥

-- it stops where it must, or for want of memory, and else tells a text of what it has found
abbrev pub TellsOf : {A : Type 0} → (A → List ℕ → Type 0) → Result A Stop → End → Type 0
TellsOf IsText (Err why) end = StopsFor why end
TellsOf IsText (Ok found) end = TellsText (IsText found) end

-- ---- its text and its status

abbrev pub open_line : ℕ → List ℕ
open_line turns = line (codes "open" ∷ codes "after" ∷ decimal turns ∷ codes "turns" ∷ [])

abbrev pub service_text : ServiceEnd → List ℕ
service_text over.Ended = line (codes "ended" ∷ [])
service_text (over.OpenTurns turns) = open_line turns
service_text over.Failed = fault_line (Some LinkFailed)
service_text (over.Unserved want) = stop_text (stop.NoMemory tt)

abbrev pub service_status : ServiceEnd → Status
service_status over.Ended = status.Done
service_status (over.OpenTurns turns) = status.OpenTurns
service_status over.Failed = status.Link
service_status (over.Unserved want) = status.NoMemory tt

abbrev pub end_text : End → List ℕ
end_text (ends.Stops why) = stop_text why
end_text (ends.Tells text) = text
end_text ends.NotOpened = fault_line (Some LinkFailed)
end_text (ends.BreaksOff report want) = stop_text (stop.NoMemory tt)
end_text (ends.Reports told) = line_report_text told.report told.jobs told.turns told.devices told.log
end_text (ends.Sums told counts) = sums_text told.report counts told.devices
end_text (ends.Serves end) = service_text end
end_text (ends.Finds end) = search_text end
end_text (ends.Assigns end) = assign_text end

abbrev pub end_status : End → Status
end_status (ends.Stops why) = stop_status why
end_status (ends.Tells text) = status.Done
end_status ends.NotOpened = status.Link
end_status (ends.BreaksOff report want) = status.NoMemory tt
end_status (ends.Reports told) = line_status told.report
end_status (ends.Sums told counts) = line_status told.report
end_status (ends.Serves end) = service_status end
end_status (ends.Finds end) = search_status end
end_status (ends.Assigns end) = assign_status end

-- ---- what is written

-- A text was to be written, where the sink told `out` and tells `out'`: it was written whole and the status is its own; or the write failed, a front of
-- the text was taken, and the status tells that.
abbrev pub Writes : List ℕ → Status → SinkNow → SinkNow → Status → Type 0
Writes text ending out out' told =
    ((told ≡ ending) × Wrote text out.taken out'.taken × (out'.faults ≡ out.faults))
    ⊎ ((told ≡ status.Write) × WroteFront text out.taken out'.taken × Rose out.faults out'.faults)

-- an end was to be written, with its status
abbrev pub Replies : SinkNow → SinkNow → Status → End → Type 0
Replies out out' told end = Writes (end_text end) (end_status end) out out' told

-- ---- the same in the code

-- the text of an end and its status
abbrev pub IsTextOf : End → List ℕ → Status → Type 0
IsTextOf end text told = (text ≡ end_text end) × (told ≡ end_status end)

-- the same end where memory is wanting for its text
abbrev pub untold : ServiceEnd → ServiceEnd
untold (over.OpenTurns turns) = over.Unserved tt
untold end = end

abbrev pub wanting : End → End
wanting (ends.Stops why) = ends.Stops (stop.NoMemory tt)
wanting (ends.Tells text) = ends.Stops (stop.NoMemory tt)
wanting ends.NotOpened = ends.NotOpened
wanting (ends.BreaksOff report want) = ends.BreaksOff report want
wanting (ends.Reports told) = ends.BreaksOff told.report tt
wanting (ends.Sums told counts) = ends.BreaksOff told.report tt
wanting (ends.Serves end) = ends.Serves (untold end)
wanting (ends.Finds end) = ends.Finds (search.Untold tt)
wanting (ends.Assigns end) = ends.Assigns (given.Untold tt)

-- an end was written, or that there was no memory for its text
abbrev pub RepliesOf : SinkNow → SinkNow → Status → End → Type 0
RepliesOf out out' told end = Replies out out' told end ⊎ Replies out out' told (wanting end)
