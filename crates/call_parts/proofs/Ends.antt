-- How a call ends where memory is wanting for the text of its end, and what is written of an end.
use Rattle.std.proofs.Common.{◌≡◌, List, None, Result, Ok, Err, refl, subst, inl, inr, ℕ}
use Rattle.std.specs.Prelude.{IfErr, IfOk}
use Rattle.call_words.specs.declared.status.Status.{Status}
use Rattle.call_words.specs.declared.status.Status.TheVariants as status
use Rattle.call_words.specs.declared.stop.Stop.{Stop}
use Rattle.call_words.specs.declared.stop.Stop.TheVariants as stop
use Rattle.call_words.specs.ReportText.{stop_text}
use Rattle.knx_model.specs.declared.no_memory.NoMemory.{NoMemory}
use Rattle.knx_model.specs.Outside.{SinkNow}
use Rattle.call_parts.specs.Ending.{IsTextOf, Replies, RepliesOf, StopsFor, Writes, end_status, report_in, wanting}
use Rattle.call_parts.specs.declared.ending.End.{End}
use Rattle.call_parts.specs.declared.ending.End.TheVariants as ends
use Rattle.call_parts.specs.declared.ending.Text.{Text}

pub stop_wants : (why : Stop) (end : End) → StopsFor why end → StopsFor why (wanting end)
stop_wants why (ends.Stops told) h = inr refl
stop_wants why (ends.Tells text) h = absurd h
stop_wants why ends.NotOpened h = absurd h
stop_wants why (ends.BreaksOff report want) h = absurd h
stop_wants why (ends.Reports told) h = absurd h
stop_wants why (ends.Sums told counts) h = absurd h
stop_wants why (ends.Serves served) h = absurd h
stop_wants why (ends.Finds searched) h = absurd h
stop_wants why (ends.Assigns given) h = absurd h

-- the same run
pub report_wants : (end : End) → report_in (wanting end) ≡ report_in end
report_wants (ends.Stops told) = refl
report_wants (ends.Tells text) = refl
report_wants ends.NotOpened = refl
report_wants (ends.BreaksOff report want) = refl
report_wants (ends.Reports told) = refl
report_wants (ends.Sums told counts) = refl
report_wants (ends.Serves served) = refl
report_wants (ends.Finds searched) = refl
report_wants (ends.Assigns given) = refl

-- a call that stopped has none
pub stopped_report : (why : Stop) (end : End) → StopsFor why end → report_in end ≡ None
stopped_report why (ends.Stops told) h = refl
stopped_report why (ends.Tells text) h = absurd h
stopped_report why ends.NotOpened h = absurd h
stopped_report why (ends.BreaksOff report want) h = absurd h
stopped_report why (ends.Reports told) h = absurd h
stopped_report why (ends.Sums told counts) h = absurd h
stopped_report why (ends.Serves served) h = absurd h
stopped_report why (ends.Finds searched) h = absurd h
stopped_report why (ends.Assigns given) h = absurd h

-- a text is written, or that there was no memory for it
pub text_replied : (end : End) (text : Result Text NoMemory) (out out' : SinkNow) (told : Status) → IfOk text (λ p. IsTextOf end p.octets p.status)
    → IfOk text (λ p. Writes p.octets p.status out out' told) → IfErr text (λ _. Writes (stop_text (stop.NoMemory tt)) (status.NoMemory tt) out out' told)
    → (Writes (stop_text (stop.NoMemory tt)) (status.NoMemory tt) out out' told → Replies out out' told (wanting end)) → RepliesOf out out' told end
text_replied end (Ok text) out out' told is writes wants untold =
    inl (subst (λ (t : List ℕ). Writes t (end_status end) out out' told) is.0 (subst (λ (s : Status). Writes text.octets s out out' told) is.1 writes))
text_replied end (Err want) out out' told is writes wants untold = inr (untold wants)
