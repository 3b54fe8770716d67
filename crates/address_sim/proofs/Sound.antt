-- No call of a bus fails before its clock runs out, however long it is polled, but behind one that found no memory.
use Rattle.std.proofs.Common.{◌≡◌, ℕ, ◌+◌, ◌<◌, ◌≤◌, ◌^◌, inl, inr, List, Option, Some, None, Result, Ok, Err, OnErr, IfOk, refl, ◌≢◌, arith}
use Rattle.knx_model.specs.Connection.{last_time}
use Rattle.line_model.specs.declared.outside.fault_counts.FaultCounts.{FaultCounts}
use Rattle.line_model.specs.declared.outside.link.LinkFault.{LinkFault}
use Rattle.line_model.specs.declared.outside.link.LinkFault.TheVariants as fault
use Rattle.line_model.specs.Polled.{after_call, none_failed, one_failed}
use Rattle.line_model.specs.Record.{Got, Quiet}
use Rattle.line_model.proofs.NoneFailed.{some_wanting}
use Rattle.address_sim.specs.Driven.{FailsForCause, FailsOut}
use Rattle.address_sim.specs.Told.{RunNow, time}
use Rattle.address_sim.specs.Turns.{EndedSo, SameRecord}
use Rattle.address_sim.proofs.Links.{polls_later}

out_on : (old new last : ℕ) → old ≤ new → last < old + 2 ^ 32 → last < new + 2 ^ 32
out_on old new last le lt = omega (arith, le, lt)

no_earlier : (old new : ℕ) → new ≡ old → old ≤ new
no_earlier old new e = omega (arith, e)

sound_on : (faults : FaultCounts) (old new : RunNow) → time old ≤ time new → FailsForCause faults old → FailsForCause faults new
sound_on faults old new le (inl want) = inl want
sound_on faults old new le (inr (inl none)) = inr (inl none)
sound_on faults old new le (inr (inr out)) = inr (inr (out_on (time old) (time new) last_time le out))

ended_sound : (got : Option (List ℕ)) (wait : ℕ) (faults : FaultCounts) (old new : RunNow) → EndedSo got wait old new → FailsForCause faults old → FailsForCause faults new
ended_sound (Some octets) wait faults old new ended h = sound_on faults old new (polls_later (Got octets) wait old new ended.1).time h
ended_sound None wait faults old new ended h = sound_on faults old new (polls_later Quiet wait old new ended).time h

pub sound_polled : {E : Type 0} (result : Result (Option (List ℕ)) E) (wait : ℕ) (faults : FaultCounts) (old new : RunNow) → IfOk result (λ got. EndedSo got wait old new) → OnErr result (SameRecord old new) → FailsForCause faults old → FailsForCause faults new
sound_polled (Ok got) wait faults old new ended same h = ended_sound got wait faults old new ended h
sound_polled (Err why) wait faults old new ended same h = sound_on faults old new (no_earlier (time old) (time new) same.time) h

-- ---- by a call that is refused, and by one that is answered so

pub sound_refused : (faults : FaultCounts) (r : RunNow) → faults ≢ none_failed → FailsForCause faults r → FailsForCause (one_failed faults) r
sound_refused faults r over (inl want) = inl want
sound_refused faults r over (inr (inl none)) = inl (some_wanting faults none over)
sound_refused faults r over (inr (inr out)) = inr (inr out)

pub sound_answered : {X : Type 0} (came : Result X LinkFault) (faults : FaultCounts) (r : RunNow) → FailsOut came r → FailsForCause faults r → FailsForCause (after_call came faults) r
sound_answered (Ok x) faults r out h = h
sound_answered (Err (fault.NoMemory want)) faults r out h = inl (omega arith)
sound_answered (Err fault.Failed) faults r out h = inr (inr (out refl))
