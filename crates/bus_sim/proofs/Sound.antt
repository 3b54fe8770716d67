-- No call of a run as a link fails before its end, whatever happens to it, but behind one that found no memory.
use Rattle.std.proofs.Common.{◌≡◌, ◌≢◌, ℕ, ◌≤◌, inl, inr, true, Result, Ok, Err, OnOk, OnErr, IfOk, List, ap, sym, subst, ◌∙◌, arith}
use Rattle.knx_model.specs.Connection.{last_time}
use Rattle.line_model.specs.declared.outside.fault_counts.FaultCounts.{FaultCounts}
use Rattle.line_model.specs.declared.outside.link.Polled.{Polled}
use Rattle.line_model.specs.Polled.{PollsAs, none_failed, one_failed, one_wanting}
use Rattle.line_model.specs.PortStory.{PortStory}
use Rattle.line_model.specs.World.{Event}
use Rattle.line_model.proofs.NoneFailed.{some_wanting}
use Rattle.bus_sim.specs.declared.beginning.Beginning.{Beginning}
use Rattle.bus_sim.specs.declared.clients.Clients.TheVariants.{One}
use Rattle.bus_sim.specs.Ended.{FailsForCause}
use Rattle.bus_sim.specs.Polls.{StopsRun}
use Rattle.bus_sim.specs.RunNow.{RunNow, happened, story, time, world}
use Rattle.bus_sim.specs.Serving.{BreaksOff}
use Rattle.bus_sim.proofs.Grows.{is_still, timeless}
use Rattle.bus_sim.proofs.Linked.{polled_run_later, stops_later}

no_later : (a b last : ℕ) → a ≡ last → a ≤ b → b ≤ last → b ≡ last
no_later a b last is le most = omega (arith, is, le, most)

-- the run goes on
pub sound_on : (faults : FaultCounts) (old new : RunNow) → new.begun ≡ old.begun → time old ≤ time new → time new ≤ last_time → FailsForCause faults old → FailsForCause faults new
sound_on faults old new same le most (inl want) = inl want
sound_on faults old new same le most (inr (inl none)) = inr (inl none)
sound_on faults old new same le most (inr (inr (inl end))) = inr (inr (inl (no_later (time old) (time new) last_time end le most)))
sound_on faults old new same le most (inr (inr (inr serves))) = inr (inr (inr (ap (λ (b : Beginning). b.clients) same ∙ serves)))

-- ---- by one event that takes no time, or none

happens_sound : (faults : FaultCounts) (old : RunNow) (e : Event) → is_still e ≡ true → FailsForCause faults old → FailsForCause faults (happened old e)
happens_sound faults old e still (inl want) = inl want
happens_sound faults old e still (inr (inl none)) = inr (inl none)
happens_sound faults old e still (inr (inr (inl end))) = inr (inr (inl (timeless (world old) e still ∙ end)))
happens_sound faults old e still (inr (inr (inr serves))) = inr (inr (inr serves))

pub sound_after : {X E : Type 0} (result : Result X E) (faults : FaultCounts) (old new : RunNow) (e : Event) → is_still e ≡ true → OnOk result (new ≡ happened old e) → OnErr result (new ≡ old) → FailsForCause faults old → FailsForCause faults new
sound_after (Ok x) faults old new e still went stays h = subst (FailsForCause faults) (sym went) (happens_sound faults old e still h)
sound_after (Err why) faults old new e still went stays h = subst (FailsForCause faults) (sym stays) h

-- ---- by a poll

pub sound_polled : {E : Type 0} (result : Result Polled E) (into : List ℕ) (wait : ℕ) (faults : FaultCounts) (old new : RunNow) → OnOk result (old.begun.clients ≡ One) → new.begun ≡ old.begun → IfOk result (λ polled. PollsAs polled into wait (time new) (story old) (story new))
    → OnErr result (StopsRun wait old new) → time new ≤ last_time → FailsForCause faults old → FailsForCause faults new
sound_polled (Ok polled) into wait faults old new one same polls stops most h = sound_on faults old new same (polled_run_later polled into wait old new one same polls).time most h
sound_polled (Err why) into wait faults old new one same polls stops most h = sound_on faults old new same (stops_later wait old new stops).time most h

-- ---- by a serving that breaks off

pub sound_broken : (n : ℕ) (faults : FaultCounts) (old new : RunNow) (before after : PortStory) → BreaksOff n old new before after → FailsForCause faults old → FailsForCause faults new
sound_broken n faults old new before after (inl stays) h = subst (FailsForCause faults) (sym stays.0) h
sound_broken n faults old new before after (inr off) h = inr (inr (inr (ap (λ (b : Beginning). b.clients) off.begun)))

-- ---- by a call that is refused, and by one that finds no memory

pub sound_refused : (faults : FaultCounts) (r : RunNow) → faults ≢ none_failed → FailsForCause faults r → FailsForCause (one_failed faults) r
sound_refused faults r over (inl want) = inl want
sound_refused faults r over (inr (inl none)) = inl (some_wanting faults none over)
sound_refused faults r over (inr (inr ends)) = inr (inr ends)

pub sound_wanting : (faults : FaultCounts) (r : RunNow) → FailsForCause (one_wanting faults) r
sound_wanting faults r = inl (omega arith)
