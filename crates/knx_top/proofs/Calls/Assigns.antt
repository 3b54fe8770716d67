-- `assign`: what it comes to, and what is written of it.
use Rattle.std.proofs.Common.{◌≡◌, ◌≢◌, ℕ, ◌∙◌, ap, true, ◌⊎◌, Option, None, Some, List, [], ◌∷◌, Result, Ok, Err, refl, sym, subst, inl, inr, arith}
use Rattle.std.specs.Prelude.{map}
use Rattle.address_talk.specs.Ends.{EndsSo, after_assign_fault}
use Rattle.address_talk.specs.declared.assigned.AssignFault.{AssignFault}
use Rattle.address_talk.specs.declared.assigned.AssignFault.TheVariants as fault
use Rattle.address_law.specs.Calm.{AreCalm}
use Rattle.address_law.specs.Determined.{IsDetermined}
use Rattle.address_commission.specs.Always.{KeepsChannel}
use Rattle.address_commission.specs.Counted.{CountsEnd}
use Rattle.address_commission.specs.Exact.{WhereClock}
use Rattle.address_sim.specs.Driven.{BusNow, FailsAtEnd, FailsForCause}
use Rattle.address_sim.specs.Follows.{FollowsText}
use Rattle.address_sim.specs.Stays.{lines_of}
use Rattle.address_sim.specs.Told.{Begun, RunNow, at_rest, start, start_of, story, told as told_of, units_now}
use Rattle.address_world.specs.Shown.{shown}
use Rattle.address_world.specs.AddressLegal.{IsFresh, IsLegal}
use Rattle.address_world.specs.AddressStory.{Told}
use Rattle.address_world.specs.AddressWorld.{AddressEvent, AddressWorld, replay}
use Rattle.address_world.specs.Keeps.{AlwaysKeepsUnits, PutsOnly}
use Rattle.address_world.specs.declared.unit.UnitLoss.{UnitLoss}
use Rattle.address_sim.specs.Undisturbed.{NothingLost}
use Rattle.address_text.specs.UnitText.{unit_reading}
use Rattle.address_world.specs.declared.unit.Unit.{Unit as BusUnit}
use Rattle.call_words.specs.declared.input_file.InputFile.TheVariants as file
use Rattle.call_words.specs.declared.stop.Stop.{Stop}
use Rattle.call_words.specs.declared.stop.Stop.TheVariants as stop
use Rattle.knx_model.specs.declared.address.IndAddr.{IndAddr}
use Rattle.knx_model.specs.Outside.{FilesNow, one_more}
use Rattle.line_model.specs.Dialled.{Address, DialerNow, Tells, with_link}
use Rattle.line_model.specs.LinkStory.{Story}
use Rattle.line_model.specs.Polled.{none_failed, one_failed, one_wanting}
use Rattle.line_model.specs.Record.{entries}
use Rattle.line_model.specs.declared.outside.fault_counts.FaultCounts.{FaultCounts}
use Rattle.tunnel_link.specs.Rights.{WhereTold}
use Rattle.call_parts.specs.Ending.{Is, StopsFor, report_in, wanting}
use Rattle.call_parts.specs.Input.{IsRead, OnlyRose, failed, fault_in, first_some, octets_of}
use Rattle.call_parts.specs.Judged.{read_of, unless_refused}
use Rattle.call_parts.specs.Stops.{text_refused}
use Rattle.knx_top.specs.commands.assign.{AssignSimWords, AssignWords, BeginsAs, Gives, GivesDialled, GivesOnBus, GivesOr, GivesOver, GivesSim, Outcome, RunsAssign, RunsAssignSim, TellsOutcome, Units, assign_sim_tests, begun_by, judged_units, units_told}
use Rattle.call_parts.specs.declared.ending.End.{End}
use Rattle.call_parts.specs.declared.ending.End.TheVariants as ends
use Rattle.call_parts.specs.declared.given.AssignEnd.{AssignEnd}
use Rattle.call_parts.specs.declared.given.AssignEnd.TheVariants as given
use Rattle.call_parts.specs.declared.input.Reading.{Reading}
use Rattle.call_parts.proofs.Ends.{stop_wants, stopped_report}
use Rattle.call_parts.proofs.Stops.{does_by, read_step, step, stopped, stops_by, text_step, unless_stopped}

-- ---- where memory is wanting to tell it

untold_so : (wanted : IndAddr) (units : List BusUnit) (P : Outcome → Type 0) (end : AssignEnd) → TellsOutcome wanted units P end → TellsOutcome wanted units P (given.Untold tt)
untold_so wanted units P end h = (h.0, h.1, tt)

gives_wants : (words : AssignWords) (before after : DialerNow) (end : End) → Gives words before after end → Gives words before after (wanting end)
gives_wants words before after (ends.Stops told) h = absurd h
gives_wants words before after (ends.Tells text) h = absurd h
gives_wants words before after ends.NotOpened h = h
gives_wants words before after (ends.BreaksOff report want) h = absurd h
gives_wants words before after (ends.Reports told) h = absurd h
gives_wants words before after (ends.Sums told counts) h = absurd h
gives_wants words before after (ends.Serves served) h = absurd h
gives_wants words before after (ends.Finds searched) h = absurd h
gives_wants words before after (ends.Assigns end) h = untold_so _ _ _ end h

gives_sim_wants : (wanted : IndAddr) (text : Units) (before after : BusNow) (end : End) → GivesSim wanted text before after end → GivesSim wanted text before after (wanting end)
gives_sim_wants wanted text before after (ends.Stops told) h = (refl, h.1)
gives_sim_wants wanted text before after (ends.Tells octets) h = absurd h
gives_sim_wants wanted text before after ends.NotOpened h = absurd h
gives_sim_wants wanted text before after (ends.BreaksOff report want) h = absurd h
gives_sim_wants wanted text before after (ends.Reports told) h = absurd h
gives_sim_wants wanted text before after (ends.Sums told counts) h = absurd h
gives_sim_wants wanted text before after (ends.Serves served) h = absurd h
gives_sim_wants wanted text before after (ends.Finds searched) h = absurd h
gives_sim_wants wanted text before after (ends.Assigns end) h = untold_so _ _ _ end h

-- ---- it is of no run

no_run : (words : AssignWords) (before after : DialerNow) (end : End) → Gives words before after end → report_in end ≡ None
no_run words before after (ends.Stops told) h = absurd h
no_run words before after (ends.Tells text) h = absurd h
no_run words before after ends.NotOpened h = refl
no_run words before after (ends.BreaksOff report want) h = absurd h
no_run words before after (ends.Reports told) h = absurd h
no_run words before after (ends.Sums told counts) h = absurd h
no_run words before after (ends.Serves served) h = absurd h
no_run words before after (ends.Finds searched) h = absurd h
no_run words before after (ends.Assigns end) h = refl

pub assign_no_run : (words : AssignWords) (before after : DialerNow) (end : End) → RunsAssign words before after (Is end) → report_in end ≡ None
assign_no_run words before after end t = subst (λ (told : End). report_in told ≡ None) t.replied (no_run words before after t.end t.gives)

sim_no_run : (wanted : IndAddr) (text : Units) (before after : BusNow) (end : End) → GivesSim wanted text before after end → report_in end ≡ None
sim_no_run wanted text before after (ends.Stops told) h = refl
sim_no_run wanted text before after (ends.Tells octets) h = absurd h
sim_no_run wanted text before after ends.NotOpened h = absurd h
sim_no_run wanted text before after (ends.BreaksOff report want) h = absurd h
sim_no_run wanted text before after (ends.Reports told) h = absurd h
sim_no_run wanted text before after (ends.Sums told counts) h = absurd h
sim_no_run wanted text before after (ends.Serves served) h = absurd h
sim_no_run wanted text before after (ends.Finds searched) h = absurd h
sim_no_run wanted text before after (ends.Assigns end) h = refl

by_tests : (words : AssignSimWords) (reading : Reading) (before after : BusNow) (end : End) (tests : Option Stop) → first_some (assign_sim_tests words reading) ≡ tests
    → ((why : Stop) → first_some (assign_sim_tests words reading) ≡ Some why → report_in end ≡ None) → (first_some (assign_sim_tests words reading) ≡ None → report_in end ≡ None) → report_in end ≡ None
by_tests words reading before after end (Some why) is stops gives = stops why is
by_tests words reading before after end None is stops gives = gives is

pub assign_sim_no_run : (words : AssignSimWords) (files files' : FilesNow) (before after : BusNow) (end : End) → RunsAssignSim words files files' before after (Is end) → report_in end ≡ None
assign_sim_no_run words files files' before after end t =
    subst (λ (told : End). report_in told ≡ None) t.replied
    (by_tests words t.reading before after t.end _ refl (λ why e. stopped_report why t.end (t.stops why e).0) (λ e. sim_no_run _ _ before after t.end (t.gives e)))

-- ---- what is written of it

pub assign_written : (words : AssignWords) (before after : DialerNow) (end : End) (Replied : End → Type 0) → RunsAssign words before after (Is end) → Replied end ⊎ Replied (wanting end) → RunsAssign words before after Replied
assign_written words before after end Replied t (inl replied) = record { end = t.end; gives = t.gives; replied = subst Replied (sym t.replied) replied }
assign_written words before after end Replied t (inr replied) = record {
  end = wanting t.end;
  gives = gives_wants words before after t.end t.gives;
  replied = subst (λ (told : End). Replied (wanting told)) (sym t.replied) replied;
}

pub assign_sim_written : (words : AssignSimWords) (files files' : FilesNow) (before after : BusNow) (end : End) (Replied : End → Type 0) → RunsAssignSim words files files' before after (Is end) → Replied end ⊎ Replied (wanting end)
    → RunsAssignSim words files files' before after Replied
assign_sim_written words files files' before after end Replied t (inl replied) = record {
  reading = t.reading;
  is_read = t.is_read;
  counts = t.counts;
  end = t.end;
  stops = t.stops;
  gives = t.gives;
  replied = subst Replied (sym t.replied) replied;
}
assign_sim_written words files files' before after end Replied t (inr replied) = record {
  reading = t.reading;
  is_read = t.is_read;
  counts = t.counts;
  end = wanting t.end;
  stops = λ why e. (stop_wants why t.end (t.stops why e).0, (t.stops why e).1);
  gives = λ e. gives_sim_wants _ _ before after t.end (t.gives e);
  replied = subst (λ (told : End). Replied (wanting told)) (sym t.replied) replied;
}

-- ---- the tests one after another

judged_so : (words : AssignSimWords) (reading : Reading) → judged_units words reading ≡ unless_stopped (assign_sim_tests words reading) (units_told reading)
judged_so words reading =
    let t1 = fault_in (Some words.units) reading in
    let t2 = text_refused file.Script (unit_reading (octets_of reading)) in
    step (t1 ∷ []) (t2 ∷ []) (read_of (Some words.units) reading) (octets_of reading) (λ (octets : List ℕ). unless_refused file.Script (unit_reading octets)) (units_told reading) (read_step (Some words.units) reading)
    (text_step file.Script ([], []) (unit_reading (octets_of reading)))

pub units_stop : (words : AssignSimWords) (reading : Reading) (before after : BusNow) (end : End) → GivesOr words.wanted (judged_units words reading) before after end
    → (why : Stop) → first_some (assign_sim_tests words reading) ≡ Some why → StopsFor why end × (after ≡ before)
units_stop words reading before after end h = stops_by (after ≡ before) (λ text. GivesSim words.wanted text before after) (assign_sim_tests words reading) (units_told reading) _ end (judged_so words reading) h

pub units_give : (words : AssignSimWords) (reading : Reading) (before after : BusNow) (end : End) → GivesOr words.wanted (judged_units words reading) before after end
    → first_some (assign_sim_tests words reading) ≡ None → GivesSim words.wanted (units_told reading) before after end
units_give words reading before after end h = does_by (after ≡ before) (λ text. GivesSim words.wanted text before after) (assign_sim_tests words reading) (units_told reading) _ end (judged_so words reading) h

-- ---- over a dialled link

-- the dialer's counts take in those of a link of which no call had failed before
taken : (why : AssignFault) (counts : FaultCounts) → with_link (after_assign_fault why none_failed) counts ≡ after_assign_fault why counts
taken fault.TunnelLost counts = refl
taken fault.LinkFailed counts = refl
taken (fault.GatewayRefused tries) counts = refl
taken fault.Flooded counts = refl
taken (fault.NoMemory want) counts = refl

pub taken_back : (wanted : IndAddr) (came : Outcome) (begun faults before after : FaultCounts) (link : Story) → begun ≡ none_failed → after ≡ with_link faults before → CountsEnd wanted came begun faults link → CountsEnd wanted came before after link
taken_back wanted (Ok assigned) begun faults before after link none takes (inl left) = inl (takes ∙ ap (λ (n : FaultCounts). with_link n before) (left.0 ∙ none), left.1)
taken_back wanted (Ok assigned) begun faults before after link none takes (inr failed) = inr (takes ∙ ap (λ (n : FaultCounts). with_link n before) (failed ∙ ap one_failed none))
taken_back wanted (Err why) begun faults before after link none takes counts = takes ∙ ap (λ (n : FaultCounts). with_link n before) (counts ∙ ap (after_assign_fault why) none) ∙ taken why before

pub given_dialled : (words : AssignWords) (before after : DialerNow) (dialled : FaultCounts) (dials : ℕ) (given : Option Address) (end : AssignEnd) → dialled ≡ before.counts → Tells words.at.host words.at.port given → dials ≡ one_more before.dials → after.given ≡ given → after.dials ≡ dials
    → TellsOutcome words.wanted [] (λ came. GivesOver words.wanted came dialled after.counts after.link_back) end → TellsOutcome words.wanted [] (GivesDialled words before after) end
given_dialled words before after dialled dials given end none tells once same still h = (
  h.0,
  record {
    given = subst (Tells words.at.host words.at.port) (sym same) tells;
    once = still ∙ once;
    over = subst (λ (n : FaultCounts). GivesOver words.wanted h.0 n after.counts after.link_back) none h.1;
  },
  h.2,
)

-- ---- on a bus

run_begun : (wanted : IndAddr) (text : Units) (bus : BusNow) → BeginsAs wanted (Ok text) bus → bus.run.begun ≡ begun_by wanted text
run_begun wanted text bus b = ap (λ (r : RunNow). r.begun) b.0

-- what the laws of the bus say
abbrev pub QuietBuses : Type 0
QuietBuses = (losses : List UnitLoss) (from : AddressWorld) (events : List AddressEvent) → FollowsText losses from events → NothingLost events → AreCalm from events

abbrev pub QuietTexts : Type 0
QuietTexts = (from : AddressWorld) (events : List AddressEvent) → FollowsText [] from events → NothingLost events

shown_rest : (units : List BusUnit) → map shown (map at_rest units) ≡ units
shown_rest [] = refl
shown_rest (u ∷ units) = ap (λ (l : List BusUnit). u ∷ l) (shown_rest units)

-- what the units at the start determine
abbrev pub UnitsDetermine : IndAddr → BusNow → Outcome → Type 0
UnitsDetermine wanted after came =
    (from : AddressWorld) (events : List AddressEvent) → told_of after.run ≡ Told from events → AreCalm from events → IsDetermined wanted (map shown from.units) (map shown (replay from events).units) came

lost_nothing : (text : Units) (after : BusNow) → QuietTexts → FollowsText text.1 (start after.run) after.run.events → text.1 ≡ [] → NothingLost after.run.events
lost_nothing text after texts follows none = texts (start after.run) after.run.events (subst (λ (l : List UnitLoss). FollowsText l (start after.run) after.run.events) none follows)

determined_on : (wanted : IndAddr) (text : Units) (after : BusNow) (came : Outcome) → UnitsDetermine wanted after came → QuietBuses → after.run.begun ≡ begun_by wanted text → FollowsText text.1 (start after.run) after.run.events → NothingLost after.run.events
    → IsDetermined wanted text.0 (units_now after.run) came
determined_on wanted text after came determine buses begun follows nothing =
    subst (λ (units : List BusUnit). IsDetermined wanted units (units_now after.run) came) (ap (λ (z : Begun). map shown (start_of z).units) begun ∙ shown_rest text.0)
    (determine (start after.run) after.run.events refl (buses text.1 (start after.run) after.run.events follows nothing))

-- one call at most failed, and none behind one that found no memory: so it did at the end
one_at_end : (faults so : FaultCounts) (r : RunNow) → faults ≡ so → (so.failed ≡ 0) ⊎ (so.wanting ≡ 0) → FailsForCause faults r → FailsAtEnd faults.failed r
one_at_end faults so r is one (inr end) = end
one_at_end faults so r is (inl none) (inl want) = inl (ap (λ (n : FaultCounts). n.failed) is ∙ none)
one_at_end faults so r is (inr none) (inl want) = absurd (let none_wanted : faults.wanting ≡ 0 = ap (λ (n : FaultCounts). n.wanting) is ∙ none in omega (arith, want, none_wanted))

at_end : (wanted : IndAddr) (came : Outcome) (faults : FaultCounts) (r : RunNow) (last : Story) → CountsEnd wanted came none_failed faults last → FailsForCause faults r → FailsAtEnd faults.failed r
at_end wanted (Ok assigned) faults r last (inl none) cause = one_at_end faults none_failed r none.0 (inl refl) cause
at_end wanted (Ok assigned) faults r last (inr failed) cause = one_at_end faults (one_failed none_failed) r failed (inr refl) cause
at_end wanted (Err (fault.NoMemory want)) faults r last counts cause = one_at_end faults (one_wanting none_failed) r counts (inl refl) cause
at_end wanted (Err fault.LinkFailed) faults r last counts cause = one_at_end faults (one_failed none_failed) r counts (inr refl) cause
at_end wanted (Err fault.TunnelLost) faults r last counts cause = one_at_end faults none_failed r counts (inl refl) cause
at_end wanted (Err (fault.GatewayRefused three)) faults r last counts cause = one_at_end faults none_failed r counts (inl refl) cause
at_end wanted (Err fault.Flooded) faults r last counts cause = one_at_end faults none_failed r counts (inl refl) cause

pub given_sim : (wanted : IndAddr) (text : Units) (bus after : BusNow) (came : Outcome) → BeginsAs wanted (Ok text) bus → ((one other : Begun) → lines_of one ≡ lines_of other → one ≡ other) → QuietBuses → QuietTexts → lines_of after.run.begun ≡ lines_of bus.run.begun
    → IsFresh (start after.run) → IsLegal (start after.run) after.run.events → FollowsText after.run.begun.losses (start after.run) after.run.events
    → ((from : AddressWorld) (events : List AddressEvent) → told_of after.run ≡ Told from events → AlwaysKeepsUnits wanted from events) → UnitsDetermine wanted after came → bus.faults ≡ none_failed
    → FailsForCause after.faults after.run → WhereClock (EndsSo wanted came) (story after.run) → WhereTold KeepsChannel (story after.run) → WhereTold (λ places. PutsOnly wanted (entries places)) (story after.run)
    → CountsEnd wanted came bus.faults after.faults (story after.run) → GivesOnBus wanted text after came
given_sim wanted text bus after came b law buses texts same fresh legal follows units determine none faults ended channel puts counts =
    let begun : after.run.begun ≡ begun_by wanted text = law after.run.begun bus.run.begun same ∙ run_begun wanted text bus b in
    let follows_it : FollowsText text.1 (start after.run) after.run.events = subst (λ (losses : List UnitLoss). FollowsText losses (start after.run) after.run.events) (ap (λ (z : Begun). z.losses) begun) follows in
    let counts_new : CountsEnd wanted came none_failed after.faults (story after.run) = subst (λ (n : FaultCounts). CountsEnd wanted came n after.faults (story after.run)) none counts in
    record {
      begun = begun;
      fresh = fresh;
      legal = legal;
      follows = follows_it;
      units = units (start after.run) after.run.events refl;
      nothing_lost = lost_nothing text after texts follows_it;
      determined = determined_on wanted text after came determine buses begun follows_it;
      over = record { ends = ended; channel = channel; puts = puts; counts = counts_new };
      last = at_end wanted came after.faults after.run (story after.run) counts_new faults;
    }

-- what was judged has begun a bus on which nothing was done
pub begun_new : (wanted : IndAddr) (j : Result Units Stop) (bus : BusNow) → BeginsAs wanted j bus → (bus.run.events ≡ []) × (bus.faults ≡ none_failed)
begun_new wanted (Ok text) bus b = (ap (λ (r : RunNow). r.events) b.0, b.1)
begun_new wanted (Err why) bus b = absurd b

pub gives_or : (wanted : IndAddr) (j : Result Units Stop) (bus before after : BusNow) (end : End) → BeginsAs wanted j bus → ((text : Units) → BeginsAs wanted (Ok text) bus → GivesSim wanted text before after end) → GivesOr wanted j before after end
gives_or wanted (Ok text) bus before after end b gives = gives text b
gives_or wanted (Err why) bus before after end b gives = absurd b

pub units_unread : (wanted : IndAddr) (j : Result Units Stop) (why : Stop) (before : BusNow) → (why ≢ stop.NoMemory tt → j ≡ Err why) → GivesOr wanted j before before (ends.Stops why)
units_unread wanted j why before h = stopped (before ≡ before) (λ text. GivesSim wanted text before before) j why h refl (λ text memory. (memory, refl))

-- the whole call
pub runs_assign_sim : (words : AssignSimWords) (reading : Reading) (files files' : FilesNow) (before after : BusNow) (end : End) → IsRead files.file true (Some words.units) reading → OnlyRose (failed (Some words.units) reading) files.faults files'.faults
    → GivesOr words.wanted (judged_units words reading) before after end → RunsAssignSim words files files' before after (Is end)
runs_assign_sim words reading files files' before after end is counts h = record {
  reading = reading;
  is_read = is;
  counts = counts;
  end = end;
  stops = units_stop words reading before after end h;
  gives = units_give words reading before after end h;
  replied = refl;
}
