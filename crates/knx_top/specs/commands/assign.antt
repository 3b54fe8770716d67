-- `assign ADDR IA` and `assign sim UNITS IA`: the one unit in programming mode gets an individual address. The first dials the gateway that its words name;
-- where that fails, a link fault is told, and nothing else; else the address is given over the link that was dialled, which is handed back. The second reads
-- UNITS, tells the first test that fails, and else begins the simulated bus anew with the units and the losses of the text, behind a tunnel on the line of
-- the address, and gives it there.
use Rattle.std.specs.Prelude.{ℕ, ◌≡◌, ◌+◌, ◌*◌, ◌/◌, List, [], ◌∷◌, Option, Some, None, Result, Ok, Err, true, option_and_then}
use Rattle.std.specs.Option.{option_map}
use Rattle.address_talk.specs.declared.assigned.Assigned.{Assigned}
use Rattle.address_talk.specs.declared.assigned.AssignFault.{AssignFault}
use Rattle.address_talk.specs.Ends.{EndsSo}
use Rattle.address_law.specs.Determined.{IsDetermined}
use Rattle.address_commission.specs.Always.{KeepsChannel}
use Rattle.address_commission.specs.Counted.{CountsEnd}
use Rattle.address_commission.specs.Exact.{WhereClock}
use Rattle.address_sim.specs.Driven.{BusNow, FailsAtEnd}
use Rattle.address_sim.specs.Follows.{FollowsText}
use Rattle.address_sim.specs.Told.{Begun, start, story, units_now}
use Rattle.address_sim.specs.Undisturbed.{NothingLost}
use Rattle.address_text.specs.UnitText.{unit_reading}
use Rattle.address_world.specs.AddressLegal.{IsFresh, IsLegal}
use Rattle.address_world.specs.Keeps.{AlwaysKeepsUnits, PutsOnly}
use Rattle.address_world.specs.declared.unit.Unit.{Unit as BusUnit}
use Rattle.address_world.specs.declared.unit.UnitLoss.{UnitLoss}
use Rattle.call_words.specs.declared.input_file.InputFile.TheVariants as file
use Rattle.call_words.specs.declared.stop.Stop.{Stop}
use Rattle.call_words.specs.declared.stop.Stop.TheVariants as stop
use Rattle.knx_model.specs.Addresses.{ind_value}
use Rattle.knx_model.specs.Answers.{◌>>=◌}
use Rattle.knx_model.specs.declared.address.IndAddr.{IndAddr}
use Rattle.knx_model.specs.Outside.{FilesNow, one_more}
use Rattle.line_model.specs.Dialled.{Address, DialerNow, FailsToOpen, Tells}
use Rattle.line_model.specs.LinkStory.{Story}
use Rattle.line_model.specs.Polled.{none_failed}
use Rattle.line_model.specs.Record.{entries}
use Rattle.line_model.specs.declared.outside.fault_counts.FaultCounts.{FaultCounts}
use Rattle.tunnel_link.specs.Rights.{WhereTold}
use Rattle.call_parts.specs.Ending.{StopsFor}
use Rattle.call_parts.specs.Given.{EndsAs}
use Rattle.call_parts.specs.Host.{address_value}
use Rattle.call_parts.specs.Input.{IsRead, OnlyRose, failed, fault_in, first_some, octets_of}
use Rattle.call_parts.specs.Judged.{ComesTo, read_of, unless_refused}
use Rattle.call_parts.specs.Names.{address_of}
use Rattle.call_parts.specs.Stops.{given_or, text_refused}
use Rattle.knx_top.specs.declared.commands.assign.AssignNames.{AssignNames}
use Rattle.knx_top.specs.declared.commands.assign.AssignSimNames.{AssignSimNames}
use Rattle.call_parts.specs.declared.ending.End.{End}
use Rattle.call_parts.specs.declared.ending.End.TheVariants as ends
use Rattle.call_parts.specs.declared.given.AssignEnd.{AssignEnd}
use Rattle.call_parts.specs.declared.input.Reading.{Reading}

-- ADDR IA
pub record AssignWords : Type 0 where
  pub at : Address
  pub wanted : IndAddr

-- UNITS IA
pub record AssignSimWords : Type 0 where
  pub units : List ℕ
  pub wanted : IndAddr

abbrev pub assign_words : List ℕ → List ℕ → Option AssignWords
assign_words address wanted =
    option_and_then (λ (at : Address). option_map (λ (ia : IndAddr). let w : AssignWords = record { at = at; wanted = ia } in w) (ind_value wanted)) (address_value address)

abbrev pub assign_sim_words : List ℕ → List ℕ → Option AssignSimWords
assign_sim_words units wanted = option_map (λ (ia : IndAddr). let w : AssignSimWords = record { units = units; wanted = ia } in w) (ind_value wanted)

-- ---- what came of it, and what is told of that

abbrev pub Outcome : Type 0
Outcome = Result Assigned AssignFault

-- By what the link told last, whatever its clock: an answer and a fault are told exactly at their cause, the channel is kept as it should be, and behind an
-- answer it is asked to end, once, unless a call of the link failed there. Where the clock is exact the pace is kept too. A fault of the link, or its want of
-- memory, is told exactly where one call of it failed so: these were the counts before it, and after it.
pub record GivesOver (wanted : IndAddr) (came : Outcome) (before after : FaultCounts) (last : Story) : Type 0 where
  pub ends : WhereClock (EndsSo wanted came) last
  pub channel : WhereTold KeepsChannel last
  -- no request whose frame reads was sent but broadcast reads of addresses, broadcast writes of the wanted one, T_Connects and T_Disconnects to it
  pub puts : WhereTold (λ places. PutsOnly wanted (entries places)) last
  pub counts : CountsEnd wanted came before after last

-- this came of it, of which P holds; or memory is wanting, to go on or to tell it
abbrev pub TellsOutcome : IndAddr → List BusUnit → (Outcome → Type 0) → AssignEnd → Type 0
TellsOutcome wanted units P end = (came : Outcome) × P came × EndsAs wanted units came end

-- ---- over a dialled link

-- the address was given over a link that was dialled by one call of `dial`, and the link was handed back; the dialer counts its calls that failed
pub record GivesDialled (words : AssignWords) (before after : DialerNow) (came : Outcome) : Type 0 where
  pub given : Tells words.at.host words.at.port after.given
  pub once : after.dials ≡ one_more before.dials
  pub over : GivesOver words.wanted came before.counts after.counts after.link_back

-- the dial failed; or a link was dialled, and the address given over it. No units are told
abbrev pub Gives : AssignWords → DialerNow → DialerNow → End → Type 0
Gives words before after ends.NotOpened = FailsToOpen words.at before after
Gives words before after (ends.Assigns end) = TellsOutcome words.wanted [] (GivesDialled words before after) end
Gives words before after end = ⊥

-- `assign ADDR IA`, where the dialer told `before` and tells `after`, and `Replied` says what was written
pub record RunsAssign (words : AssignWords) (before after : DialerNow) (Replied : End → Type 0) : Type 0 where
  pub end : End
  pub gives : Gives words before after end
  pub replied : Replied end

-- ---- over the simulated bus

abbrev pub Units : Type 0
Units = List BusUnit × List UnitLoss

-- the tunnel is part 255 of the address's line
abbrev pub tunnel_beside : IndAddr → IndAddr
tunnel_beside wanted = record { raw = wanted.raw / 256 * 256 + 255 }

-- what the bus begins with, by the words and the text
abbrev pub begun_by : IndAddr → Units → Begun
begun_by wanted text = record { tunnel = tunnel_beside wanted; units = text.0; losses = text.1 }

abbrev pub units_told : Reading → Units
units_told reading = given_or ([], []) (unit_reading (octets_of reading))

abbrev pub assign_sim_tests : AssignSimWords → Reading → List (Option Stop)
assign_sim_tests words reading = fault_in (Some words.units) reading ∷ text_refused file.Script (unit_reading (octets_of reading)) ∷ []

-- The bus is as it was left: it began as the text says, all that happened on it is legal and follows the text. At every moment each unit has its start's
-- address, or is in programming mode and has the wanted one. Where nothing was lost, as with a text
-- without losses, the units of the text determine what came of it, and the units at the end. The link fails only where the clock runs out.
pub record GivesOnBus (wanted : IndAddr) (text : Units) (after : BusNow) (came : Outcome) : Type 0 where
  pub begun : after.run.begun ≡ begun_by wanted text
  pub fresh : IsFresh (start after.run)
  pub legal : IsLegal (start after.run) after.run.events
  pub follows : FollowsText text.1 (start after.run) after.run.events
  pub units : AlwaysKeepsUnits wanted (start after.run) after.run.events
  pub nothing_lost : text.1 ≡ [] → NothingLost after.run.events
  pub determined : NothingLost after.run.events → IsDetermined wanted text.0 (units_now after.run) came
  pub over : GivesOver wanted came none_failed after.faults (story after.run)
  pub last : FailsAtEnd after.faults.failed after.run

-- memory is wanting before anything is done; or the address was given on the bus, and its units are told as they now are
abbrev pub GivesSim : IndAddr → Units → BusNow → BusNow → End → Type 0
GivesSim wanted text before after (ends.Stops told) = (told ≡ stop.NoMemory tt) × (after ≡ before)
GivesSim wanted text before after (ends.Assigns end) = TellsOutcome wanted (units_now after.run) (GivesOnBus wanted text after) end
GivesSim wanted text before after end = ⊥

-- `assign sim UNITS IA`, where the bus was `before` and is `after`
pub record RunsAssignSim (words : AssignSimWords) (files files' : FilesNow) (before after : BusNow) (Replied : End → Type 0) : Type 0 where
  pub reading : Reading
  pub is_read : IsRead files.file true (Some words.units) reading
  pub counts : OnlyRose (failed (Some words.units) reading) files.faults files'.faults
  pub end : End
  -- the first test that fails is told, and nothing is done
  pub stops : (why : Stop) → first_some (assign_sim_tests words reading) ≡ Some why → StopsFor why end × (after ≡ before)
  -- where none fails, the address is given
  pub gives : first_some (assign_sim_tests words reading) ≡ None → GivesSim words.wanted (units_told reading) before after end
  pub replied : Replied end

-- ---- the same tests one after another: what the code does

abbrev pub judged_units : AssignSimWords → Reading → Result Units Stop
judged_units words reading = read_of (Some words.units) reading >>= λ octets. unless_refused file.Script (unit_reading octets)

-- it stops where it must, and the bus is as it was, or else it gives the address
abbrev pub GivesOr : IndAddr → Result Units Stop → BusNow → BusNow → End → Type 0
GivesOr wanted j before after end = ComesTo (after ≡ before) (λ text. GivesSim wanted text before after) j end

-- ---- the words in the code

abbrev pub assign_words_of : AssignNames → AssignWords
assign_words_of names = record { at = address_of names.at; wanted = names.wanted }

abbrev pub assign_sim_words_of : AssignSimNames → AssignSimWords
assign_sim_words_of names = record { units = names.units.now; wanted = names.wanted }

-- a bus on which nothing was done, begun by a text
abbrev pub BeginsAs : IndAddr → Result Units Stop → BusNow → Type 0
BeginsAs wanted (Ok text) bus = (bus.run ≡ record { begun = begun_by wanted text; events = [] }) × (bus.faults ≡ none_failed)
BeginsAs wanted (Err why) bus = ⊥
