-- `gateway ADDR OLD SCRIPT turns=N` with its option. It reads the catalogue, OLD and the script and tells the first test that fails; no port is bound then. Else
-- it binds the port that its words name. Where that fails, a link fault is told, and nothing else. Else it serves the line that OLD and the script say, at that
-- port, for at most so many turns, and hands the port back: all that is told is told of what that port told last. There it names the endpoint that is bound, and
-- answers by itself who asks who it is.
use Rattle.std.specs.Prelude.{ℕ, Err, List, None, Ok, Option, Result, Some, option_to_list, ◌≡◌, ◌⊎◌, ◌++◌, ◌∷◌, codes, true, [], option_and_then}
use Rattle.line_model.specs.Dialled.{Address, DialerNow, FailsToOpen, Tells}
use Rattle.knx_top.specs.Begun.{BeginsLine}
use Rattle.bus_sim.specs.Serving.{BreaksOff, ServedSo}
use Rattle.bus_sim.specs.Ended.{IsAtEnd}
use Rattle.bus_sim.specs.Loaded.{BusNow}
use Rattle.line_model.specs.Polled.{none_failed, one_failed}
use Rattle.line_model.specs.StartOf.{BusOf, nothing_kept, tunnel_address}
use Rattle.call_parts.specs.Judged.{ComesTo, models_of, read_of, unless_refused, unless_strange, installed, sound}
use Rattle.call_parts.specs.declared.ending.End.{End}
use Rattle.knx_model.specs.Outside.{FileContent, FilesNow, one_more}
use Rattle.line_model.specs.Follows.{Follows}
use Rattle.knx_top.specs.declared.commands.gateway.GatewayNames.{GatewayNames}
use Rattle.knx_top.specs.declared.commands.gateway.GatewayTexts.{GatewayTexts}
use Rattle.knx_top.specs.declared.commands.gateway.Ready.{Ready}
use Rattle.discovery_ends.specs.Answering.{HasNoRequest, shown_story}
use Rattle.discovery_ends.specs.Naming.{named_story}
use Rattle.call_parts.specs.Identity.{about_gateway, own_endpoint}
use Rattle.knx_model.specs.Meaning.{Installation}
use Rattle.line_model.specs.Fresh.{IsFresh}
use Rattle.line_model.specs.Legal.{IsLegal}
use Rattle.line_model.specs.PortStory.{IsNewPort, PortStory}
use Rattle.call_parts.specs.Input.{IsRead, OnlyRose, fault_in, first_some, goes_on, octets_of, failed}
use Rattle.knx_model.specs.declared.catalogue.model.NamedModel.{NamedModel}
use Rattle.line_model.specs.declared.outside.fault_counts.FaultCounts.{FaultCounts}
use Rattle.line_model.specs.declared.outside.port.PortFault.{PortFault}
use Rattle.call_parts.specs.Fronts.{Row, read_by}
use Rattle.bus_sim.specs.RunNow.{RunNow, start}
use Rattle.knx_model.specs.declared.script.ScriptLine.{ScriptLine}
use Rattle.bus_sim.specs.declared.serve.Served.{Served}
use Rattle.call_parts.specs.declared.ending.ServiceEnd.{ServiceEnd}
use Rattle.call_parts.specs.declared.options.SimOptions.{SimOptions}
use Rattle.call_parts.specs.Options.{project_options}
use Rattle.call_parts.specs.OptionValues.{from_1_to}
use Rattle.knx_model.specs.declared.project.Statement.{Statement}
use Rattle.call_words.specs.declared.stop.Stop.{Stop}
use Rattle.call_parts.specs.Ending.{StopsFor}
use Rattle.call_parts.specs.Names.{address_of, named}
use Rattle.call_parts.specs.Host.{address_value}
use Rattle.call_parts.specs.Stops.{catalogue_refused, lines_in, project_in, rule_broken, stranger_named, text_refused}
use Rattle.knx_model.specs.ScriptText.{first_stranger, script_reading}
use Rattle.call_parts.specs.OnLine.{on_bus}
use Rattle.line_model.specs.Lines.{script_of}
use Rattle.call_words.specs.declared.stop.Stop.TheVariants as stop
use Rattle.call_parts.specs.declared.ending.End.TheVariants as ends
use Rattle.call_parts.specs.declared.ending.ServiceEnd.TheVariants as over
use Rattle.bus_sim.specs.declared.serve.Served.TheVariants as served
use Rattle.call_words.specs.declared.input_file.InputFile.TheVariants as file
use Rattle.line_model.specs.Tunnel as tunnel
use Rattle.knx_model.specs.Statements.{reading}
use Rattle.std.specs.Option.{option_map}
use Rattle.line_model.specs.declared.outside.port.PortFault.TheVariants as fault
use Rattle.knx_model.specs.Answers.{◌>>=◌}

-- ADDR OLD SCRIPT turns=N [catalogue=F]
pub record GatewayWords : Type 0 where
  pub at : Address
  pub old : List ℕ
  pub script : List ℕ
  pub turns : ℕ
  pub catalogue : Option (List ℕ)

-- a gateway serves 1 to 1,000,000,000 turns
abbrev pub most_turns : ℕ
most_turns = 1000000000

-- `turns=N`
abbrev pub turns_rows : List (Row ℕ)
turns_rows = record { front = codes "turns="; reads = from_1_to most_turns } ∷ []

abbrev pub turns_value : List ℕ → Option ℕ
turns_value word = read_by turns_rows word

abbrev pub gateway_words : List (List ℕ) → Option GatewayWords
gateway_words (address ∷ old ∷ script ∷ number ∷ others) =
    option_and_then (λ (at : Address). option_and_then (λ (turns : ℕ). option_map (λ (options : SimOptions). let w : GatewayWords = record { at = at; old = old; script = script; turns = turns; catalogue = options.catalogue } in w)
    (project_options others)) (turns_value number)) (address_value address)
gateway_words _ = None

-- ---- what it reads

abbrev pub files_of_gateway : GatewayWords → List (List ℕ)
files_of_gateway words = option_to_list words.catalogue ++ words.old ∷ words.script ∷ []

pub record GatewayIsRead (file : List ℕ → FileContent) (words : GatewayWords) (texts : GatewayTexts) : Type 0 where
  pub catalogue : IsRead file true words.catalogue texts.catalogue
  pub old : IsRead file (goes_on texts.catalogue) (Some words.old) texts.old
  pub script : IsRead file (goes_on texts.old) (Some words.script) texts.script

abbrev pub failed_of_gateway : GatewayWords → GatewayTexts → Option (List ℕ)
failed_of_gateway words texts = first_some (failed words.catalogue texts.catalogue ∷ failed (Some words.old) texts.old ∷ failed (Some words.script) texts.script ∷ [])

-- ---- what it asks for, and its tests

-- a service: the port, what the line begins with, the lines of the script, and the most turns
pub record Service : Type 0 where
  pub at : Address
  pub before : Installation
  pub script : List ScriptLine
  pub turns : ℕ

abbrev pub service : GatewayWords → Installation → List ScriptLine → Service
service words before ls = record { at = words.at; before = before; script = ls; turns = words.turns }

abbrev pub gateway_told : GatewayWords → GatewayTexts → Service
gateway_told words texts = service words (project_in texts.catalogue texts.old) (lines_in texts.script)

abbrev pub gateway_tests : GatewayWords → GatewayTexts → List (Option Stop)
gateway_tests words texts =
    let s : Service = gateway_told words texts in
    fault_in words.catalogue texts.catalogue
    ∷ fault_in (Some words.old) texts.old
    ∷ fault_in (Some words.script) texts.script
    ∷ catalogue_refused texts.catalogue
    ∷ text_refused file.Old (reading (octets_of texts.old))
    ∷ rule_broken file.Old s.before
    ∷ text_refused file.Script (script_reading (octets_of texts.script))
    ∷ stranger_named (first_stranger (on_bus s.before s.before) s.script)
    ∷ []

-- ---- a serving at the port that came back

-- What the port told, as the line was served with it (the newest first): each search or description request that was answered at once stands without octets,
-- and its answer, which tells of this gateway, is left out. In connect responses and search responses 0.0.0.0:0 stands for the endpoint that is bound,
-- which the port was given. Where an answer failed, the request that it was for is left out.
abbrev pub line_story : Service → Option PortFault → PortStory → PortStory
line_story s failed port = shown_story (about_gateway (tunnel_address s.before)) failed (named_story (own_endpoint s.at) port)

-- the line began as OLD and the script say, its devices loaded with OLD's images; what happened on it is legal where clients come to a port, and follows the script,
-- whose lines with `group` call for nothing here
pub record IsServed (s : Service) (r : RunNow) : Type 0 where
  pub begins : BusOf s.before s.before (script_of s.script) nothing_kept (start r)
  pub fresh : IsFresh (start r)
  pub legal : IsLegal tunnel.Serves (start r) r.events
  pub follows : Follows (script_of s.script) tunnel.Serves (start r) r.events

-- by the line's events and what the port told, from a beginning to this end: a channel was made and closed, and ten turns were quiet; or just all turns were
-- used before that; or it broke off; and where memory is wanting, it broke off for that, or all turns were used and there was none to tell it
abbrev pub ServesTo : ServiceEnd → ℕ → RunNow → RunNow → PortStory → PortStory → Type 0
ServesTo over.Ended turns began r new_port port = ServedSo served.Ended turns began r new_port port
ServesTo (over.OpenTurns used) turns began r new_port port = (used ≡ turns) × ServedSo served.OpenTurns turns began r new_port port
ServesTo over.Failed turns began r new_port port = BreaksOff turns began r new_port port
ServesTo (over.Unserved want) turns began r new_port port = BreaksOff turns began r new_port port ⊎ ServedSo served.OpenTurns turns began r new_port port

-- it broke off, since a call of the port or of the line failed, or for want of memory
abbrev pub IsBrokenOff : ServiceEnd → Type 0
IsBrokenOff over.Failed = Unit {0}
IsBrokenOff (over.Unserved want) = Unit {0}
IsBrokenOff end = ⊥

-- That it failed is told exactly where one call of the port failed, which the dialer counts once the port is back, or one of the line, whose counts are 0 where it
-- begins, at the last time of 64 bits, 2^64 - 1 ms after it began. No other call failed.
abbrev pub CountsService : ServiceEnd → FaultCounts → FaultCounts → BusNow → Type 0
CountsService over.Failed before after line =
    ((after ≡ one_failed before) × (line.faults ≡ none_failed)) ⊎ ((after ≡ before) × (line.faults ≡ one_failed none_failed) × IsAtEnd line.run)
CountsService end before after line = (after ≡ before) × (line.faults ≡ none_failed)

-- a serving, before which the dialer's counts were `before`, and are `after` once the port is back
pub record Serving (s : Service) (line : BusNow) (port : PortStory) (before after : FaultCounts) (end : ServiceEnd) : Type 0 where
  pub run : IsServed s line.run
  -- the line before the first turn, and the port, which was new
  pub began : RunNow
  pub begins : BeginsLine s.before s.before s.script began
  pub new_port : PortStory
  pub new : IsNewPort new_port
  -- how an answer failed, if one did: then the serving broke off
  pub failed : Option PortFault
  pub broke : (why : PortFault) → failed ≡ Some why → IsBrokenOff end
  -- no request is left: each was answered at once, but for that one
  pub answered : HasNoRequest (line_story s failed port)
  pub serves : ServesTo end s.turns began line.run new_port (line_story s failed port)
  pub counts : CountsService end before after line

-- a port was bound, the line served there, and the port handed back, where the dialer told `before` and tells `after`
pub record ServedRun (s : Service) (before after : DialerNow) (line : BusNow) (end : ServiceEnd) : Type 0 where
  -- there was one call of `bind`, with just the host and the port number of the words
  pub given : Tells s.at.host s.at.port after.given
  pub once : after.dials ≡ one_more before.dials
  pub serving : Serving s line after.port_back before.counts after.counts end

-- ---- what comes of it

-- memory is wanting before a port is bound; or the port isn't bound, and the line is as it was; or the line is the one that was served
abbrev pub Serves : Service → DialerNow → DialerNow → BusNow → BusNow → End → Type 0
Serves s before after line line' (ends.Stops told) = (told ≡ stop.NoMemory tt) × (after ≡ before) × (line' ≡ line)
Serves s before after line line' ends.NotOpened = FailsToOpen s.at before after × (line' ≡ line)
Serves s before after line line' (ends.Serves end) = ServedRun s before after line' end
Serves s before after line line' end = ⊥

-- ---- a call, where the simulated line was `line` and is `line'`, and `Replied` says what was written

-- `gateway ADDR OLD SCRIPT turns=N` with its option, where the simulated line was `line` and is `line'`
pub record RunsGateway (words : GatewayWords) (files files' : FilesNow) (before after : DialerNow) (line line' : BusNow) (Replied : End → Type 0) : Type 0 where
  -- what was read, in order, up to the first read that was refused
  pub texts : GatewayTexts
  pub is_read : GatewayIsRead files.file words texts
  pub counts : OnlyRose (failed_of_gateway words texts) files.faults files'.faults
  pub end : End
  -- the first test that fails is told, and no port is bound
  pub stops : (why : Stop) → first_some (gateway_tests words texts) ≡ Some why → StopsFor why end × (after ≡ before) × (line' ≡ line)
  -- where none fails, the port of the words is bound and the line served there
  pub serves : first_some (gateway_tests words texts) ≡ None → Serves (gateway_told words texts) before after line line' end
  pub replied : Replied end

-- ---- the same tests one after another: what the code does

abbrev pub with_lines : GatewayWords → Installation → List ScriptLine → Result Service Stop
with_lines words before ls = unless_strange before before ls >>= λ known. Ok (service words before ls)

abbrev pub with_before : GatewayWords → List ℕ → Installation → Result Service Stop
with_before words script before = unless_refused file.Script (script_reading script) >>= with_lines words before

abbrev pub with_old : GatewayWords → List NamedModel → List ℕ → List Statement → Result Service Stop
with_old words models script ss = sound file.Old (installed models ss) >>= with_before words script

abbrev pub with_models : GatewayWords → List ℕ → List ℕ → List NamedModel → Result Service Stop
with_models words old script models = unless_refused file.Old (reading old) >>= with_old words models script

abbrev pub after_script : GatewayWords → GatewayTexts → List ℕ → List ℕ → Result Service Stop
after_script words texts old script = models_of texts.catalogue >>= with_models words old script

abbrev pub after_old : GatewayWords → GatewayTexts → List ℕ → Result Service Stop
after_old words texts old = read_of (Some words.script) texts.script >>= after_script words texts old

abbrev pub after_catalogue : GatewayWords → GatewayTexts → List ℕ → Result Service Stop
after_catalogue words texts catalogue = read_of (Some words.old) texts.old >>= after_old words texts

abbrev pub judged_gateway : GatewayWords → GatewayTexts → Result Service Stop
judged_gateway words texts = read_of words.catalogue texts.catalogue >>= after_catalogue words texts

-- it stops where it must, and the dialer and the line are as they were, or else it serves
abbrev pub ServesOr : Result Service Stop → DialerNow → DialerNow → BusNow → BusNow → End → Type 0
ServesOr j before after line line' end = ComesTo ((after ≡ before) × (line' ≡ line)) (λ s. Serves s before after line line') j end

-- ---- the words, the line, and how a serving ends, in the code

abbrev pub gateway_words_of : GatewayNames → GatewayWords
gateway_words_of names = record { at = address_of names.at; old = names.old.now; script = names.script.now; turns = names.turns; catalogue = named names.catalogue }

-- a line that begins as the service says, of which no call has failed
pub record IsLineOf (s : Service) (ready : Ready) : Type 0 where
  pub begins : BeginsLine s.before s.before s.script ready.line.run
  pub sound : ready.line.faults ≡ none_failed
  pub tunnel : ready.tunnel ≡ tunnel_address s.before

-- what was judged has its line
abbrev pub LineFor : Result Service Stop → Ready → Type 0
LineFor (Ok s) ready = IsLineOf s ready
LineFor (Err why) ready = ⊥

-- the end of a serving that broke off so
abbrev pub end_of_fault : PortFault → ServiceEnd
end_of_fault fault.Failed = over.Failed
end_of_fault (fault.NoMemory want) = over.Unserved want

-- a serving in which an answer failed broke off so, if not otherwise
abbrev pub unless_failed : Option PortFault → Result Served PortFault → Result Served PortFault
unless_failed failed (Err why) = Err why
unless_failed None (Ok as_served) = Ok as_served
unless_failed (Some why) (Ok as_served) = Err why

-- the end of a serving of at most so many turns
abbrev pub end_of_serving : ℕ → Result Served PortFault → ServiceEnd
end_of_serving turns (Ok served.Ended) = over.Ended
end_of_serving turns (Ok served.OpenTurns) = over.OpenTurns turns
end_of_serving turns (Err why) = end_of_fault why
