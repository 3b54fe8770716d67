-- `gateway`: its tests, the counts of faults over its reads, what it serves, and what is written of it.
use Rattle.std.proofs.Common.{refl, Err, List, None, Ok, Option, Result, Some, ℕ, ◌≡◌, ◌≢◌, ◌⊎◌, ◌∙◌, ◌∷◌, false, sym, ap, subst, inl, inr, []}
use Rattle.knx_top.specs.Begun.{BeginsLine}
use Rattle.bus_sim.specs.Loaded.{BusNow}
use Rattle.line_model.specs.Dialled.{DialerNow}
use Rattle.call_parts.specs.declared.ending.End.{End}
use Rattle.knx_model.specs.Outside.{FileContent, FilesNow}
use Rattle.call_parts.specs.Input.{OnlyRose, fault_in, first_some, goes_on, octets_of, failed}
use Rattle.knx_top.specs.declared.commands.gateway.GatewayTexts.{GatewayTexts}
use Rattle.knx_top.specs.declared.commands.gateway.Ready.{Ready}
use Rattle.line_model.specs.Polled.{none_failed}
use Rattle.line_model.specs.StartOf.{tunnel_address}
use Rattle.knx_model.specs.Meaning.{Installation}
use Rattle.call_parts.specs.Ending.{Is, StopsFor, report_in, wanting, untold}
use Rattle.knx_model.specs.declared.catalogue.model.NamedModel.{NamedModel}
use Rattle.line_model.specs.PortStory.{PortStory}
use Rattle.line_model.specs.declared.outside.fault_counts.FaultCounts.{FaultCounts}
use Rattle.knx_model.specs.declared.script.ScriptLine.{ScriptLine}
use Rattle.call_parts.specs.declared.ending.ServiceEnd.{ServiceEnd}
use Rattle.call_words.specs.declared.stop.Stop.{Stop}
use Rattle.call_parts.proofs.Stops.{broken_step, does_by, failed_step, models_step, read_step, stops_by, text_step, unless_stopped, passed, step, stopped}
use Rattle.call_parts.specs.Stops.{catalogue_refused, given_or, models_in, rule_broken, stranger_named, text_refused}
use Rattle.knx_model.specs.Rules.{first_broken}
use Rattle.knx_model.specs.ScriptText.{first_stranger, script_reading}
use Rattle.call_parts.specs.Judged.{models_of, read_of, unless_refused, unless_strange, sound}
use Rattle.call_parts.specs.OnLine.{on_bus}
use Rattle.call_parts.proofs.Counts.{rose_then, tail_of, alone}
use Rattle.call_parts.proofs.Ends.{stop_wants, stopped_report}
use Rattle.call_words.specs.declared.input_file.InputFile.TheVariants as file
use Rattle.call_words.specs.declared.stop.Stop.TheVariants as stop
use Rattle.call_parts.specs.declared.ending.End.TheVariants as ends
use Rattle.call_parts.specs.declared.ending.ServiceEnd.TheVariants as over
use Rattle.knx_top.specs.commands.gateway.{GatewayIsRead, failed_of_gateway, GatewayWords, IsLineOf, LineFor, RunsGateway, Serves, ServesOr, Service, Serving, gateway_tests, gateway_told, judged_gateway, after_catalogue, after_old, after_script, with_before, with_lines, with_models, with_old, service}
use Rattle.knx_model.specs.Statements.{reading}

-- ---- the tests

lines_are : (words : GatewayWords) (before : Installation) (ls : List ScriptLine)
    → with_lines words before ls ≡ unless_stopped (stranger_named (first_stranger (on_bus before before) ls) ∷ []) (service words before ls)
lines_are words before ls =
    let stranger : Option Stop = stranger_named (first_stranger (on_bus before before) ls) in
    step (stranger ∷ []) [] (unless_strange before before ls) ls (λ (known : List ScriptLine). Ok (service words before ls)) (service words before ls) (failed_step stranger ls) refl

pub judged_gateway_is : (words : GatewayWords) (texts : GatewayTexts) → judged_gateway words texts ≡ unless_stopped (gateway_tests words texts) (gateway_told words texts)
judged_gateway_is words texts =
    let s : Service = gateway_told words texts in
    let old : List ℕ = octets_of texts.old in
    let script : List ℕ = octets_of texts.script in
    let models : List NamedModel = models_in texts.catalogue in
    let t1 : Option Stop = fault_in words.catalogue texts.catalogue in
    let t2 : Option Stop = fault_in (Some words.old) texts.old in
    let t3 : Option Stop = fault_in (Some words.script) texts.script in
    let t4 : Option Stop = catalogue_refused texts.catalogue in
    let t5 : Option Stop = text_refused file.Old (reading old) in
    let t6 : Option Stop = rule_broken file.Old s.before in
    let t7 : Option Stop = text_refused file.Script (script_reading script) in
    let rest : List (Option Stop) = stranger_named (first_stranger (on_bus s.before s.before) s.script) ∷ [] in
    step (t1 ∷ []) (t2 ∷ t3 ∷ t4 ∷ t5 ∷ t6 ∷ t7 ∷ rest) (read_of words.catalogue texts.catalogue) (octets_of texts.catalogue) (after_catalogue words texts) s (read_step words.catalogue texts.catalogue)
    (step (t2 ∷ []) (t3 ∷ t4 ∷ t5 ∷ t6 ∷ t7 ∷ rest) (read_of (Some words.old) texts.old) old (after_old words texts) s (read_step (Some words.old) texts.old)
    (step (t3 ∷ []) (t4 ∷ t5 ∷ t6 ∷ t7 ∷ rest) (read_of (Some words.script) texts.script) script (after_script words texts old) s (read_step (Some words.script) texts.script)
    (step (t4 ∷ []) (t5 ∷ t6 ∷ t7 ∷ rest) (models_of texts.catalogue) models (with_models words old script) s (models_step texts.catalogue)
    (step (t5 ∷ []) (t6 ∷ t7 ∷ rest) (unless_refused file.Old (reading old)) (given_or [] (reading old)) (with_old words models script) s (text_step file.Old [] (reading old))
    (step (t6 ∷ []) (t7 ∷ rest) (sound file.Old s.before) s.before (with_before words script) s (broken_step file.Old (first_broken s.before.catalogue s.before.statements) s.before)
    (step (t7 ∷ []) rest (unless_refused file.Script (script_reading script)) s.script (with_lines words s.before) s (text_step file.Script [] (script_reading script))
    (lines_are words s.before s.script)))))))

-- ---- the last test

pub line_for : (words : GatewayWords) (before : Installation) (ls : List ScriptLine) (ready : Ready) → BeginsLine before before ls ready.line.run → ready.line.faults ≡ none_failed → ready.tunnel ≡ tunnel_address before → LineFor (with_lines words before ls) ready
line_for words before ls ready begins sound tunnel = rw begins.known (record { begins = begins; sound = sound; tunnel = tunnel })

-- ---- the reads

pub gateway_rose : (file : List ℕ → FileContent) (words : GatewayWords) (texts : GatewayTexts) (a b c d : List ℕ → ℕ) → GatewayIsRead file words texts
    → OnlyRose (failed words.catalogue texts.catalogue) a b → OnlyRose (failed (Some words.old) texts.old) b c → OnlyRose (failed (Some words.script) texts.script) c d → OnlyRose (failed_of_gateway words texts) a d
gateway_rose file words texts a b c d is first second third =
    let script : List (Option (List ℕ)) = failed (Some words.script) texts.script ∷ [] in
    let old : List (Option (List ℕ)) = failed (Some words.old) texts.old ∷ script in
    let behind_old : goes_on texts.old ≡ false → first_some script ≡ None = tail_of (goes_on texts.old) file (Some words.script) texts.script [] is.script (λ _. refl) in
    let behind_catalogue : goes_on texts.catalogue ≡ false → first_some old ≡ None = tail_of (goes_on texts.catalogue) file (Some words.old) texts.old script is.old behind_old in
    let scripted : OnlyRose (first_some script) c d = subst (λ (o : Option (List ℕ)). OnlyRose o c d) (sym (alone (failed (Some words.script) texts.script))) third in
    rose_then words.catalogue texts.catalogue old a b d behind_catalogue first
    (rose_then (Some words.old) texts.old script b c d behind_old second scripted)

-- ---- where the call stops before it binds

pub gateway_stop : (j : Result Service Stop) (told : Stop) (now : DialerNow) (line : BusNow) → (told ≢ stop.NoMemory tt → j ≡ Err told) → ServesOr j now now line line (ends.Stops told)
gateway_stop j told now line h = stopped ((now ≡ now) × (line ≡ line)) (λ (s : Service). Serves s now now line line) j told h (refl, refl) (λ s memory. (memory, refl, refl))

-- ---- where it serves

-- of what a line is for
pub of_line : (P : Type 0) (j : Result Service Stop) (ready : Ready) → LineFor j ready → ((s : Service) → IsLineOf s ready → P) → P
of_line P (Err why) ready is h = absurd is
of_line P (Ok s) ready is h = h s is

decided : (j : Result Service Stop) (words : GatewayWords) (ready : Ready) (before after : DialerNow) (line line' : BusNow) (end : End) → ((s : Service) → j ≡ Ok s → (s.at ≡ words.at) × (s.turns ≡ words.turns)) → LineFor j ready
    → ((s : Service) → IsLineOf s ready → s.at ≡ words.at → s.turns ≡ words.turns → Serves s before after line line' end) → ServesOr j before after line line' end
decided (Err why) words ready before after line line' end has is serves = absurd is
decided (Ok s) words ready before after line line' end has is serves = let h = has s refl in serves s is h.0 h.1

its_words : (words : GatewayWords) (texts : GatewayTexts) (s : Service) → judged_gateway words texts ≡ Ok s → (s.at ≡ words.at) × (s.turns ≡ words.turns)
its_words words texts s e =
    let same : s ≡ gateway_told words texts = passed (gateway_tests words texts) (gateway_told words texts) s (sym (judged_gateway_is words texts) ∙ e) in
    (ap (λ (told : Service). told.at) same, ap (λ (told : Service). told.turns) same)

pub served_line : (words : GatewayWords) (texts : GatewayTexts) (ready : Ready) (before after : DialerNow) (line line' : BusNow) (end : End) → LineFor (judged_gateway words texts) ready
    → ((s : Service) → IsLineOf s ready → s.at ≡ words.at → s.turns ≡ words.turns → Serves s before after line line' end) → ServesOr (judged_gateway words texts) before after line line' end
served_line words texts ready before after line line' end is serves = decided (judged_gateway words texts) words ready before after line line' end (its_words words texts) is serves

-- ---- the whole of it

-- where these files were read
pub runs_gateway : (words : GatewayWords) (files files' : FilesNow) (before after : DialerNow) (line line' : BusNow) (texts : GatewayTexts) (end : End)
    → GatewayIsRead files.file words texts → OnlyRose (failed_of_gateway words texts) files.faults files'.faults → ServesOr (judged_gateway words texts) before after line line' end
    → RunsGateway words files files' before after line line' (Is end)
runs_gateway words files files' before after line line' texts end is counts comes =
    record {
      texts = texts;
      is_read = is;
      counts = counts;
      end = end;
      stops = λ why first. (let h : StopsFor why end × ((after ≡ before) × (line' ≡ line)) = stops_by ((after ≡ before) × (line' ≡ line)) (λ (s : Service). Serves s before after line line') (gateway_tests words texts) (gateway_told words texts) (judged_gateway words texts) end (judged_gateway_is words texts) comes why first in (h.0, h.1.0, h.1.1));
      serves = does_by ((after ≡ before) × (line' ≡ line)) (λ (s : Service). Serves s before after line line') (gateway_tests words texts) (gateway_told words texts) (judged_gateway words texts) end (judged_gateway_is words texts) comes;
      replied = refl;
    }

-- no run is begun
serving_is_no_run : (s : Service) (before after : DialerNow) (line line' : BusNow) (end : End) → Serves s before after line line' end → report_in end ≡ None
serving_is_no_run s before after line line' (ends.Stops told) h = refl
serving_is_no_run s before after line line' (ends.Tells text) h = absurd h
serving_is_no_run s before after line line' ends.NotOpened h = refl
serving_is_no_run s before after line line' (ends.BreaksOff report want) h = absurd h
serving_is_no_run s before after line line' (ends.Reports told) h = absurd h
serving_is_no_run s before after line line' (ends.Sums told counts) h = absurd h
serving_is_no_run s before after line line' (ends.Serves served) h = refl
serving_is_no_run s before after line line' (ends.Finds searched) h = absurd h
serving_is_no_run s before after line line' (ends.Assigns given) h = absurd h

pub begins_no_run : (j : Result Service Stop) (before after : DialerNow) (line line' : BusNow) (end : End) → ServesOr j before after line line' end → report_in end ≡ None
begins_no_run (Err why) before after line line' end h = stopped_report why end h.0
begins_no_run (Ok s) before after line line' end h = serving_is_no_run s before after line line' end h

-- ---- what is written of it

untold_so : (s : Service) (line : BusNow) (port : PortStory) (before after : FaultCounts) (end : ServiceEnd) → Serving s line port before after end → Serving s line port before after (untold end)
untold_so s line port before after over.Ended h = h
untold_so s line port before after (over.OpenTurns turns) h = record {
  run = h.run;
  began = h.began;
  begins = h.begins;
  new_port = h.new_port;
  new = h.new;
  failed = h.failed;
  broke = λ why e. tt;
  answered = h.answered;
  serves = inr h.serves.1;
  counts = h.counts;
}
untold_so s line port before after over.Failed h = h
untold_so s line port before after (over.Unserved want) h = h

serves_wants : (s : Service) (before after : DialerNow) (line line' : BusNow) (end : End) → Serves s before after line line' end → Serves s before after line line' (wanting end)
serves_wants s before after line line' (ends.Stops told) h = (refl, h.1, h.2)
serves_wants s before after line line' (ends.Tells text) h = absurd h
serves_wants s before after line line' ends.NotOpened h = h
serves_wants s before after line line' (ends.BreaksOff report want) h = absurd h
serves_wants s before after line line' (ends.Reports told) h = absurd h
serves_wants s before after line line' (ends.Sums told counts) h = absurd h
serves_wants s before after line line' (ends.Serves served) h = record { given = h.given; once = h.once; serving = untold_so s line' after.port_back before.counts after.counts served h.serving }
serves_wants s before after line line' (ends.Finds searched) h = absurd h
serves_wants s before after line line' (ends.Assigns given) h = absurd h

pub gateway_written : (words : GatewayWords) (files files' : FilesNow) (before after : DialerNow) (line line' : BusNow) (end : End) (Replied : End → Type 0) → RunsGateway words files files' before after line line' (Is end)
    → Replied end ⊎ Replied (wanting end) → RunsGateway words files files' before after line line' Replied
gateway_written words files files' before after line line' end Replied t (inl replied) = record {
  texts = t.texts;
  is_read = t.is_read;
  counts = t.counts;
  end = t.end;
  stops = t.stops;
  serves = t.serves;
  replied = subst Replied (sym t.replied) replied;
}
gateway_written words files files' before after line line' end Replied t (inr replied) = record {
  texts = t.texts;
  is_read = t.is_read;
  counts = t.counts;
  end = wanting t.end;
  stops = λ why e. (stop_wants why t.end (t.stops why e).0, (t.stops why e).1, (t.stops why e).2);
  serves = λ e. serves_wants (gateway_told words t.texts) before after line line' t.end (t.serves e);
  replied = subst (λ (told : End). Replied (wanting told)) (sym t.replied) replied;
}
