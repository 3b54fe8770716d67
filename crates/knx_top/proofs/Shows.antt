-- What is shown of the devices of the line when a run has ended: each is there still, and its case is told by what the project says of it.
use Rattle.std.proofs.Common.{◌≡◌, List, [], ◌∷◌, length, Option, Some, None, All, refl, sym, ap, ◌∙◌, subst, ℕ}
use Rattle.std.specs.Prelude.{Bool, IsSome}
use Rattle.std.proofs.lemmas.List.Elements.{All-weaker}
use Rattle.bus_sim.specs.declared.clients.Clients.TheVariants.{One}
use Rattle.bus_sim.specs.Loaded.{BusNow}
use Rattle.bus_sim.specs.RunNow.{RunNow, start, story, world}
use Rattle.hub_core.specs.Promises.{IsRightOver}
use Rattle.knx_model.specs.declared.address.IndAddr.{IndAddr}
use Rattle.knx_model.specs.declared.config.Image.{Image}
use Rattle.knx_model.specs.Device.{NonVolatile}
use Rattle.knx_model.specs.DeviceState.{DeviceState}
use Rattle.knx_model.specs.Meaning.{Installation}
use Rattle.line_model.specs.declared.log.LogEntry.{LogEntry}
use Rattle.line_model.specs.declared.log.Report.{Report}
use Rattle.line_model.specs.Headline.{IsRight}
use Rattle.line_model.specs.Log.{Job}
use Rattle.line_model.specs.OldStoppedOrNew.{Both, IsCase as IsCaseAt, Meant, OldStoppedOr, OldStoppedOrNew, RunsJob}
use Rattle.call_words.specs.Printed.{DeviceShown}
use Rattle.line_model.specs.World.{World, Event, replay}
use Rattle.call_words.specs.declared.job_word.JobWord.{JobWord}
use Rattle.tunnel_link.specs.Goes.{GoesOn}
use Rattle.knx_top.specs.Ran.{FaultsOfLine, Ran, Commission}
use Rattle.call_parts.specs.OnLine.{AreCompiled, IsCompiled, IsImageWhere, on_bus}
use Rattle.call_parts.specs.Ending.{report_in}
use Rattle.knx_top.specs.Shown.{AreShown, AreShownOf, IsShown, IsShownIn}
use Rattle.knx_top.proofs.Driven.{same_start, told_whole}
use Rattle.knx_top.proofs.Meanings.{now_case}
use Rattle.call_parts.specs.declared.ending.End.{End}
use Rattle.call_parts.specs.declared.ending.End.TheVariants as ends
use Rattle.knx_top.specs.commands.sim.{ShowsRun, Runs}

-- ---- the devices of the line stay on it

there_still : (P : NonVolatile → NonVolatile → Type 0) (one other : Option DeviceState) → Both P one other → IsSome one → IsSome other
there_still P (Some old) (Some new) both some = refl
there_still P (Some old) None both some = absurd both
there_still P None other both some = absurd cc

all_still : (IsNew : Meant) (jobs : List Job) (start : World) (events : List Event) (log : List LogEntry) (devices : List (IndAddr × Option Image)) → OldStoppedOrNew IsNew jobs start events log
    → All (λ (d : IndAddr × Option Image). IsSome (start.devices d.0.raw)) devices → All (λ (d : IndAddr × Option Image). IsSome ((replay start events).devices d.0.raw)) devices
all_still IsNew jobs start events log devices o there =
    All-weaker (λ (d : IndAddr × Option Image). IsSome (start.devices d.0.raw)) (λ (d : IndAddr × Option Image). IsSome ((replay start events).devices d.0.raw))
    (λ d some. there_still (OldStoppedOr (IsNew d.0.raw)) (start.devices d.0.raw) ((replay start events).devices d.0.raw) (now_case (IsCaseAt IsNew start) events o.case d.0.raw) some)
    devices there

pub still_there : (jobs : List Job) (before after : RunNow) (log : List LogEntry) (devices : List (IndAddr × Option Image)) → before.begun.clients ≡ One → before.events ≡ [] → GoesOn (story before) (story after) → IsRightOver jobs (story after) log
    → All (λ (d : IndAddr × Option Image). IsSome ((world before).devices d.0.raw)) devices → All (λ (d : IndAddr × Option Image). IsSome ((world after).devices d.0.raw)) devices
still_there jobs before after log devices one nothing goes right there =
    let begun : world before ≡ start before = ap (λ (events : List Event). replay (start before) events) nothing in
    let same : world before ≡ start after = begun ∙ sym (same_start before after one goes) in
    let now_right : IsRight jobs (start after) after.events log = subst (λ s. IsRightOver jobs s log) (told_whole before after one goes) right in
    all_still (RunsJob jobs) jobs (start after) after.events log devices now_right.devices (subst (λ (w : World). All (λ (d : IndAddr × Option Image). IsSome (w.devices d.0.raw)) devices) same there)

-- ---- by what the project says of each

is_shown : (project : Installation) (w : World) (shown : DeviceShown) (d : IndAddr × Option Image) (address : IndAddr) → IsShownIn w shown d → IsCompiled project d address → IsShown project w shown address
is_shown project w shown d address is compiled =
    subst (λ (a : IndAddr). IsShown project w shown a) compiled.device (record {
      device = is.shows.device;
      state = is.state;
      there = is.there;
      case = is.shows.case project (subst (λ (a : IndAddr). IsImageWhere project a d.1) (sym compiled.device) compiled.image);
      values = is.shows.values;
    })

pub are_shown : (project : Installation) (w : World) (shown : List DeviceShown) (devices : List (IndAddr × Option Image)) (listed : List IndAddr) → AreShownOf w shown devices → AreCompiled project devices listed → AreShown project w shown listed
are_shown project w [] [] [] of compiled = tt
are_shown project w [] [] (a ∷ listed) of compiled = absurd compiled
are_shown project w [] (d ∷ devices) listed of compiled = absurd of
are_shown project w (s ∷ shown) [] listed of compiled = absurd of
are_shown project w (s ∷ shown) (d ∷ devices) [] of compiled = absurd compiled
are_shown project w (s ∷ shown) (d ∷ devices) (a ∷ listed) of compiled = (is_shown project w s d a of.0 compiled.0, are_shown project w shown devices listed of.1 compiled.1)

-- ---- the end of a run, as it is reported or as memory was wanting for that

pub runs_so : (c : Commission) (before after : BusNow) (report : Report) (jobs : List JobWord) (turns : ℕ) (devices : List (IndAddr × Option Image)) (log : Bool) (end : End) → Ran c after.run report jobs → AreCompiled c.project devices (on_bus c.project c.before)
    → turns ≡ length c.turns → log ≡ c.options.log → ShowsRun after.run report jobs turns devices log end → Runs c before after end
runs_so c before after report jobs turns devices log (ends.Stops why) ran compiled many logs shows = absurd shows
runs_so c before after report jobs turns devices log (ends.Tells text) ran compiled many logs shows = absurd shows
runs_so c before after report jobs turns devices log ends.NotOpened ran compiled many logs shows = absurd shows
runs_so c before after report jobs turns devices log (ends.BreaksOff told want) ran compiled many logs shows = (jobs, subst (λ (r : Report). Ran c after.run r jobs) (sym shows) ran)
runs_so c before after report jobs turns devices log (ends.Reports told) ran compiled many logs shows = record {
  ran = subst (λ (r : Report). Ran c after.run r told.jobs) (sym shows.0) (subst (λ (ws : List JobWord). Ran c after.run report ws) (sym shows.1) ran);
  with_turns = shows.2 ∙ many;
  shown = are_shown c.project (world after.run) told.devices devices (on_bus c.project c.before) shows.3 compiled;
  with_log = shows.4 ∙ logs;
}
runs_so c before after report jobs turns devices log (ends.Sums told counts) ran compiled many logs shows = absurd shows
runs_so c before after report jobs turns devices log (ends.Serves served) ran compiled many logs shows = absurd shows
runs_so c before after report jobs turns devices log (ends.Finds searched) ran compiled many logs shows = absurd shows
runs_so c before after report jobs turns devices log (ends.Assigns given) ran compiled many logs shows = absurd shows

-- it is told with the same fault
pub fault_so : (r : RunNow) (report : Report) (jobs : List JobWord) (turns : ℕ) (devices : List (IndAddr × Option Image)) (log : Bool) (end : End) (after : BusNow) → ShowsRun r report jobs turns devices log end
    → FaultsOfLine (Some report) after → FaultsOfLine (report_in end) after
fault_so r report jobs turns devices log (ends.Stops why) after shows counts = absurd shows
fault_so r report jobs turns devices log (ends.Tells text) after shows counts = absurd shows
fault_so r report jobs turns devices log ends.NotOpened after shows counts = absurd shows
fault_so r report jobs turns devices log (ends.BreaksOff told want) after shows counts = subst (λ (told : Report). FaultsOfLine (Some told) after) (sym shows) counts
fault_so r report jobs turns devices log (ends.Reports told) after shows counts = subst (λ (told : Report). FaultsOfLine (Some told) after) (sym shows.0) counts
fault_so r report jobs turns devices log (ends.Sums told sums) after shows counts = absurd shows
fault_so r report jobs turns devices log (ends.Serves served) after shows counts = absurd shows
fault_so r report jobs turns devices log (ends.Finds searched) after shows counts = absurd shows
fault_so r report jobs turns devices log (ends.Assigns given) after shows counts = absurd shows
