-- A line that was served at a port, once the port was handed back.
use Rattle.std.proofs.Common.{◌≡◌, ◌<◌, List, [], ◌∷◌, Option, None, Some, Result, Ok, Err, refl, sym, ap, ◌∙◌, subst, inl, inr, ◌⊎◌, ℕ, arith}
use Rattle.std.specs.Prelude.{IfOk, OnErr}
use Rattle.bus_sim.specs.declared.beginning.Beginning.{Beginning}
use Rattle.bus_sim.specs.declared.serve.Served.{Served}
use Rattle.bus_sim.specs.declared.serve.Served.TheVariants as served
use Rattle.bus_sim.specs.Begun.{mode_in}
use Rattle.bus_sim.specs.Loaded.{BusNow}
use Rattle.bus_sim.specs.RunNow.{RunNow, mode, script, start}
use Rattle.bus_sim.specs.Serving.{AddsAll, BeforeTurn, BreaksOff, CountsServing, ServedSo, served_beginning}
use Rattle.discovery.specs.declared.about.About.{About}
use Rattle.discovery_ends.specs.Answering.{AllAnswered, HasNoRequest, answerer_story, faults_with, shown_story}
use Rattle.discovery_ends.specs.Naming.{named_story}
use Rattle.knx_model.specs.Outside.{one_more}
use Rattle.line_model.specs.declared.outside.fault_counts.FaultCounts.{FaultCounts}
use Rattle.line_model.specs.Polled.{none_failed}
use Rattle.line_model.specs.declared.outside.port.PortFault.{PortFault}
use Rattle.line_model.specs.declared.outside.port.PortFault.TheVariants as fault
use Rattle.line_model.specs.Dialled.{Address, DialerNow, Tells, with_port}
use Rattle.line_model.specs.Follows.{Follows}
use Rattle.line_model.specs.Fresh.{IsFresh}
use Rattle.line_model.specs.Legal.{IsLegal}
use Rattle.line_model.specs.Lines.{Script, script_of}
use Rattle.line_model.specs.PortStory.{PortItem, PortStory, IsNewPort}
use Rattle.line_model.specs.StartOf.{BusOf, nothing_kept, tunnel_address}
use Rattle.line_model.specs.Tunnel.{Mode, Serves as AtPort}
use Rattle.line_model.specs.World.{World, Event}
use Rattle.knx_top.specs.Begun.{BeginsLine}
use Rattle.knx_top.proofs.Answered.{added_below, breaks_below, by_added, counts_below, none_below, so_below}
use Rattle.knx_top.proofs.DialledRuns.{to_address}
use Rattle.call_parts.specs.Identity.{about_gateway, own_endpoint}
use Rattle.call_parts.specs.declared.ending.ServiceEnd.{ServiceEnd}
use Rattle.knx_top.specs.commands.gateway.{CountsService, end_of_serving, IsBrokenOff, IsServed, ServedRun, Service, ServesTo, Serving, unless_failed}

-- ---- a serving in which an answer failed broke off so, if not otherwise

ends_broken : (turns : ℕ) (as_served : Served) (began r : RunNow) (new_port port : PortStory) → ServedSo as_served turns began r new_port port → BreaksOff turns began r new_port port
ends_broken turns as_served began r new_port port h =
    inr (record { begun = h.begun; items = h.items; told = h.told; whole_events = r.events; whole_items = h.items; whole = h.whole; breaks = BeforeTurn; few = h.few })

module _ (turns : ℕ) (began r : RunNow) (new_port port : PortStory) where
  abbrev So : Served → Type 0
  So as_served = ServedSo as_served turns began r new_port port

  abbrev Broken : Type 0
  Broken = BreaksOff turns began r new_port port

  served_unless : (failed : Option PortFault) (result : Result Served PortFault) → IfOk result So → IfOk (unless_failed failed result) So
  served_unless None (Ok as_served) so = so
  served_unless (Some why) (Ok as_served) so = tt
  served_unless None (Err why) so = tt
  served_unless (Some other) (Err why) so = tt

  broken_unless : (failed : Option PortFault) (result : Result Served PortFault) → IfOk result So → OnErr result Broken → OnErr (unless_failed failed result) Broken
  broken_unless None (Ok as_served) so broken = tt
  broken_unless (Some why) (Ok as_served) so broken = ends_broken turns as_served began r new_port port so
  broken_unless None (Err why) so broken = broken
  broken_unless (Some other) (Err why) so broken = broken

-- a call of the port failed where the answer did, but for want of memory
counts_unless : (failed : Option PortFault) (result : Result Served PortFault) (port : ℕ) (old line : FaultCounts) (r : RunNow) → (failed ≡ Some fault.Failed → 0 < port) → CountsServing result 0 port old line r → CountsServing (unless_failed failed result) 0 port old line r
counts_unless None (Ok as_served) port old line r broke h = h
counts_unless (Some (fault.NoMemory want)) (Ok as_served) port old line r broke h = h
counts_unless (Some fault.Failed) (Ok as_served) port old line r broke h = absurd (let some : 0 < port = broke refl in let none : port ≡ 0 = h.0 in omega (arith, some, none))
counts_unless None (Err why) port old line r broke h = h
counts_unless (Some other) (Err why) port old line r broke h = h

is_broken : (turns : ℕ) (why : PortFault) → IsBrokenOff (end_of_serving turns (Err why))
is_broken turns fault.Failed = tt
is_broken turns (fault.NoMemory want) = tt

broke_off : (turns : ℕ) (failed : Option PortFault) (result : Result Served PortFault) (why : PortFault) → failed ≡ Some why → IsBrokenOff (end_of_serving turns (unless_failed failed result))
broke_off turns None result why e = cc
broke_off turns (Some other) (Ok as_served) why e = is_broken turns other
broke_off turns (Some other) (Err other_why) why e = is_broken turns other_why

-- ---- how the serving ended, and why

serves_to : (turns : ℕ) (result : Result Served PortFault) (began r : RunNow) (new_port port : PortStory) → IfOk result (λ as_served. ServedSo as_served turns began r new_port port) → OnErr result (BreaksOff turns began r new_port port)
    → ServesTo (end_of_serving turns result) turns began r new_port port
serves_to turns (Ok served.Ended) began r new_port port so broken = so
serves_to turns (Ok served.OpenTurns) began r new_port port so broken = (refl, so)
serves_to turns (Err fault.Failed) began r new_port port so broken = broken
serves_to turns (Err (fault.NoMemory want)) began r new_port port so broken = inl broken

-- the dialer's counts take in the port's, of whose calls none had failed before
service_counts : (turns : ℕ) (result : Result Served PortFault) (port : ℕ) (before : FaultCounts) (line : BusNow) → CountsServing result 0 port none_failed line.faults line.run → CountsService (end_of_serving turns result) before (with_port port before) line
service_counts turns (Ok served.Ended) port before line h = (ap (λ (n : ℕ). with_port n before) h.0, h.1)
service_counts turns (Ok served.OpenTurns) port before line h = (ap (λ (n : ℕ). with_port n before) h.0, h.1)
service_counts turns (Err (fault.NoMemory want)) port before line h = (ap (λ (n : ℕ). with_port n before) h.0, h.1)
service_counts turns (Err fault.Failed) port before line (inl h) = inl (ap (λ (n : ℕ). with_port n before) h.0, h.1)
service_counts turns (Err fault.Failed) port before line (inr h) = inr (ap (λ (n : ℕ). with_port n before) h.0, h.1, h.2)

-- ---- the line is one where clients come to a port, or nothing happened on it

at_port : (began : Beginning) (r : RunNow) → r.begun ≡ served_beginning began → mode r ≡ AtPort
at_port began r is = ap mode_in is

abbrev IsAtPort : RunNow → Type 0
IsAtPort r = (mode r ≡ AtPort) ⊎ (r.events ≡ [])

broken_at_port : (turns : ℕ) (began r : RunNow) (new_port port : PortStory) → began.events ≡ [] → BreaksOff turns began r new_port port → IsAtPort r
broken_at_port turns began r new_port port nothing (inl same) = inr (ap (λ (run : RunNow). run.events) same.0 ∙ nothing)
broken_at_port turns began r new_port port nothing (inr broken) = inl (at_port began.begun r broken.begun)

is_at_port : (turns : ℕ) (result : Result Served PortFault) (began r : RunNow) (new_port port : PortStory) → began.events ≡ [] → IfOk result (λ as_served. ServedSo as_served turns began r new_port port)
    → OnErr result (BreaksOff turns began r new_port port) → IsAtPort r
is_at_port turns (Ok as_served) began r new_port port nothing so broken = inl (at_port began.begun r so.begun)
is_at_port turns (Err why) began r new_port port nothing so broken = broken_at_port turns began r new_port port nothing broken

none_legal : (m : Mode) (w : World) (events : List Event) → events ≡ [] → IsLegal m w events
none_legal m w [] nothing = tt
none_legal m w (e ∷ events) nothing = absurd cc

none_follow : (says : Script) (m : Mode) (w : World) (events : List Event) → events ≡ [] → Follows says m w events
none_follow says m w [] nothing = tt
none_follow says m w (e ∷ events) nothing = absurd cc

legal_at_port : (r : RunNow) → IsAtPort r → IsLegal (mode r) (start r) r.events → IsLegal AtPort (start r) r.events
legal_at_port r (inl at) legal = subst (λ (m : Mode). IsLegal m (start r) r.events) at legal
legal_at_port r (inr nothing) legal = none_legal AtPort (start r) r.events nothing

follows_at_port : (says : Script) (r : RunNow) → IsAtPort r → Follows says (mode r) (start r) r.events → Follows says AtPort (start r) r.events
follows_at_port says r (inl at) follows = subst (λ (m : Mode). Follows says m (start r) r.events) at follows
follows_at_port says r (inr nothing) follows = none_follow says AtPort (start r) r.events nothing

is_served : (s : Service) (began r : RunNow) → BeginsLine s.before s.before s.script began → start r ≡ start began → script r ≡ script began → IsFresh (start r) → IsLegal (mode r) (start r) r.events → Follows (script r) (mode r) (start r) r.events
    → IsAtPort r → IsServed s r
is_served s began r begins same says fresh legal follows at = record {
  begins = subst (λ (w : World). BusOf s.before s.before (script_of s.script) nothing_kept w) (sym same) begins.begins;
  fresh = fresh;
  legal = legal_at_port r at legal;
  follows = follows_at_port (script_of s.script) r at (subst (λ (these : Script). Follows these (mode r) (start r) r.events) (says ∙ begins.says) follows);
}

-- ---- the serving, and the port that comes back

module _ (s : Service) (turns : ℕ) (result : Result Served PortFault) (begun line : BusNow) (own own' : List ℕ) (about about' : About) (failed : Option PortFault) (new_port port port_back : PortStory) where
  pub serving : (faults faults' refused : ℕ) (before after : FaultCounts) (end : ServiceEnd) → BeginsLine s.before s.before s.script begun.run → s.turns ≡ turns → own ≡ own_endpoint s.at → about ≡ about_gateway (tunnel_address s.before)
      → IsNewPort new_port → faults ≡ 0 → begun.faults ≡ none_failed
      → IfOk result (λ as_served. ServedSo as_served turns begun.run line.run (answerer_story own about None new_port) (answerer_story own' about' failed port))
      → OnErr result (BreaksOff turns begun.run line.run (answerer_story own about None new_port) (answerer_story own' about' failed port))
      → CountsServing result (faults_with faults 0) (faults_with faults' refused) begun.faults line.faults line.run
      → start line.run ≡ start begun.run → script line.run ≡ script begun.run → IsFresh (start line.run) → IsLegal (mode line.run) (start line.run) line.run.events → Follows (script line.run) (mode line.run) (start line.run) line.run.events
      → AllAnswered about' failed (named_story own' port) → (failed ≡ Some fault.Failed → 0 < faults') → (0 < refused → 0 < faults') → port_back ≡ port → after ≡ with_port faults' before
      → end ≡ end_of_serving turns (unless_failed failed result) → Serving s line port_back before after end
  serving faults faults' refused before after end begins most named tells new unfailed none_yet so broken counts same says fresh legal follows answered broke refuses told taken ended =
      let below : PortStory = shown_story about failed (named_story own port) in
      let added : (items : List PortItem) → AddsAll items (answerer_story own about None new_port) (answerer_story own' about' failed port) → AddsAll items new_port below = λ items h. added_below own own' about about' failed items new_port port new h in
      let now : Result Served PortFault = unless_failed failed result in
      let so_far : IfOk result (λ as_served. ServedSo as_served turns begun.run line.run new_port below) = so_below turns begun.run line.run _ _ new_port below added result so in
      let served_so : IfOk now (λ as_served. ServedSo as_served turns begun.run line.run new_port below) = served_unless turns begun.run line.run new_port below failed result so_far in
      let broken_so : OnErr now (BreaksOff turns begun.run line.run new_port below) =
      broken_unless turns begun.run line.run new_port below failed result so_far (breaks_below turns begun.run line.run _ _ new_port below added result broken) in
      let counted : CountsServing now 0 faults' none_failed line.faults line.run =
      counts_unless failed result faults' none_failed line.faults line.run broke (counts_below result faults' refused none_failed line.faults line.run refuses (rw (unfailed, none_yet) at counts)) in
      let none : HasNoRequest below = by_added turns begun.run line.run _ _ (HasNoRequest below) (λ items h. none_below own own' about about' failed items new_port port new h answered) result so broken in
      record {
        run = is_served s begun.run line.run begins same says fresh legal follows (is_at_port turns now begun.run line.run new_port below begins.nothing served_so broken_so);
        began = begun.run;
        begins = begins;
        new_port = new_port;
        new = new;
        failed = failed;
        broke = rw ended (broke_off turns failed result);
        answered = rw (told, ← named, ← tells) none;
        serves = rw (told, ended, most, ← named, ← tells) (serves_to turns now begun.run line.run new_port below served_so broken_so);
        counts = rw (ended, taken) (service_counts turns now faults' before line counted);
      }

-- ---- the port was bound

-- a bind gave a port, and has counted nothing; the serving there told this
pub bound : (s : Service) (at : Address) (counts : FaultCounts) (given : Option Address) (before after : DialerNow) (line : BusNow) (end : ServiceEnd) → s.at ≡ at → counts ≡ before.counts → Tells at.host at.port given → after.given ≡ given → after.dials ≡ one_more before.dials
    → Serving s line after.port_back counts after.counts end → ServedRun s before after line end
bound s at counts given before after line end same still tells stays once told = record {
  given = subst (λ (address : Option Address). Tells s.at.host s.at.port address) (sym stays) (to_address s.at at given same tells);
  once = once;
  serving = subst (λ (n : FaultCounts). Serving s line after.port_back n after.counts end) still told;
}
