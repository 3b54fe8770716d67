-- The same of the whole line: its calm events are calm events of its tunnel.
use Rattle.std.proofs.Common.{◌≡◌, ℕ, zero, suc, ◌≤◌, List, [], ◌∷◌, length, not, Option, Some, None, refl, sym, ap, subst}
use Rattle.knx_model.specs.declared.frames.cemi.Ldata.{Ldata}
use Rattle.knx_model.specs.ApduReading.{option_map}
use Rattle.knx_model.specs.DeviceSending.{first_frame}
use Rattle.line_model.specs.Calm as line
use Rattle.line_model.specs.Fresh.{IsFresh}
use Rattle.line_model.specs.Legal.{IsLegal}
use Rattle.line_model.specs.Record.{Entry, record_of, tunnel_record}
use Rattle.line_model.specs.ClientView.{channel}
use Rattle.line_model.specs.Faults.{tries}
use Rattle.line_model.specs.Undisturbed.{AwaitsNothing}
use Rattle.line_model.specs.Tunnel as tunnel
use Rattle.line_model.specs.Tunnel.{Tunnel, TunnelEvent, Commissions, fresh}
use Rattle.line_model.specs.World.{World, Event, AtGateway, Comes, Send, From, Renew, Up, UpRefused, Down, LoseUp, LoseDown, Bus, BusTorn, BusWorn, BusAgain, DevSend, DevRepeat, DevClose, GwAgain, GwRepeat, GwClose, Cut, On, Pass, me, on_bus, is_confirmed, carried, heard, waiting_at, repeat_at, tunnel_event, tunnel_events, replay}
use Rattle.line_model.proofs.Projection.{runs, legal, records}
use Rattle.tunnel_law.proofs.Inside.{Every}
use Rattle.line_law.proofs.Coupled.{IsFrameOf, OwnIf, Owned}
use Rattle.line_law.proofs.Owned.{waiting_owned, repeat_owned, owned_step}
use Rattle.calm_law.specs.CalmTunnel as calm
use Rattle.calm_law.specs.CalmTunnel.{Confirms, IsIndication, PutsRightly, PassesSo, PassesIdly, KeepsItsChannel}
use Rattle.calm_law.specs.CalmLine.{ChannelIdles, PassesIdlyOnLine}
use Rattle.calm_law.proofs.Short.{IsShort, SendsShort, AreShort}
use Rattle.calm_law.proofs.Law.{Keeps, idly, kept}
use Rattle.calm_law.proofs.Tries.{none_fails}
use Rattle.calm_law.specs.CalmCounts.{ComeForRequests}
use Rattle.calm_law.proofs.OwnFrames.{all_own}
use Rattle.calm_law.proofs.Tally.{AreOwn, come_for_requests}

-- ---- each event

module _ (w : World) where
  -- a frame of the client goes over the bus
  abbrev Carries : List Ldata → TunnelEvent → Type 0
  Carries bus (tunnel.Carried con) = Confirms (me w) bus con
  Carries bus _ = Unit {0}

  carries : (left_out : List ℕ) (bus : List Ldata) → Carries bus (carried w left_out (option_map (on_bus (me w)) (first_frame bus)))
  carries left_out [] = tt
  carries left_out (frame ∷ frames) = (not (is_confirmed w left_out (on_bus (me w) frame)), refl)

  carried_calm : (left_out : List ℕ) (o : Option Ldata) → Carries w.tunnel.gateway.bus (carried w left_out o) → calm.IsCalm w.tunnel (carried w left_out o)
  carried_calm left_out None h = tt
  carried_calm left_out (Some frame) h = h

  -- a frame of a device comes to the gateway
  indication : (b : ℕ) (f : Ldata) → IsFrameOf b f → length f.tpdu ≤ 64 → IsIndication f
  indication b f own short = record { code = ap (λ (z : Ldata). z.code) own.1; fits = short }

  heard_calm : (b : ℕ) (o : Option Ldata) → ((f : Ldata) → o ≡ Some f → IsFrameOf b f) → IsShort o → calm.IsCalm w.tunnel (heard Comes o)
  heard_calm b None own short = tt
  heard_calm b (Some f) own short = (indication b f (own f refl) short.1, tt)

  comes_calm : (b : ℕ) (gateway : AtGateway) (o : Option Ldata) → gateway ≡ Comes → ((f : Ldata) → o ≡ Some f → IsFrameOf b f) → IsShort o → calm.IsCalm w.tunnel (heard gateway o)
  comes_calm b gateway o e own short = subst (λ g. calm.IsCalm w.tunnel (heard g o)) (sym e) (heard_calm b o own short)

  pub event_calm : (e : Event) → Owned w → line.IsCalm w e → SendsShort w e → calm.IsCalm w.tunnel (tunnel_event w e)
  event_calm (Send octets) own c short = tt
  event_calm (From endpoint octets) own c short = absurd c
  event_calm Renew own c short = tt
  event_calm (Up age) own c short = c
  event_calm (UpRefused age status) own c short = absurd c
  event_calm (Down age) own c short = c
  event_calm (LoseUp age) own c short = absurd c
  event_calm (LoseDown age) own c short = absurd c
  event_calm (Bus left_out) own c short = carried_calm left_out (option_map (on_bus (me w)) (first_frame w.tunnel.gateway.bus)) (carries left_out w.tunnel.gateway.bus)
  event_calm (BusTorn fresh octets) own c short = absurd c
  event_calm (BusWorn octets) own c short = absurd c
  event_calm (BusAgain device) own c short = absurd c
  event_calm (DevSend device gateway left_out) own c short = comes_calm device gateway (waiting_at w device) c.0 (λ f e. waiting_owned w device f own e) short
  event_calm (DevRepeat device gateway) own c short = comes_calm device gateway (repeat_at w device) c.0 (λ f e. repeat_owned w device f own e) short
  event_calm (DevClose device) own c short = tt
  event_calm GwAgain own c short = absurd c
  event_calm GwRepeat own c short = c
  event_calm GwClose own c short = c
  event_calm (Cut device) own c short = absurd c
  event_calm (On device) own c short = absurd c
  event_calm (Pass ms) own c short = c.settled.tunnel

-- ---- all events

owned_first : (start : World) → IsFresh start → Owned start
owned_first start f =
    record {
      devices = λ b d e. (let rest = f.devices b d e in record { named = rest.named; frames = subst (λ l. Every (IsFrameOf b) l) (sym rest.nothing_unsent) tt });
      echo = subst (λ o. OwnIf o) (sym f.echo) tt;
    }

pub owned : (start : World) (events : List Event) → IsFresh start → Owned (replay start events)
owned start [] f = owned_first start f
owned start (e ∷ past) f = owned_step (replay start past) e (owned start past f)

are_calm : (start : World) (events : List Event) → IsFresh start → line.AreCalm start events → AreShort start events → calm.AreCalm start.tunnel (tunnel_events start events)
are_calm start [] f c s = tt
are_calm start (e ∷ past) f c s =
    let P : Tunnel → Type 0 = λ t. calm.IsCalm t (tunnel_event (replay start past) e) in
    (subst P (runs start past) (event_calm (replay start past) e (owned start past f) c.0 s.0), are_calm start past f c.1 s.1)

passes_one : (w : World) (e : Event) (r r' : List Entry) → r ≡ r' → PassesSo (channel r') (tunnel_event w e) → ChannelIdles (channel r) e
passes_one w (Pass zero) r r' q h = tt
passes_one w (Pass (suc ms)) r r' q h = subst (λ z. AwaitsNothing (channel z)) (sym q) h
passes_one w e r r' q h = tt

passes : (start : World) (events : List Event) → PassesIdly start.tunnel (tunnel_events start events) → PassesIdlyOnLine start events
passes start [] h = tt
passes start (e ∷ past) h = (passes_one (replay start past) e (record_of start past) (tunnel_record start.tunnel (tunnel_events start past)) (records start past) h.0, passes start past h.1)

module _ (start : World) (events : List Event) (f : IsFresh start) (l : IsLegal Commissions start events) (c : line.AreCalm start events) (s : AreShort start events) (k : Keeps (record_of start events)) where
  it : tunnel.IsLegal Commissions (fresh (me start)) (tunnel_events start events) × calm.AreCalm (fresh (me start)) (tunnel_events start events) × Keeps (tunnel_record (fresh (me start)) (tunnel_events start events))
  it =
      let P : Tunnel → Type 0 = λ t. tunnel.IsLegal Commissions t (tunnel_events start events) × calm.AreCalm t (tunnel_events start events) × Keeps (tunnel_record t (tunnel_events start events)) in
      subst P f.tunnel (legal Commissions start events l, are_calm start events f c s, subst Keeps (records start events) k)

  pub idly_on_line : PassesIdlyOnLine start events
  idly_on_line =
      let P : Tunnel → Type 0 = λ t. PassesIdly t (tunnel_events start events) in
      passes start events (subst P (sym f.tunnel) (idly (me start) (tunnel_events start events) it.0 it.1 it.2))

  pub none_fails_on_line : tries (record_of start events) ≡ []
  none_fails_on_line =
      let P : Tunnel → Type 0 = λ t. tries (tunnel_record t (tunnel_events start events)) ≡ [] in
      subst (λ (r : List Entry). tries r ≡ []) (sym (records start events)) (subst P (sym f.tunnel) (none_fails (me start) (tunnel_events start events) it.0 it.1 it.2))

  pub kept_on_line : KeepsItsChannel (record_of start events)
  kept_on_line =
      let P : Tunnel → Type 0 = λ t. KeepsItsChannel (tunnel_record t (tunnel_events start events)) in
      subst KeepsItsChannel (sym (records start events)) (subst P (sym f.tunnel) (kept (me start) (tunnel_events start events) it.0 it.1 it.2))

  own_all : AreOwn (fresh (me start)) (tunnel_events start events)
  own_all = let P : Tunnel → Type 0 = λ t. AreOwn t (tunnel_events start events) in subst P f.tunnel (all_own start events f l)

  pub come_on_line : ComeForRequests (record_of start events)
  come_on_line =
      let P : Tunnel → Type 0 = λ t. ComeForRequests (tunnel_record t (tunnel_events start events)) in
      subst ComeForRequests (sym (records start events)) (subst P (sym f.tunnel) (come_for_requests (me start) (tunnel_events start events) own_all it.0 it.1 it.2))
