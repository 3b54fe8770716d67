-- What a run of the line brings to the client is the tunnel's own: the open channel's address is the tunnel's, and each indication to one device that the
-- gateway put has it as its destination.
use Rattle.std.proofs.Common.{◌≡◌, ℕ, List, [], ◌∷◌, false, not, Option, Some, None, refl, sym, ◌∙◌, ap, subst, inl, inr}
use Rattle.knx_model.specs.declared.address.IndAddr.{IndAddr}
use Rattle.knx_model.specs.declared.frames.cemi.Ldata.{Ldata}
use Rattle.line_model.specs.ClientView.{is_stray, channel}
use Rattle.line_model.specs.Fresh.{IsFresh, IsAtRest}
use Rattle.line_model.specs.Legal.{IsLegal, MayHappen}
use Rattle.line_model.specs.Record.{Entry, item_at, noted, record_of}
use Rattle.line_model.specs.Tunnel.{Commissions}
use Rattle.line_model.specs.World.{World, Event, AtGateway, Comes as Heard, IsLost, Send, From, Renew, Up, UpRefused, Down, LoseUp, LoseDown, Bus, BusTorn, BusWorn, BusAgain, DevSend, DevRepeat, DevClose, GwAgain, GwRepeat, GwClose, Cut, On, Pass, me, now, next_frame, waiting_at, repeat_at, is_confirmed, carried, heard, tunnel_event, step, replay}
use Rattle.line_model.proofs.Strays.{group_stray, own_stray}
use Rattle.tunnel_law.proofs.Inside.{Every}
use Rattle.line_law.proofs.Coupled.{IsOwn, IsFrameOf, OwnIf, Owned}
use Rattle.line_law.proofs.Owned.{waiting_owned, repeat_owned, owned_step}
use Rattle.line_law.proofs.ReadBack.{IsRead, Read, Unread, own_read}
use Rattle.line_law.proofs.Homeward.{IsHome, HomeIf, Homeward, waiting_home, repeat_home, homeward_step, homeward_first}
use Rattle.line_law.proofs.OwnAddress.{ReachesAs, Comes, IsItsTunnel, KnowsOwn, con_reaches, its_step, its_first, item_own, knows_noted}

-- ---- the frames of devices are their own

begin_owned : (start : World) → IsFresh start → Owned start
begin_owned start f =
    record {
      devices = λ b d e. (let rest : IsAtRest b d = f.devices b d e in record { named = rest.named; frames = subst (Every (IsFrameOf b)) (sym rest.nothing_unsent) tt });
      echo = subst OwnIf (sym f.echo) tt;
    }

pub owned_always : (start : World) (events : List Event) → IsFresh start → Owned (replay start events)
owned_always start [] f = begin_owned start f
owned_always start (e ∷ events) f = owned_step (replay start events) e (owned_always start events f)

module _ (own : IndAddr) where
  home_stray : (f : Ldata) → IsHome own f → is_stray (Some own) (Some f) ≡ false
  home_stray f (inl group) = group_stray (Some own) f group
  home_stray f (inr to) = own_stray own f to

  pub home_reaches : (f : Ldata) → IsOwn f → IsHome own f → ReachesAs own f
  home_reaches f o h = by_reading (own_read f o) where
    by_reading : IsRead f → ReachesAs own f
    by_reading (Read k) = ap (is_stray (Some own)) k ∙ home_stray f h
    by_reading (Unread k i) = ap (is_stray (Some own)) k

  -- ---- what comes of the bus

  carried_comes : (w : World) (left_out : List ℕ) (o : Option Ldata) → Comes own (carried w left_out o)
  carried_comes w left_out None = tt
  carried_comes w left_out (Some f) = con_reaches own f (not (is_confirmed w left_out f))

  heard_comes : (gateway : AtGateway) (o : Option Ldata) → ((f : Ldata) → o ≡ Some f → ReachesAs own f) → Comes own (heard gateway o)
  heard_comes Heard None h = tt
  heard_comes Heard (Some f) h = (h f refl, tt)
  heard_comes IsLost o h = tt

  echo_reaches : (o : Option Ldata) → OwnIf o → HomeIf own o → (f : Ldata) → o ≡ Some f → ReachesAs own f
  echo_reaches None a h f e = absurd (cc)
  echo_reaches (Some g) a h f e = let same : g ≡ f = cc in subst (ReachesAs own) same (home_reaches g a h)

  comes : (w : World) (e : Event) → Owned w → Homeward own w → Comes own (tunnel_event w e)
  comes w (Send octets) o h = tt
  comes w (From endpoint octets) o h = tt
  comes w Renew o h = tt
  comes w (Up age) o h = tt
  comes w (UpRefused age status) o h = tt
  comes w (Down age) o h = tt
  comes w (LoseUp age) o h = tt
  comes w (LoseDown age) o h = tt
  comes w (Bus left_out) o h = carried_comes w left_out (next_frame w)
  comes w (BusTorn fresh octets) o h = carried_comes w [] (next_frame w)
  comes w (BusWorn octets) o h = carried_comes w [] (next_frame w)
  comes w (BusAgain device) o h = tt
  comes w (DevSend device gateway left_out) o h = heard_comes gateway (waiting_at w device) (λ f e. home_reaches f (waiting_owned w device f o e).1 (waiting_home own w device f h e))
  comes w (DevRepeat device gateway) o h = heard_comes gateway (repeat_at w device) (λ f e. home_reaches f (repeat_owned w device f o e).1 (repeat_home own w device f h e))
  comes w (DevClose device) o h = tt
  comes w GwAgain o h = heard_comes Heard w.echo (echo_reaches w.echo o.echo h.echo)
  comes w GwRepeat o h = tt
  comes w GwClose o h = tt
  comes w (Cut device) o h = tt
  comes w (On device) o h = tt
  comes w (Pass ms) o h = tt

  -- ---- each event

  pub record Arrives (w : World) (r : List Entry) : Type 0 where
    pub tunnel : IsItsTunnel own w.tunnel
    pub devices : Homeward own w
    pub knows : KnowsOwn own (channel r)

  arrives_step : (w : World) (e : Event) (r : List Entry) → MayHappen Commissions w e → Owned w → Arrives w r → Arrives (step w e) (noted (item_at w e) (now (step w e)) r)
  arrives_step w e r may o a =
      record {
        tunnel = its_step own w.tunnel (tunnel_event w e) may.tunnel (comes w e o a.devices) a.tunnel;
        devices = homeward_step own w e a.tunnel.gateway.address a.devices;
        knows = knows_noted own (item_at w e) (now (step w e)) r (item_own own w.tunnel (tunnel_event w e) a.tunnel) a.knows;
      }

-- ---- all of them

pub arrives : (start : World) (events : List Event) → IsFresh start → IsLegal Commissions start events → Arrives (me start) (replay start events) (record_of start events)
arrives start [] f l = record { tunnel = subst (IsItsTunnel (me start)) (sym f.tunnel) (its_first (me start)); devices = homeward_first (me start) start f; knows = tt }
arrives start (e ∷ events) f l = arrives_step (me start) (replay start events) e (record_of start events) l.0 (owned_always start events f) (arrives start events f l.1)
