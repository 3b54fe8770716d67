-- A frame is taken by the client: what its session makes of it.
use Rattle.std.proofs.Common.{◌≡◌, ℕ, ◌≤◌, List, [], ◌∷◌, ◌++◌, true, false, ◌&&◌, Option, Some, None, refl, sym, ◌∙◌, ap, subst, inl, arith, append_assoc, if◌then◌else◌}
use Rattle.knx_model.specs.declared.address.IndAddr.{IndAddr}
use Rattle.knx_model.specs.declared.frames.cemi.Ldata.{Ldata}
use Rattle.knx_model.specs.ClientConnection.{device_of, client_took}
use Rattle.line_model.specs.ActedOnce.{Has, in_channel, IsPrefix, IsChannelOf}
use Rattle.line_model.specs.ChannelLost.{confirmed as is_confirmed, last_frame, is_confirmation}
use Rattle.line_model.specs.ClientView.{ClientChannel, Open, Deed, View, view_after, channel, traffic, views}
use Rattle.line_model.specs.ClientView as view
use Rattle.line_model.specs.Gateway.{Gateway, newest_place}
use Rattle.line_model.specs.Reading.{ldata_in, is_con, is_ind}
use Rattle.line_model.specs.Record.{Entry, is_renewal}
use Rattle.line_model.specs.World.{World, me}
use Rattle.session_law.specs.World.{World as SessionWorld, Client, Message}
use Rattle.session_law.specs.Client.{confirmed, hears, frame_from}
use Rattle.session_law.specs.Events.{Event as SessionEvent, replay, IsLegal}
use Rattle.load_law.specs.Download.{AsksNothing}
use Rattle.tunnel_law.proofs.Inside.{Every}
use Rattle.line_law.proofs.Queue.{Items, is_its, is_by, message, messages, puts_of, puts_append, back, back_last}
use Rattle.line_law.proofs.Coupled.{IsTold, Waits, OnBus, Told, Gone, Flight, Landed, Flies, FlightIs, Since, ChannelIs, OpenIs, ConAt, IsLow, IsSorted, Pipe, FlyFor, InFlight, PendFor, is_open, CoupledBy, Coupled}
use Rattle.line_law.proofs.Owned.{every_front}
use Rattle.line_law.proofs.Acting.{in_same}
use Rattle.line_law.proofs.Entries.{HeadView, views_go}
use Rattle.line_law.proofs.Joining.{sorted_front}
use Rattle.line_law.proofs.Opened.{IsHere, here, head_late}
use Rattle.line_law.proofs.Items.{in_append, one_more, Oldest, oldest}

-- ---- what the client of a session makes of a frame that was taken

abbrev pub client_told : ℕ → ℕ → Client → Option Ldata → Client
client_told a t c None = c
client_told a t c (Some f) =
    if is_con f.code then (if is_its a f then confirmed c f.error t else c)
    else (if is_ind f.code && is_by a f then hears c t (client_took c.end (frame_from (device_of c.end) f)) else c)

pub record TakesSo (r : List Entry) (x : Entry) (c : ℕ) (l : List Entry) (content : List ℕ) : Type 0 where
  pub kept : is_renewal x.what ≡ false
  pub is_up : channel r ≡ Open c l
  pub next : channel (x ∷ r) ≡ Open c (x ∷ l)
  pub takes : traffic (channel r) x ≡ view.Takes content
  pub stays : is_confirmation (ldata_in content) ≡ false → is_confirmed c (x ∷ l) ≡ is_confirmed c l
  pub last : last_frame c (x ∷ l) ≡ last_frame c l

pub record TakesGoes (a : ℕ) (w : World) (r : List Entry) (s : SessionWorld) (own : Option IndAddr) (last : Option Ldata) (content : List ℕ) : Type 0 where
  pub more : List SessionEvent
  pub legal : IsLegal s more
  pub silent : AsksNothing more
  pub coupled : Coupled a w r (replay s more)
  pub client : (replay s more).client ≡ client_told a s.now s.client (ldata_in content)
  pub counts : view.counts own last (ldata_in content) ≡ true
  pub its : s.client.pending ≡ true → (f : Ldata) → ldata_in content ≡ Some f → is_con f.code ≡ true → is_its a f ≡ true

-- ---- the rest is on its way then

pub fly_view : (a : ℕ) (address : IndAddr) (base e : ℕ) (v n : View) (flight : Flight) (flying : Option Ldata) → FlyFor a address (Since base e v flight) flying → FlyFor a address (Since base e n flight) flying
fly_view a address base e v n Landed flying h = tt
fly_view a address base e v n (Flies f Waits) flying h = h
fly_view a address base e v n (Flies f OnBus) flying h = h
fly_view a address base e v n (Flies f Told) flying h = tt
fly_view a address base e v n (Flies f Gone) flying h = tt

pub in_view : (a base e : ℕ) (v n : View) (flight : Flight) → InFlight a (Since base e v flight) → InFlight a (Since base e n flight)
in_view a base e v n Landed h = h
in_view a base e v n (Flies f stage) h = h

module _ (a : ℕ) (w : World) (r : List Entry) (x : Entry) (s : SessionWorld) (c : ℕ) (l : List Entry) (content : List ℕ) (items : Items) (older : List (ℕ × List ℕ)) (base e : ℕ) (v : View) (flight : Flight) (h : HeadView r w.tunnel.present)
    (p : TakesSo r x c l content) (q : CoupledBy a w r s items older (Since base e v flight)) where
  abbrev pub taken_view : View
  taken_view = record { number = Some c; puts = v.puts; takes = content ∷ v.takes }

  pub is_here : IsHere base e v flight w.tunnel.present c l r h
  is_here = here base e v flight w.tunnel.gateway w.tunnel.present r items older c l h p.is_up q.pipe.last_is

  pub go : views (x ∷ r) ≡ taken_view ∷ h.rest
  go =
      views_go r w.tunnel.present x h p.kept ∙ ap (λ z. view_after h.view z (traffic (channel r) x) ∷ h.rest) p.next ∙ ap (λ z. view_after h.view (Open c (x ∷ l)) z ∷ h.rest) p.takes
      ∙ ap (λ z. view_after z (Open c (x ∷ l)) (view.Takes content) ∷ h.rest) is_here.view_is

  pub number_is : Some c ≡ v.number
  number_is = ap (λ z. Some z) is_here.number ∙ sym q.pipe.last_is.number

  pub view_at : Has (views (x ∷ r)) e taken_view
  view_at = subst (λ (z : List View). Has z e taken_view) (sym go) (inl (is_here.here ∙ sym h.length_is, refl))

  pub channel_at : IsChannelOf w.tunnel.gateway (x ∷ r) base taken_view
  channel_at = record { endpoint = e; made_by = q.pipe.last_is.made; view = view_at; number = number_is ∙ q.pipe.last_is.number }

  -- what was taken is the oldest
  pub first : IsPrefix (content ∷ v.takes) (in_channel base w.tunnel.gateway.puts) → Oldest base items content
  first down =
      let all : in_channel base (puts_of items) ++ v.takes ≡ down.0 ++ content ∷ v.takes
      = ap (λ z. in_channel base (puts_of items) ++ z) (sym q.pipe.last_is.taken) ∙ sym (in_append base (puts_of items) older) ∙ ap (in_channel base) (sym q.pipe.puts_are) ∙ down.1 in
      oldest base items down.0 content q.pipe.sorted q.pipe.last_is.low (one_more (in_channel base (puts_of items)) v.takes down.0 content all)

  module _ (o : Oldest base items content) where
    pub queue : back items w.tunnel.gateway.waiting ≡ o.frame ∷ back o.newer w.tunnel.gateway.waiting
    queue = ap (λ z. back z w.tunnel.gateway.waiting) o.is ∙ back_last o.newer base o.frame w.tunnel.gateway.waiting

    pub told : Every IsTold (o.frame ∷ back o.newer w.tunnel.gateway.waiting)
    told = subst (Every IsTold) queue q.pipe.frames

    pub taken_pipe : (after : Flight) → OpenIs (is_confirmed c (x ∷ l)) (last_frame c (x ∷ l)) after → FlightIs base w.tunnel.gateway (back o.newer w.tunnel.gateway.waiting) v.puts after
        → Pipe w.tunnel.gateway w.tunnel.present (x ∷ r) o.newer ((base, content) ∷ older) (Since base e taken_view after)
    taken_pipe after flies flight_is =
        let g : Gateway = w.tunnel.gateway in
        let j = q.pipe.last_is in
        let old : views r ≡ v ∷ h.rest = h.is ∙ ap (λ z. z ∷ h.rest) is_here.view_is in
        let parts : puts_of items ≡ puts_of o.newer ++ (base, content) ∷ [] = ap puts_of o.is ∙ puts_append o.newer ((base, o.frame) ∷ []) ∙ ap (λ z. puts_of o.newer ++ (base, z) ∷ []) o.octets in
        record {
          puts_are = q.pipe.puts_are ∙ ap (λ z. z ++ older) parts ∙ append_assoc (puts_of o.newer) ((base, content) ∷ []) older;
          sorted = sorted_front o.newer ((base, o.frame) ∷ []) (subst IsSorted o.is q.pipe.sorted);
          newest = every_front (λ (y : ℕ × Ldata). y.0 ≤ newest_place g.makers) o.newer ((base, o.frame) ∷ []) (subst (Every (λ (y : ℕ × Ldata). y.0 ≤ newest_place g.makers)) o.is q.pipe.newest);
          frames = told.1;
          last_is = record {
            made = j.made;
            view = view_at;
            number = number_is ∙ j.number;
            late = head_late g r (x ∷ r) w.tunnel.present base v taken_view h.rest old go number_is j.late;
            low = every_front (IsLow base) o.newer ((base, o.frame) ∷ []) (subst (Every (IsLow base)) o.is j.low);
            taken = in_same base content older ∙ ap (λ z. content ∷ z) j.taken;
            olds = (same_place base, j.olds);
            channel_is = subst (ChannelIs base e w.tunnel.present g.makers after) (sym p.next) (is_here.here, is_here.number, flies);
            con_items = every_front (ConAt base) o.newer ((base, o.frame) ∷ []) (subst (Every (ConAt base)) o.is j.con_items);
            serving = j.serving;
            flight_is = flight_is;
          };
        }
      where
        same_place : (n : ℕ) → n ≤ n
        same_place n = omega arith

    pub coming_is : (m : List Message) → message a o.frame ≡ m → s.coming ≡ m ++ messages a (back o.newer w.tunnel.gateway.waiting)
    coming_is m k = q.coming ∙ ap (messages a) queue ∙ ap (λ z. z ++ messages a (back o.newer w.tunnel.gateway.waiting)) k

    -- a session after it
    pub taken_by : (n : SessionWorld) (after : Flight) → OpenIs (is_confirmed c (x ∷ l)) (last_frame c (x ∷ l)) after → FlightIs base w.tunnel.gateway (back o.newer w.tunnel.gateway.waiting) v.puts after → n.device ≡ s.device → n.me ≡ s.me → n.now ≡ s.now → n.echo ≡ s.echo
        → n.coming ≡ messages a (back o.newer w.tunnel.gateway.waiting) → n.client.joined ≡ s.client.joined → FlyFor a (me w) (Since base e taken_view after) n.flying → PendFor a (Since base e taken_view after) n.client → Coupled a w (x ∷ r) n
    taken_by n after flies flight_is d m t k coming joined flying pending =
        record {
          items = o.newer;
          older = (base, content) ∷ older;
          last = Since base e taken_view after;
          by = record {
            side = record { device = q.side.device ∙ ap (λ z. Some z) (sym d); same_me = m ∙ q.side.same_me; same_now = t ∙ q.side.same_now; echo = k ∙ q.side.echo };
            pipe = taken_pipe after flies flight_is;
            coming = coming;
            flying = flying;
            pending = pending;
            joined = joined ∙ q.joined ∙ ap is_open p.is_up ∙ sym (ap is_open p.next);
          };
        }
