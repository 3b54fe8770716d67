-- The client takes a request of the gateway in its channel: each session takes what is for it.
use Rattle.std.proofs.Common.{◌≡◌, ℕ, ◌⊎◌, List, [], ◌∷◌, Bool, true, false, not, ◌&&◌, ◌||◌, cond, Option, Some, None, refl, sym, ◌∙◌, ap, subst, inl, inr, if◌then◌else◌}
use Rattle.std.specs.Prelude.{◌==◌}
use Rattle.knx_model.specs.declared.connection.ClientTook.TheVariants as heard
use Rattle.knx_model.specs.declared.connection.TransportFrame.{TransportFrame}
use Rattle.knx_model.specs.declared.connection.TransportFrame.TheVariants.{Other}
use Rattle.knx_model.specs.declared.frames.cemi.Ldata.{Ldata}
use Rattle.knx_model.specs.declared.frames.cemi.LdataCode.TheVariants.{Ind}
use Rattle.knx_model.specs.Cemi.{Written as cemi_octets}
use Rattle.knx_model.specs.ClientConnection.{ClientEnd, Asked, Up, Asking, Awaiting, Ended, device_of, client_took, client_after}
use Rattle.knx_model.specs.Connection.{frame_in}
use Rattle.line_model.specs.ActedOnce.{in_channel, IsPrefix, IsChannelOf}
use Rattle.line_model.specs.ChannelLost.{confirmed as is_confirmed, last_frame, is_confirmation, is_confirmation_of}
use Rattle.line_model.specs.ClientView.{View, own_address, is_stray, counts}
use Rattle.line_model.specs.Gateway.{Gateway}
use Rattle.line_model.specs.Reading.{ldata_in, is_con, is_ind}
use Rattle.line_model.specs.Record.{Entry}
use Rattle.line_model.specs.World.{World, me}
use Rattle.session_law.specs.World.{World as SessionWorld, Client, Message, Con as Confirms, Ind as Tells}
use Rattle.session_law.specs.Client.{confirmed, hears, is_from, frame_from, takes_oldest}
use Rattle.session_law.specs.Events.{Takes}
use Rattle.line_law.proofs.Alike.{its_own}
use Rattle.line_law.proofs.Queue.{Items, is_its, is_by, message, messages, cons, back}
use Rattle.line_law.proofs.Coupled.{IsOwn, IsTold, Waits, OnBus, Told, Gone, Flight, Landed, Flies, FlightIs, Last, Never, Since, OpenIs, InFlight, is_open, CoupledBy, Coupled}
use Rattle.line_law.proofs.ReadBack.{IsRead, Read, Unread, own_read}
use Rattle.line_law.proofs.Changes.{own_ind, own_its}
use Rattle.line_law.proofs.GateCloses.{flight_to}
use Rattle.line_law.proofs.Entries.{HeadView}
use Rattle.line_law.proofs.Opened.{not_out}
use Rattle.line_law.proofs.Items.{Oldest}
use Rattle.line_law.proofs.TakesAny.{coming_is, queue, told, taken_by, client_told, TakesSo, TakesGoes, fly_view, in_view, is_here, channel_at, first}

-- ---- a frame of a device

cons_own : (f : Ldata) (k : List Ldata) → IsOwn f → cons (f ∷ k) ≡ cons k
cons_own f k e = rw (own_ind f e) refl

told_own : (a t : ℕ) (c : Client) (f : Ldata) → IsOwn f → (b : Bool) → is_by a f ≡ b → client_told a t c (Some f) ≡ (if b then hears c t (client_took c.end (frame_from (device_of c.end) f)) else c)
told_own a t c f e b k =
    ap (λ z. cond {A = Client} (is_con z) (cond {A = Client} (is_its a f) (confirmed c f.error t) c) (cond {A = Client} (is_ind z && is_by a f) (hears c t (client_took c.end (frame_from (device_of c.end) f))) c)) (own_ind f e)
    ∙ ap (λ z. cond {A = Client} z (hears c t (client_took c.end (frame_from (device_of c.end) f))) c) k

-- a TPDU that is none of a connection brings nothing
pub nothing_took : (end : ClientEnd) → client_took end Other ≡ heard.Dropped
unfolding client_took
nothing_took (Asked device) = refl
nothing_took (Up s) = refl
nothing_took (Asking s q) = refl
nothing_took (Awaiting s) = refl
nothing_took Ended = refl

other_by : (b : Bool) (f : Ldata) → frame_in f.tpdu ≡ Other → ◌≡◌ {A = TransportFrame} (if b then frame_in f.tpdu else Other) Other
other_by true f e = e
other_by false f e = refl

hears_nothing : (c : Client) (t : ℕ) → hears c t heard.Dropped ≡ c
unfolding client_after
hears_nothing c t = refl

unread_same : (c : Client) (t : ℕ) (f : Ldata) → frame_in f.tpdu ≡ Other → hears c t (client_took c.end (frame_from (device_of c.end) f)) ≡ c
unread_same c t f e =
    ap (λ z. hears c t (client_took c.end z)) (other_by (is_from (device_of c.end) f) f e) ∙ ap (hears c t) (nothing_took c.end) ∙ hears_nothing c t

not_confirmation : (o : Option Ldata) (f : Ldata) → IsOwn f → (o ≡ Some f) ⊎ (o ≡ None) → is_confirmation o ≡ false
not_confirmation o f e (inl k) = ap is_confirmation k ∙ ap is_con (own_ind f e)
not_confirmation o f e (inr k) = ap is_confirmation k

module _ (a : ℕ) (w : World) (r : List Entry) (x : Entry) (s : SessionWorld) (c : ℕ) (l : List Entry) (content : List ℕ) (items : Items) (older : List (ℕ × List ℕ)) (base e : ℕ) (v : View) (flight : Flight) (h : HeadView r w.tunnel.present)
    (p : TakesSo r x c l content) (q : CoupledBy a w r s items older (Since base e v flight)) (o : Oldest base items content) (own : IsOwn o.frame) (reaches : is_stray (own_address l) (ldata_in content) ≡ false) where
  read_is : IsRead o.frame → (ldata_in content ≡ Some o.frame) ⊎ ((ldata_in content ≡ None) × (frame_in o.frame.tpdu ≡ Other))
  read_is (Read k) = inl (ap ldata_in (sym o.octets) ∙ k)
  read_is (Unread k i) = inr (ap ldata_in (sym o.octets) ∙ k, i)

  unconfirmed : (ldata_in content ≡ Some o.frame) ⊎ ((ldata_in content ≡ None) × (frame_in o.frame.tpdu ≡ Other)) → is_confirmation (ldata_in content) ≡ false
  unconfirmed (inl k) = not_confirmation (ldata_in content) o.frame own (inl k)
  unconfirmed (inr k) = not_confirmation (ldata_in content) o.frame own (inr k.0)

  read : (ldata_in content ≡ Some o.frame) ⊎ ((ldata_in content ≡ None) × (frame_in o.frame.tpdu ≡ Other))
  read = read_is (own_read o.frame own)

  flies_on : OpenIs (is_confirmed c (x ∷ l)) (last_frame c (x ∷ l)) flight
  flies_on =
      subst (λ y. OpenIs (is_confirmed c (x ∷ l)) y flight) (sym p.last) (subst (λ z. OpenIs z (last_frame c l) flight) (sym (p.stays (unconfirmed read))) (is_here a w r x s c l content items older base e v flight h p q).flies)

  counted : counts (own_address l) (last_frame c l) (ldata_in content) ≡ true
  counted = ap (λ s. not s && (not (is_confirmation (ldata_in content)) || is_confirmation_of (last_frame c l) (ldata_in content))) reaches ∙ ap (λ b. not b || is_confirmation_of (last_frame c l) (ldata_in content)) (unconfirmed read)

  still_flies : FlightIs base w.tunnel.gateway (back o.newer w.tunnel.gateway.waiting) v.puts flight
  still_flies =
      flight_to base w.tunnel.gateway w.tunnel.gateway (back items w.tunnel.gateway.waiting) (back o.newer w.tunnel.gateway.waiting) v.puts flight refl refl
      (sym (ap cons (queue a w r x s c l content items older base e v flight h p q o) ∙ cons_own o.frame (back o.newer w.tunnel.gateway.waiting) own)) (λ z. z) q.pipe.last_is.flight_is

  own_client : (b : Bool) → is_by a o.frame ≡ b → (ldata_in content ≡ Some o.frame) ⊎ ((ldata_in content ≡ None) × (frame_in o.frame.tpdu ≡ Other))
      → ◌≡◌ {A = Client} (if b then hears s.client s.now (client_took s.client.end (frame_from (device_of s.client.end) o.frame)) else s.client) (client_told a s.now s.client (ldata_in content))
  own_client b k (inl i) = sym (ap (client_told a s.now s.client) i ∙ told_own a s.now s.client o.frame own b k)
  own_client true k (inr i) = unread_same s.client s.now o.frame i.1 ∙ sym (ap (client_told a s.now s.client) i.0)
  own_client false k (inr i) = sym (ap (client_told a s.now s.client) i.0)

  not_con : (ldata_in content ≡ Some o.frame) ⊎ ((ldata_in content ≡ None) × (frame_in o.frame.tpdu ≡ Other)) → s.client.pending ≡ true → (f : Ldata) → ldata_in content ≡ Some f → is_con f.code ≡ true → is_its a f ≡ true
  not_con (inl k) y f z b =
      let same : o.frame ≡ f = (let one : Some o.frame ≡ Some f = sym k ∙ z in cc) in
      absurd (let bad : is_con Ind ≡ true = ap is_con (sym (own_ind o.frame own)) ∙ ap (λ (u : Ldata). is_con u.code) same ∙ b in cc)
  not_con (inr k) y f z b = absurd (let one : None ≡ Some f = sym k.0 ∙ z in cc)

  own_taken : (b : Bool) → is_by a o.frame ≡ b → TakesGoes a w (x ∷ r) s (own_address l) (last_frame c l) content
  own_taken false k =
      record {
        more = [];
        legal = tt;
        silent = tt;
        coupled = taken_by a w r x s c l content items older base e v flight h p q o s flight flies_on still_flies refl refl refl refl
            (coming_is a w r x s c l content items older base e v flight h p q o [] (own_its a o.frame own false k)) refl (fly_view a (me w) base e v (record { number = Some c; puts = v.puts; takes = content ∷ v.takes }) flight s.flying q.flying) (λ y z. in_view a base e v (record { number = Some c; puts = v.puts; takes = content ∷ v.takes }) flight (q.pending y z));
        client = own_client false k read;
        counts = counted;
        its = not_con read;
      }
  own_taken true k =
      let rest : List Message = messages a (back o.newer w.tunnel.gateway.waiting) in
      let n : SessionWorld = takes_oldest s (Tells o.frame ∷ rest) in
      let at : s.coming ≡ Tells o.frame ∷ rest = coming_is a w r x s c l content items older base e v flight h p q o (Tells o.frame ∷ []) (own_its a o.frame own true k) in
      record {
        more = Takes ∷ [];
        legal = (tt, tt);
        silent = (tt, tt);
        coupled = subst (λ (z : List Message). Coupled a w (x ∷ r) (takes_oldest s z)) (sym at)
            (taken_by a w r x s c l content items older base e v flight h p q o n flight flies_on still_flies refl refl refl refl refl refl (fly_view a (me w) base e v (record { number = Some c; puts = v.puts; takes = content ∷ v.takes }) flight s.flying q.flying) (λ y z. in_view a base e v (record { number = Some c; puts = v.puts; takes = content ∷ v.takes }) flight (q.pending y z)));
        client = ap (λ (z : List Message). (takes_oldest s z).client) at ∙ own_client true k read;
        counts = counted;
        its = not_con read;
      }

-- ---- a confirmation

record ConTaken (base : ℕ) (g : Gateway) (after : List Ldata) (puts : List (List ℕ)) (flight : Flight) (f : Ldata) : Type 0 where
  pub landed : FlightIs base g after puts Landed
  pub its : (a e : ℕ) (v : View) → InFlight a (Since base e v flight) → is_its a f ≡ true
  pub own : (open_confirmed : Bool) (last : Option Ldata) → OpenIs open_confirmed last flight → is_con f.code ≡ true → is_confirmation_of last (Some f) ≡ true

no_con : (q : List Ldata) (f : Ldata) (k : List Ldata) → cons q ≡ [] → cons q ≡ f ∷ k → ⊥
no_con q f k h g = let z : [] ≡ f ∷ k = sym h ∙ g in cc

con_landed : (base : ℕ) (g : Gateway) (q after : List Ldata) (puts : List (List ℕ)) (flight : Flight) (f : Ldata) → cons q ≡ f ∷ cons after → FlightIs base g q puts flight → ConTaken base g after puts flight f
con_landed base g q after puts Landed f is h = absurd (no_con q f (cons after) h.2 is)
con_landed base g q after puts (Flies k Waits) f is h = absurd (no_con q f (cons after) h.stage_is.2 is)
con_landed base g q after puts (Flies k OnBus) f is h = absurd (no_con q f (cons after) h.stage_is.2 is)
con_landed base g q after puts (Flies k Gone) f is h = absurd (no_con q f (cons after) h.stage_is.2 is)
con_landed base g q after puts (Flies k Told) f is h =
    let con : Ldata = h.stage_is.2 in
    let one : con ∷ [] ≡ f ∷ cons after = sym h.stage_is.3 ∙ is in
    let same : con ≡ f = cc in
    let none : [] ≡ cons after = cc in
    record {
      landed = (h.stage_is.0, h.stage_is.1, sym none);
      its = λ a e v z.
          ap (λ y. not y && (f.destination == a)) (ap (λ (y : Ldata). y.group) (sym same) ∙ h.stage_is.4) ∙ ap (λ y. not k.group && (y == a)) (ap (λ (y : Ldata). y.destination) (sym same) ∙ h.stage_is.5) ∙ z;
      own = λ b last o code.
          its_own last k f o.1 code (ap (λ (y : Ldata). y.group) (sym same) ∙ h.stage_is.4) (ap (λ (y : Ldata). y.destination) (sym same) ∙ h.stage_is.5) (ap (λ (y : Ldata). y.tpdu) (sym same) ∙ h.stage_is.6);
    }

cons_con : (f : Ldata) (k : List Ldata) → is_con f.code ≡ true → cons (f ∷ k) ≡ f ∷ cons k
cons_con f k e = rw e refl

message_con : (a : ℕ) (f : Ldata) → is_con f.code ≡ true → (b : Bool) → is_its a f ≡ b → message a f ≡ (if b then Confirms f.error ∷ [] else [])
message_con a f e true k = rw e (rw k refl)
message_con a f e false k = rw e (rw k refl)

told_con : (a t : ℕ) (c : Client) (f : Ldata) → is_con f.code ≡ true → (b : Bool) → is_its a f ≡ b → client_told a t c (Some f) ≡ (if b then confirmed c f.error t else c)
told_con a t c f e b k =
    ap (λ z. cond {A = Client} z (cond {A = Client} (is_its a f) (confirmed c f.error t) c) (cond {A = Client} (is_ind f.code && is_by a f) (hears c t (client_took c.end (frame_from (device_of c.end) f))) c)) e
    ∙ ap (λ z. cond {A = Client} z (confirmed c f.error t) c) k

or_true : (a b : Bool) → b ≡ true → (a || b) ≡ true
or_true true b h = refl
or_true false b h = h

module _ (a : ℕ) (w : World) (r : List Entry) (x : Entry) (s : SessionWorld) (c : ℕ) (l : List Entry) (content : List ℕ) (items : Items) (older : List (ℕ × List ℕ)) (base e : ℕ) (v : View) (flight : Flight) (h : HeadView r w.tunnel.present)
    (p : TakesSo r x c l content) (q : CoupledBy a w r s items older (Since base e v flight)) (o : Oldest base items content) (con : is_con o.frame.code ≡ true) (reads : ldata_in (cemi_octets o.frame) ≡ Some o.frame) (reaches : is_stray (own_address l) (ldata_in content) ≡ false) where
  landing : ConTaken base w.tunnel.gateway (back o.newer w.tunnel.gateway.waiting) v.puts flight o.frame
  landing =
      con_landed base w.tunnel.gateway (back items w.tunnel.gateway.waiting) (back o.newer w.tunnel.gateway.waiting) v.puts flight o.frame
      (ap cons (queue a w r x s c l content items older base e v flight h p q o) ∙ cons_con o.frame (back o.newer w.tunnel.gateway.waiting) con) q.pipe.last_is.flight_is

  con_client : (b : Bool) → is_its a o.frame ≡ b → ◌≡◌ {A = Client} (if b then confirmed s.client o.frame.error s.now else s.client) (client_told a s.now s.client (ldata_in content))
  con_client b k = sym (ap (client_told a s.now s.client) (ap ldata_in (sym o.octets) ∙ reads) ∙ told_con a s.now s.client o.frame con b k)

  counted_con : counts (own_address l) (last_frame c l) (ldata_in content) ≡ true
  counted_con =
      ap (λ s. not s && (not (is_confirmation (ldata_in content)) || is_confirmation_of (last_frame c l) (ldata_in content))) reaches
      ∙ or_true (not (is_confirmation (ldata_in content))) (is_confirmation_of (last_frame c l) (ldata_in content))
      (ap (is_confirmation_of (last_frame c l)) (ap ldata_in (sym o.octets) ∙ reads) ∙ landing.own (is_confirmed c l) (last_frame c l) (is_here a w r x s c l content items older base e v flight h p q).flies con)

  con_its : s.client.pending ≡ true → (f : Ldata) → ldata_in content ≡ Some f → is_con f.code ≡ true → is_its a f ≡ true
  con_its y f z b =
      let same : o.frame ≡ f = (let one : Some o.frame ≡ Some f = sym (ap ldata_in (sym o.octets) ∙ reads) ∙ z in cc) in
      ap (is_its a) (sym same) ∙ landing.its a e v (q.pending (q.joined ∙ ap is_open p.is_up) y)

  con_taken : (b : Bool) → is_its a o.frame ≡ b → TakesGoes a w (x ∷ r) s (own_address l) (last_frame c l) content
  con_taken false k =
      record {
        more = [];
        legal = tt;
        silent = tt;
        coupled = taken_by a w r x s c l content items older base e v flight h p q o s Landed tt landing.landed refl refl refl refl
            (coming_is a w r x s c l content items older base e v flight h p q o [] (message_con a o.frame con false k)) refl tt (λ y z. (let i : true ≡ false = sym (landing.its a e v (q.pending y z)) ∙ k in cc));
        client = con_client false k;
        counts = counted_con;
        its = con_its;
      }
  con_taken true k =
      let rest : List Message = messages a (back o.newer w.tunnel.gateway.waiting) in
      let n : SessionWorld = takes_oldest s (Confirms o.frame.error ∷ rest) in
      let at : s.coming ≡ Confirms o.frame.error ∷ rest = coming_is a w r x s c l content items older base e v flight h p q o (Confirms o.frame.error ∷ []) (message_con a o.frame con true k) in
      record {
        more = Takes ∷ [];
        legal = (tt, tt);
        silent = (tt, tt);
        coupled = subst (λ (z : List Message). Coupled a w (x ∷ r) (takes_oldest s z)) (sym at)
            (taken_by a w r x s c l content items older base e v flight h p q o n Landed tt landing.landed refl refl refl refl refl refl tt (λ y z. absurd (cc)));
        client = ap (λ (z : List Message). (takes_oldest s z).client) at ∙ con_client true k;
        counts = counted_con;
        its = con_its;
      }

-- ---- either

take_first : (a : ℕ) (w : World) (r : List Entry) (x : Entry) (s : SessionWorld) (c : ℕ) (l : List Entry) (content : List ℕ) (items : Items) (older : List (ℕ × List ℕ)) (base e : ℕ) (v : View) (flight : Flight) (h : HeadView r w.tunnel.present)
    (p : TakesSo r x c l content) (q : CoupledBy a w r s items older (Since base e v flight)) (o : Oldest base items content) → is_stray (own_address l) (ldata_in content) ≡ false → IsTold o.frame → TakesGoes a w (x ∷ r) s (own_address l) (last_frame c l) content
take_first a w r x s c l content items older base e v flight h p q o reaches (inl own) = own_taken a w r x s c l content items older base e v flight h p q o own reaches (is_by a o.frame) refl
take_first a w r x s c l content items older base e v flight h p q o reaches (inr con) = con_taken a w r x s c l content items older base e v flight h p q o con.0 con.1 reaches (is_its a o.frame) refl

take_last : (a : ℕ) (w : World) (r : List Entry) (x : Entry) (s : SessionWorld) (c : ℕ) (l : List Entry) (content : List ℕ) (items : Items) (older : List (ℕ × List ℕ)) (last : Last) (h : HeadView r w.tunnel.present) (p : TakesSo r x c l content)
    → ((k : ℕ) (n : View) → IsChannelOf w.tunnel.gateway (x ∷ r) k n → IsPrefix n.takes (in_channel k w.tunnel.gateway.puts)) → ((k : ℕ) (takes : List (List ℕ)) → IsPrefix (content ∷ takes) (in_channel k w.tunnel.gateway.puts) → is_stray (own_address l) (ldata_in content) ≡ false) → CoupledBy a w r s items older last → TakesGoes a w (x ∷ r) s (own_address l) (last_frame c l) content
take_last a w r x s c l content items older Never h p down reaches q = absurd (not_out r c l p.is_up q.pipe.last_is.out)
take_last a w r x s c l content items older (Since base e v flight) h p down reaches q =
    let here : IsPrefix (content ∷ v.takes) (in_channel base w.tunnel.gateway.puts) = down base (record { number = Some c; puts = v.puts; takes = content ∷ v.takes }) (channel_at a w r x s c l content items older base e v flight h p q) in
    let o : Oldest base items content = first a w r x s c l content items older base e v flight h p q here in
    take_first a w r x s c l content items older base e v flight h p q o (reaches base v.takes here) (told a w r x s c l content items older base e v flight h p q o).0

pub take_kept : (a : ℕ) (w : World) (r : List Entry) (x : Entry) (s : SessionWorld) (c : ℕ) (l : List Entry) (content : List ℕ) (h : HeadView r w.tunnel.present) → TakesSo r x c l content
    → ((k : ℕ) (n : View) → IsChannelOf w.tunnel.gateway (x ∷ r) k n → IsPrefix n.takes (in_channel k w.tunnel.gateway.puts)) → ((k : ℕ) (takes : List (List ℕ)) → IsPrefix (content ∷ takes) (in_channel k w.tunnel.gateway.puts) → is_stray (own_address l) (ldata_in content) ≡ false) → Coupled a w r s → TakesGoes a w (x ∷ r) s (own_address l) (last_frame c l) content
take_kept a w r x s c l content h p down reaches q = take_last a w r x s c l content q.items q.older q.last h p down reaches q.by
