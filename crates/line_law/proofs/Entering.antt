-- An entry of the record by which no request is put and none taken.
use Rattle.std.proofs.Common.{◌≡◌, ℕ, suc, List, [], ◌∷◌, length, Bool, true, false, ◌&&◌, cond, Option, Some, None, refl, sym, ◌∙◌, ap, subst, inl, arith, if◌then◌else◌}
use Rattle.knx_model.specs.declared.address.IndAddr.{IndAddr}
use Rattle.knx_model.specs.declared.frames.cemi.Ldata.{Ldata}
use Rattle.knx_model.specs.Plans.{Plan}
use Rattle.line_model.specs.ActedOnce.{Has}
use Rattle.line_model.specs.ChannelLost.{confirmed, confirms, expected, delivers, is_new_request, last_frame, frame_in_request, is_lost, is_confirmation, is_confirmation_of}
use Rattle.line_model.specs.ChannelLost as ChannelLost
use Rattle.line_model.specs.ClientView.{ClientChannel, Fresh, Sought, RefusedBy, Unanswered, Open, Lost, Deed, View, or_number, view_after, channel, traffic, deed, views, after_entry, goes_on}
use Rattle.line_model.specs.ClientView as view
use Rattle.line_model.specs.Gateway.{number_of}
use Rattle.line_model.specs.Reading.{ldata_in, RequestFrame, request_in}
use Rattle.line_model.specs.Record.{Entry, put_in, got_in, is_renewal}
use Rattle.line_model.specs.Tunnel.{Tunnel}
use Rattle.line_model.specs.World.{World}
use Rattle.session_law.specs.World.{World as SessionWorld}
use Rattle.session_law.specs.Device.{carries, carries_lost, gets_again}
use Rattle.session_law.specs.Events.{Event as SessionEvent, step, replay}
use Rattle.session_law.specs.Events as event
use Rattle.load_law.specs.Download.{MayAsk, Follows, IsSilent, AsksNothing}
use Rattle.tunnel_law.proofs.Both.{unique}
use Rattle.tunnel_law.proofs.Fits.{Book, books, BookIs, IsUp, JoinedFits, Member, Phase}
use Rattle.tunnel_law.proofs.Law.{HeadIs, head_state}
use Rattle.tunnel_law.proofs.Took.{InvT}
use Rattle.line_law.proofs.Alike.{none_of}
use Rattle.line_law.proofs.Queue.{Items}
use Rattle.line_law.proofs.Coupled.{Last, Never, Since, IsOut, is_open, CoupledBy, IsBus, AreBus}
use Rattle.line_law.proofs.Entries.{HeadView, views_go, Moves}
use Rattle.line_law.proofs.Opened.{IsHere, here, not_out}

-- ---- the events of the bus leave a session's client

pub bus_client : (s : SessionWorld) (e : SessionEvent) → IsBus e → (step s e).client ≡ s.client
bus_client s event.Connects h = absurd h
bus_client s (event.Asks apdu) h = absurd h
bus_client s event.Waits h = absurd h
bus_client s event.Replies h = absurd h
bus_client s event.Leaves h = absurd h
bus_client s event.Takes h = absurd h
bus_client s event.Loses h = absurd h
bus_client s (event.Joins n) h = absurd h
bus_client s (event.Drops n) h = refl
bus_client s (event.Bus outcome) h = by_frame s.flying where
  by_frame : (o : Option Ldata) → (carries s o outcome).client ≡ s.client
  by_frame None = refl
  by_frame (Some f) = refl
bus_client s event.BusLost h = by_frame s.flying where
  by_frame : (o : Option Ldata) → (carries_lost s o).client ≡ s.client
  by_frame None = refl
  by_frame (Some f) = refl
bus_client s event.BusAgain h = by_frame s.device.last where
  by_frame : (o : Option Ldata) → (gets_again s o).client ≡ s.client
  by_frame None = refl
  by_frame (Some f) = refl
bus_client s (event.Group frame) h = refl
bus_client s event.Elsewhere h = refl
bus_client s (event.DevSend gateway) h = refl
bus_client s (event.DevRepeat gateway) h = refl
bus_client s event.DevClose h = refl
bus_client s event.GwAgain h = refl
bus_client s event.Cut h = refl
bus_client s event.On h = refl
bus_client s (event.Pass ms) h = refl

pub buses_client : (s : SessionWorld) (more : List SessionEvent) → AreBus more → (replay s more).client ≡ s.client
buses_client s [] h = refl
buses_client s (e ∷ more) h = bus_client (replay s more) e h.0 ∙ buses_client s more h.1

bus_asks : (IsJob : Plan → Type 0) (s : SessionWorld) (e : SessionEvent) → IsBus e → MayAsk IsJob s e
bus_asks IsJob s event.Connects h = absurd h
bus_asks IsJob s (event.Asks apdu) h = absurd h
bus_asks IsJob s event.Waits h = absurd h
bus_asks IsJob s event.Replies h = absurd h
bus_asks IsJob s event.Leaves h = absurd h
bus_asks IsJob s event.Takes h = absurd h
bus_asks IsJob s event.Loses h = absurd h
bus_asks IsJob s (event.Joins n) h = absurd h
bus_asks IsJob s (event.Drops n) h = tt
bus_asks IsJob s (event.Bus outcome) h = tt
bus_asks IsJob s event.BusLost h = tt
bus_asks IsJob s event.BusAgain h = tt
bus_asks IsJob s (event.Group frame) h = tt
bus_asks IsJob s event.Elsewhere h = tt
bus_asks IsJob s (event.DevSend gateway) h = tt
bus_asks IsJob s (event.DevRepeat gateway) h = tt
bus_asks IsJob s event.DevClose h = tt
bus_asks IsJob s event.GwAgain h = tt
bus_asks IsJob s event.Cut h = tt
bus_asks IsJob s event.On h = tt
bus_asks IsJob s (event.Pass ms) h = tt

pub buses_follow : (IsJob : Plan → Type 0) (s : SessionWorld) (more : List SessionEvent) → AreBus more → Follows IsJob s more
buses_follow IsJob s [] h = tt
buses_follow IsJob s (e ∷ more) h = (bus_asks IsJob (replay s more) e h.0, buses_follow IsJob s more h.1)

bus_silent : (e : SessionEvent) → IsBus e → IsSilent e
bus_silent event.Connects h = tt
bus_silent (event.Asks apdu) h = absurd h
bus_silent event.Waits h = tt
bus_silent event.Replies h = tt
bus_silent event.Leaves h = tt
bus_silent event.Takes h = tt
bus_silent event.Loses h = tt
bus_silent (event.Joins n) h = tt
bus_silent (event.Drops n) h = tt
bus_silent (event.Bus o) h = tt
bus_silent event.BusLost h = tt
bus_silent event.BusAgain h = tt
bus_silent (event.Group f) h = tt
bus_silent event.Elsewhere h = tt
bus_silent (event.DevSend g) h = tt
bus_silent (event.DevRepeat g) h = tt
bus_silent event.DevClose h = tt
bus_silent event.GwAgain h = tt
bus_silent event.Cut h = tt
bus_silent event.On h = tt
bus_silent (event.Pass ms) h = tt

pub buses_silent : (more : List SessionEvent) → AreBus more → AsksNothing more
buses_silent [] h = tt
buses_silent (e ∷ more) h = (bus_silent e h.0, buses_silent more h.1)

-- ---- the view stays

abbrev pub Brings : Deed → Type 0
Brings (view.Puts content) = Unit {0}
Brings (view.Takes content) = Unit {0}
Brings view.Loses = ⊥
Brings view.Nothing = ⊥

pub number_stays : (c : ClientChannel) (number : Option ℕ) → is_open c ≡ false → or_number c number ≡ number
number_stays Fresh number h = refl
number_stays (Sought since) number h = refl
number_stays (RefusedBy status) number h = refl
number_stays Unanswered number h = refl
number_stays (Open c l) number h = absurd (cc)
number_stays (Lost c) number h = refl

view_stays : (v : View) (c : ClientChannel) (what : Deed) → or_number c v.number ≡ v.number → (Brings what → ⊥) → view_after v c what ≡ v
view_stays v c (view.Puts content) e h = absurd (h tt)
view_stays v c (view.Takes content) e h = absurd (h tt)
view_stays v c view.Loses e h = ap (λ z. (let x : View = record { number = z; puts = v.puts; takes = v.takes } in x)) e
view_stays v c view.Nothing e h = ap (λ z. (let x : View = record { number = z; puts = v.puts; takes = v.takes } in x)) e

pub views_stay : (r : List Entry) (present : ℕ) (x : Entry) (h : HeadView r present) → is_renewal x.what ≡ false → or_number (channel (x ∷ r)) h.view.number ≡ h.view.number → (Brings (traffic (channel r) x) → ⊥) → views (x ∷ r) ≡ views r
views_stay r present x h n number none = views_go r present x h n ∙ ap (λ z. z ∷ h.rest) (view_stays h.view (channel (x ∷ r)) (traffic (channel r) x) number none) ∙ sym h.is

-- the number of the open channel
pub number_by : (a : ℕ) (w : World) (r : List Entry) (s : SessionWorld) (c : ℕ) (l : List Entry) (items : Items) (older : List (ℕ × List ℕ)) (last : Last) (h : HeadView r w.tunnel.present) → channel r ≡ Open c l → CoupledBy a w r s items older last → h.view.number ≡ Some c
number_by a w r s c l items older Never h is q = absurd (not_out r c l is q.pipe.last_is.out)
number_by a w r s c l items older (Since base e v flight) h is q =
    let i : IsHere base e v flight w.tunnel.present c l r h = here base e v flight w.tunnel.gateway w.tunnel.present r items older c l h is q.pipe.last_is in
    ap (λ (z : View). z.number) i.view_is ∙ q.pipe.last_is.number ∙ ap (λ z. Some z) (sym i.number)

-- ---- the place of the channel that is open

pub record UpPlace (k : List Entry) (t : Tunnel) (c : ℕ) : Type 0 where
  pub place : ℕ
  pub made : Has t.gateway.makers place t.present
  pub number : c ≡ number_of place
  pub one : (n : ℕ) → Has t.gateway.makers n t.present → number_of n ≡ number_of place → n ≡ place

up_by : (bs : List Book) (t : Tunnel) (ch : ClientChannel) (k : List Entry) (c : ℕ) (l : List Entry) → HeadIs bs ch → ch ≡ Open c l → InvT bs t → UpPlace k t c
up_by [] t ch k c l head is i = absurd head
up_by (b ∷ rest) t ch k c l head is i =
    let old : BookIs t.network.up t.gateway.makers t.gateway.acted (length rest) b = i.each (length rest) b (inl (refl, refl)) in
    let state : b.state ≡ Open c l = head ∙ is in
    let up : IsUp t.gateway.acted old.joined b.view.puts c _ _ _ = subst (λ z. Phase t.gateway.acted old.joined old.asked b.view.puts z) state old.phase in
    let m : Member t.gateway.makers t.gateway.acted (length rest) up.place b.view.puts = subst (λ z. JoinedFits t.gateway.makers t.gateway.acted (length rest) z b.view.puts) up.joined_is old.fits.member in
    let at : length rest ≡ t.present = (let e : suc (length rest) ≡ suc t.present = i.endpoints in omega arith) in
    record {
      place = up.place;
      made = subst (λ z. Has t.gateway.makers up.place z) at m.maker;
      number = up.numbered;
      one = λ n h same. unique t.network.up t.gateway.makers t.gateway.acted (length rest) b old n up.place (subst (λ z. Has t.gateway.makers n z) (sym at) h) m.maker same;
    }

pub up_place : (k : List Entry) (t : Tunnel) (c : ℕ) (l : List Entry) → channel k ≡ Open c l → InvT (books k) t → UpPlace k t c
up_place k t c l is i = up_by (books k) t (channel k) k c l (head_state k) is i

-- ---- how the channel may go on

-- nothing comes, and the channel is as it was
pub record Still (r : List Entry) (x : Entry) : Type 0 where
  pub moves : Moves (channel r) (channel (x ∷ r))
  pub none : traffic (channel r) x ≡ view.Nothing

pub data Turn (r : List Entry) (x : Entry) : Type 0 where
  IsStill : Still r x → Turn r x
  IsLost : (c : ℕ) (l : List Entry) → channel r ≡ Open c l → channel (x ∷ r) ≡ Lost c → traffic (channel r) x ≡ view.Loses → Turn r x
  Joins : (c : ℕ) → IsOut (channel r) → is_open (channel r) ≡ false → channel (x ∷ r) ≡ Open c (x ∷ []) → traffic (channel r) x ≡ view.Nothing → Turn r x
  Puts : (c : ℕ) (l : List Entry) (content : List ℕ) → channel r ≡ Open c l → channel (x ∷ r) ≡ Open c (x ∷ l) → traffic (channel r) x ≡ view.Puts content → is_new_request c l x ≡ true → last_frame c (x ∷ l) ≡ ldata_in content → Turn r x
  Takes : (c : ℕ) (l : List Entry) (content : List ℕ) → channel r ≡ Open c l → channel (x ∷ r) ≡ Open c (x ∷ l) → traffic (channel r) x ≡ view.Takes content → (is_confirmation (ldata_in content) ≡ false → confirmed c (x ∷ l) ≡ confirmed c l) → last_frame c (x ∷ l) ≡ last_frame c l → Turn r x

-- without a renewal
pub not_renewed : (c : ClientChannel) (x : Entry) → is_renewal x.what ≡ false → after_entry c x ≡ goes_on c x
unfolding after_entry
not_renewed c x h = rw h refl

-- of an open channel
pub deed_open : (c : ℕ) (l : List Entry) (x : Entry) → is_lost c l x ≡ false → traffic (Open c l) x ≡ view.deed_in c l x
unfolding traffic
deed_open c l x h = rw h refl

pub deed_lost : (c : ℕ) (l : List Entry) (x : Entry) → is_lost c l x ≡ true → traffic (Open c l) x ≡ view.Loses
unfolding traffic
deed_lost c l x h = rw h refl

-- what counts of it
abbrev pub own_of : ClientChannel → Option IndAddr
own_of (Open c l) = view.own_address l
own_of _ = None

abbrev pub last_of : ClientChannel → Option Ldata
last_of (Open c l) = last_frame c l
last_of _ = None

counted_by : (own : Option IndAddr) (last : Option Ldata) (what : Deed) (b : Bool) → ◌≡◌ {A = Deed} (if b then view.Loses else view.as_counted own last what) (view.as_counted own last (if b then view.Loses else what))
counted_by own last what true = refl
counted_by own last what false = refl

pub counted_is : (c : ClientChannel) (x : Entry) → deed c x ≡ view.as_counted (own_of c) (last_of c) (traffic c x)
unfolding traffic deed
counted_is Fresh x = refl
counted_is (Sought since) x = refl
counted_is (RefusedBy status) x = refl
counted_is Unanswered x = refl
counted_is (Open c l) x = counted_by (view.own_address l) (last_frame c l) (view.deed_in c l x) (is_lost c l x)
counted_is (Lost c) x = refl

-- what is put and what is taken
pub data Brought (c : ℕ) (l : List Entry) (x : Entry) : Type 0 where
  Neither : view.deed_in c l x ≡ view.Nothing → confirmed c (x ∷ l) ≡ confirmed c l → last_frame c (x ∷ l) ≡ last_frame c l → Brought c l x
  Put : (content : List ℕ) → view.deed_in c l x ≡ view.Puts content → is_new_request c l x ≡ true → last_frame c (x ∷ l) ≡ ldata_in content → Brought c l x
  Take : (content : List ℕ) → view.deed_in c l x ≡ view.Takes content → (is_confirmation (ldata_in content) ≡ false → confirmed c (x ∷ l) ≡ confirmed c l) → last_frame c (x ∷ l) ≡ last_frame c l → Brought c l x

confirmed_by : (b d e : Bool) → b ≡ false → d ≡ false → ◌≡◌ {A = Bool} (if b then false else (if d then true else e)) e
confirmed_by b d e p q = rw p (rw q refl)

last_by : (b : Bool) (o e : Option Ldata) → b ≡ false → ◌≡◌ {A = Option Ldata} (if b then o else e) e
last_by b o e p = rw p refl

last_put : (b : Bool) (o e : Option Ldata) → b ≡ true → ◌≡◌ {A = Option Ldata} (if b then o else e) o
last_put b o e p = rw p refl

no_request : (c : ℕ) (l : List Entry) (x : Entry) → request_in (put_in x.what) ≡ None → is_new_request c l x ≡ false
no_request c l x h = ap (λ z. ChannelLost.is_request c z && ChannelLost.is_none (ChannelLost.own c l).sent) h

brought_got : (c : ℕ) (l : List Entry) (x : Entry) (new : Bool) (put got : Option RequestFrame) → is_new_request c l x ≡ false → (view.deed_of view.Puts new put ≡ view.Nothing) → request_in (got_in x.what) ≡ got → view.deed_in c l x ≡ view.or_takes (view.deed_of view.Puts new put) (view.deed_of view.Takes (delivers c (expected c l) got) got) → Brought c l x
brought_got c l x new put None fresh none g e =
    Neither (e ∙ ap (λ z. view.or_takes z view.Nothing) none) (confirmed_by (is_new_request c l x) (confirms c (expected c l) (last_frame c l) (request_in (got_in x.what))) (confirmed c l) fresh (ap (confirms c (expected c l) (last_frame c l)) g))
    (last_by (is_new_request c l x) (frame_in_request (request_in (put_in x.what))) (last_frame c l) fresh)
brought_got c l x new put (Some q) fresh none g e = by_delivers (delivers c (expected c l) (Some q)) refl where
  by_delivers : (b : Bool) → delivers c (expected c l) (Some q) ≡ b → Brought c l x
  by_delivers true k =
      Take q.cemi (e ∙ ap (λ z. view.or_takes z (view.deed_of view.Takes (delivers c (expected c l) (Some q)) (Some q))) none ∙ ap (λ b. cond {A = Deed} b (view.Takes q.cemi) view.Nothing) k)
      (λ n. confirmed_by (is_new_request c l x) (confirms c (expected c l) (last_frame c l) (request_in (got_in x.what))) (confirmed c l) fresh
      (ap (confirms c (expected c l) (last_frame c l)) g ∙ ap (λ b. b && is_confirmation_of (last_frame c l) (ldata_in q.cemi)) k ∙ none_of (last_frame c l) (ldata_in q.cemi) n))
      (last_by (is_new_request c l x) (frame_in_request (request_in (put_in x.what))) (last_frame c l) fresh)
  by_delivers false k =
      Neither (e ∙ ap (λ z. view.or_takes z (view.deed_of view.Takes (delivers c (expected c l) (Some q)) (Some q))) none ∙ ap (λ b. cond {A = Deed} b (view.Takes q.cemi) view.Nothing) k)
      (confirmed_by (is_new_request c l x) (confirms c (expected c l) (last_frame c l) (request_in (got_in x.what))) (confirmed c l) fresh
      (ap (confirms c (expected c l) (last_frame c l)) g ∙ ap (λ b. b && is_confirmation_of (last_frame c l) (ldata_in q.cemi)) k))
      (last_by (is_new_request c l x) (frame_in_request (request_in (put_in x.what))) (last_frame c l) fresh)

brought_by : (c : ℕ) (l : List Entry) (x : Entry) (new : Bool) (put : Option RequestFrame) → is_new_request c l x ≡ new → request_in (put_in x.what) ≡ put → Brought c l x
brought_by c l x new None n p =
    brought_got c l x (is_new_request c l x) None (request_in (got_in x.what)) (no_request c l x p) refl refl (ap (λ z. view.or_takes (view.deed_of view.Puts (is_new_request c l x) z) (view.deed_of view.Takes (delivers c (expected c l) (request_in (got_in x.what))) (request_in (got_in x.what)))) p)
brought_by c l x true (Some q) n p =
    Put q.cemi
    (ap (λ z. view.or_takes (view.deed_of view.Puts (is_new_request c l x) z) (view.deed_of view.Takes (delivers c (expected c l) (request_in (got_in x.what))) (request_in (got_in x.what)))) p
    ∙ ap (λ b. view.or_takes (cond {A = Deed} b (view.Puts q.cemi) view.Nothing) (view.deed_of view.Takes (delivers c (expected c l) (request_in (got_in x.what))) (request_in (got_in x.what)))) n) n
    (last_put (is_new_request c l x) (frame_in_request (request_in (put_in x.what))) (last_frame c l) n ∙ ap frame_in_request p)
brought_by c l x false (Some q) n p =
    brought_got c l x (is_new_request c l x) (Some q) (request_in (got_in x.what)) n (ap (λ b. cond {A = Deed} b (view.Puts q.cemi) view.Nothing) n) refl
    (ap (λ z. view.or_takes (view.deed_of view.Puts (is_new_request c l x) z) (view.deed_of view.Takes (delivers c (expected c l) (request_in (got_in x.what))) (request_in (got_in x.what)))) p)

pub brought : (c : ℕ) (l : List Entry) (x : Entry) → Brought c l x
brought c l x = brought_by c l x (is_new_request c l x) (request_in (put_in x.what)) refl refl
