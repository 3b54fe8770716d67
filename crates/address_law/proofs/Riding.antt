-- What rides on the tunnel goes on as the rounds do, event by event, where nothing disturbs it.
use Rattle.std.proofs.Common.{◌≡◌, ◌≢◌, ℕ, ◌+◌, ◌<◌, ◌≤◌, ◌⊎◌, inl, inr, List, [], ◌∷◌, ◌++◌, length, Bool, true, false, not, cond, Option, Some, None, refl, sym, ◌∙◌, ap, subst, arith}
use Rattle.std.specs.Prelude.{slice_get, take, ◌||◌}
use Rattle.knx_model.specs.declared.address.IndAddr.{IndAddr}
use Rattle.knx_model.specs.declared.frames.cemi.Ldata.{Ldata}
use Rattle.knx_model.specs.declared.frames.cemi.LdataCode.TheVariants.{Con}
use Rattle.knx_model.specs.Cemi.{Written as cemi_octets}
use Rattle.knx_model.specs.ApduReading.{option_map}
use Rattle.knx_model.specs.DeviceSending.{first_frame}
use Rattle.line_law.proofs.ReadBack.{written_in}
use Rattle.line_model.specs.Asks.{HasPlace}
use Rattle.line_model.specs.Reading.{RequestFrame, request_in}
use Rattle.line_model.specs.ChannelLost.{is_lost, is_new_request, last_frame}
use Rattle.line_model.specs.LinkStory.{newest_time}
use Rattle.line_model.specs.Network.{Sent}
use Rattle.line_model.specs.Record.{Item, Put, Renewed, Got, Quiet, Entry, entry, noted, got, item_of, put_in, is_got, is_renewal}
use Rattle.line_model.specs.ClientView.{ClientChannel, Fresh, Sought, RefusedBy, Unanswered, Open, Lost, Deed, Puts, Takes, Loses, Nothing, deed_of, or_takes, own_address, as_counted, channel, deed}
use Rattle.line_model.specs.Tunnel as tunnel
use Rattle.line_model.specs.Tunnel.{Tunnel}
use Rattle.line_model.specs.World.{AtGateway, Comes, heard, on_bus}
use Rattle.calm_law.proofs.Joined.{fresh_before}
use Rattle.calm_law.proofs.Law.{RidesOn}
use Rattle.calm_law.proofs.State.{NoStrays, Steps, none_strays}
use Rattle.address_world.specs.declared.asked.Asked.{Asked}
use Rattle.address_world.specs.declared.asked.Asked.TheVariants.{Read, Connect, Disconnect, Write}
use Rattle.address_world.specs.AddressWorld.{AddressWorld, AddressEvent, UnitState, Send, Renew, Up, UpRefused, Down, LoseUp, LoseDown, Bus, Respond, GwRepeat, GwClose, Pass, me, next_frame, has_address, confirmation, carried, carried_to, changed, oldest_at, sends, tunnel_event, units_after}
use Rattle.address_world.specs.AddressLegal.{UnitsAllow}
use Rattle.address_world.specs.Keeps.{frame_of}
use Rattle.address_talk.specs.Rounds.{Round, after_deed, quiet_since}
use Rattle.address_talk.specs.Talk.{AsksFor}
use Rattle.address_law.specs.Calm.{AllSent, IsCalm}
use Rattle.address_law.proofs.Talks.{rounds_of, DoesSo}
use Rattle.address_law.proofs.Units.{AreAs, todo, responds}
use Rattle.address_law.proofs.Rides.{Rides, Rising, Over, ReadsConfirmation, base, verdict, heard_all, puts_rides, takes_rides, later_rides, passes_rides, has_as, carried_so, carried_over, responds_over, reads_back}

-- ---- what an entry does

abbrev takes : Deed → Bool
takes (Takes cemi) = true
takes _ = false

is_taken : (what : Deed) (cemi : List ℕ) → what ≡ Takes cemi → takes what ≡ true
is_taken what cemi e = ap takes e

puts_only : (address : Option IndAddr) (last : Option Ldata) (t : Bool) (o : Option RequestFrame) → takes (as_counted address last (or_takes (deed_of Puts t o) Nothing)) ≡ false
puts_only address last t None = refl
puts_only address last true (Some request) = refl
puts_only address last false (Some request) = refl

-- only what is got is taken
put_takes : (ch : ClientChannel) (octets : List ℕ) (now : ℕ) → takes (deed ch (entry (Put octets) now)) ≡ false
unfolding deed
put_takes Fresh octets now = refl
put_takes (Sought since) octets now = refl
put_takes (RefusedBy status) octets now = refl
put_takes Unanswered octets now = refl
put_takes (Open c l) octets now = puts_only (own_address l) (last_frame c l) (is_new_request c l (entry (Put octets) now)) (request_in (put_in (Put octets)))
put_takes (Lost c) octets now = refl

loses_or_nothing : (t : Bool) → takes (cond t Loses Nothing) ≡ false
loses_or_nothing true = refl
loses_or_nothing false = refl

renewed_takes : (ch : ClientChannel) (now : ℕ) → takes (deed ch (entry Renewed now)) ≡ false
unfolding deed
renewed_takes Fresh now = refl
renewed_takes (Sought since) now = refl
renewed_takes (RefusedBy status) now = refl
renewed_takes Unanswered now = refl
renewed_takes (Open c l) now = refl
renewed_takes (Lost c) now = refl

-- a wait puts and takes nothing
lost_rounds : (t : Bool) (rs : List Round) → after_deed (cond t Loses Nothing) rs ≡ rs
lost_rounds true rs = refl
lost_rounds false rs = refl

quiet_rounds : (ch : ClientChannel) (now : ℕ) (rs : List Round) → after_deed (deed ch (entry Quiet now)) rs ≡ rs
unfolding deed
quiet_rounds Fresh now rs = refl
quiet_rounds (Sought since) now rs = refl
quiet_rounds (RefusedBy status) now rs = refl
quiet_rounds Unanswered now rs = refl
quiet_rounds (Open c l) now rs = lost_rounds (is_lost c l (entry Quiet now)) rs
quiet_rounds (Lost c) now rs = refl

quiet_takes : (ch : ClientChannel) (now : ℕ) → takes (deed ch (entry Quiet now)) ≡ false
unfolding deed
quiet_takes Fresh now = refl
quiet_takes (Sought since) now = refl
quiet_takes (RefusedBy status) now = refl
quiet_takes Unanswered now = refl
quiet_takes (Open c l) now = loses_or_nothing (is_lost c l (entry Quiet now))
quiet_takes (Lost c) now = refl

taken_got : (ch : ClientChannel) (what : Item) (now : ℕ) → takes (deed ch (entry what now)) ≡ true → is_got what ≡ true
taken_got ch (Put octets) now h = absurd (let z = put_takes ch octets now in cc)
taken_got ch Renewed now h = absurd (let z = renewed_takes ch now in cc)
taken_got ch (Got octets) now h = refl
taken_got ch Quiet now h = absurd (let z = quiet_takes ch now in cc)

no_place : (ch : ClientChannel) → ch ≡ Fresh → HasPlace ch → ⊥
no_place ch e h = subst HasPlace e h

module _ (wanted : IndAddr) (start : List UnitState) where
  -- what rides by these rounds and this record; before the first connect request there is no round
  pub record Whole (rs : List Round) (r : List Entry) (units : List UnitState) (fly : Option Ldata) (q : List Ldata) : Type 0 where
    pub rides : Rides wanted start rs (quiet_since r) (newest_time r) units fly q
    pub first : channel r ≡ Fresh → rs ≡ []

  abbrev pub Now : List Entry → List UnitState → Option Ldata → List Ldata → Type 0
  Now r units fly q = Whole (rounds_of r) r units fly q

  module _ (r : List Entry) (units : List UnitState) where
    -- ---- an entry of the record

    since_got : (x : Entry) → is_got x.what ≡ true → quiet_since (x ∷ r) ≡ x.now
    since_got x h = ap (λ b. cond b x.now (quiet_since r)) h

    since_back : (x : Entry) (b : Bool) → is_got x.what ≡ b → x.now ≡ newest_time r → quiet_since (x ∷ r) < x.now → quiet_since r < newest_time r
    since_back x true e n h = absurd (let z : quiet_since (x ∷ r) ≡ x.now = since_got x e in let y : ⊥ = omega (arith, z, h) in y)
    since_back x false e n h = let z : quiet_since (x ∷ r) ≡ quiet_since r = ap (λ b. cond b x.now (quiet_since r)) e in omega (arith, z, h, n)

    -- the channel isn't fresh, but where it was
    was_fresh : (x : Entry) → (is_renewal x.what ≡ true → channel r ≡ Fresh) → channel (x ∷ r) ≡ Fresh → channel r ≡ Fresh
    was_fresh x renewed e = by_renewal (is_renewal x.what) refl where
      by_renewal : (b : Bool) → is_renewal x.what ≡ b → channel r ≡ Fresh
      by_renewal true t = renewed t
      by_renewal false t = fresh_before (channel r) x t e

    fresh_deed : (ch : ClientChannel) (x : Entry) → ch ≡ Fresh → deed ch x ≡ Nothing
    unfolding deed
    fresh_deed ch x e = ap (λ c. deed c x) e

    still_none : (x : Entry) (what : Deed) → deed (channel r) x ≡ what → (channel r ≡ Fresh → rounds_of r ≡ []) → channel r ≡ Fresh → after_deed what (rounds_of r) ≡ []
    still_none x what is first e = ap (λ d. after_deed d (rounds_of r)) (sym is ∙ fresh_deed (channel r) x e) ∙ first e

    entry_steps : (x : Entry) → x.now ≡ newest_time r → (is_renewal x.what ≡ true → channel r ≡ Fresh) → (what : Deed) → deed (channel r) x ≡ what → DoesSo wanted r what
        → Steps (Now r units) (Whole (after_deed what (rounds_of r)) (x ∷ r) units) what
    entry_steps x now renewed (Puts cemi) is does = λ f q reads none e.
        record {
          rides = puts_rides wanted start (rounds_of r) (quiet_since (x ∷ r)) x.now units q cemi f does.asked reads does.reads does.may (heard_all wanted start (rounds_of r) (quiet_since r) (newest_time r) units None q e.rides does.heard_out);
          first = λ c. absurd (no_place (channel r) (was_fresh x renewed c) does.place);
        }
    entry_steps x now renewed (Takes cemi) is does = λ fly y q same e.
        let got : quiet_since (x ∷ r) ≡ x.now = since_got x (taken_got (channel r) x.what x.now (is_taken (deed (channel r) x) cemi is)) in
        let there : Rides wanted start (after_deed (Takes (cemi_octets y)) (rounds_of r)) x.now x.now units fly q = takes_rides wanted start (rounds_of r) (quiet_since r) (newest_time r) x.now units fly y q e.rides in
        record {
          rides = subst (λ s. Rides wanted start (after_deed (Takes cemi) (rounds_of r)) s x.now units fly q) (sym got) (subst (λ o. Rides wanted start (after_deed (Takes o) (rounds_of r)) x.now x.now units fly q) same there);
          first = λ c. still_none x (Takes cemi) is e.first (was_fresh x renewed c);
        }
    entry_steps x now renewed Loses is does = tt
    entry_steps x now renewed Nothing is does = λ fly q e.
        record {
          rides = later_rides wanted start (rounds_of r) (quiet_since r) (newest_time r) (quiet_since (x ∷ r)) x.now units fly q (since_back x (is_got x.what) refl now) e.rides;
          first = λ c. e.first (was_fresh x renewed c);
        }

    -- of any channel
    pub steps : (x : Entry) → x.now ≡ newest_time r → (is_renewal x.what ≡ true → channel r ≡ Fresh) → DoesSo wanted r (deed (channel r) x) → Steps (Now r units) (Now (x ∷ r) units) (deed (channel r) x)
    steps x now renewed does = entry_steps x now renewed (deed (channel r) x) refl does

  -- ---- the bus

  same_frame : (asked : Asked) (r : Round) (f : Ldata) → AsksFor wanted asked r → r.frame ≡ Some f → f ≡ frame_of wanted asked
  same_frame asked r f a b = let e : Some f ≡ Some (frame_of wanted asked) = sym b ∙ a in cc

  short_tpdu : (asked : Asked) → (1 ≤ length (frame_of wanted asked).tpdu) × (length (frame_of wanted asked).tpdu ≤ 64)
  short_tpdu Read = (omega arith, omega arith)
  short_tpdu Connect = (omega arith, omega arith)
  short_tpdu Disconnect = (omega arith, omega arith)
  short_tpdu Write = (omega arith, omega arith)

  con_read : (address : IndAddr) (asked : Asked) (error : Bool) → ReadsConfirmation error (record (on_bus address (frame_of wanted asked)) { code = Con; error = error })
  con_read address asked error =
      let f : Ldata = frame_of wanted asked in
      let range = short_tpdu asked in
      record {
        frame = record (on_bus address f) { code = Con; error = error };
        reads = written_in Con error f.group address.raw f.destination f.tpdu range.0 range.1 tt;
        answers = refl;
        con = refl;
        error_is = refl;
      }

  module _ (w : AddressWorld) (r : List Entry) where
    abbrev t : Tunnel
    t = w.tunnel

    carried_whole : (rs : List Round) (f : Ldata) (q : List Ldata) → Whole rs r w.units (Some f) q → Whole rs r (carried_to [] (Some (on_bus (me w) f)) w.units) None (q ++ confirmation w (on_bus (me w) f) ∷ [])
    carried_whole [] f q h = absurd (let z : Some f ≡ None = h.rides.0 in cc)
    carried_whole (x ∷ rs) f q h =
        let turn = h.rides.0 in
        let asked : Asked = turn.asked in
        let rising = h.rides.1.1.0 in
        let held = h.rides.1.1.1 in
        let is : f ≡ frame_of wanted asked = same_frame asked x f turn.asks rising.is in
        let g : Ldata = frame_of wanted asked in
        let con : Ldata = confirmation w (on_bus (me w) g) in
        let B : List UnitState = base wanted start (x ∷ rs) in
        let error : not (g.group || has_address g.destination w.units) ≡ verdict wanted start asked (base wanted start rs) = ap (λ b. not (g.group || b)) (has_as g.destination (base wanted start rs) w.units held) in
        let reads : ReadsConfirmation (verdict wanted start asked (base wanted start rs)) con = subst (λ b. ReadsConfirmation b con) error (con_read (me w) asked (not (g.group || has_address g.destination w.units))) in
        let over = carried_over wanted start (me w) asked g x rs w.units q con (quiet_since r) (newest_time r) turn.asks turn.may (subst (λ z. Rising wanted start z x q w.units) is rising) held reads in
        subst (λ z. Whole (x ∷ rs) r (carried_to [] (Some (on_bus (me w) z)) w.units) None (q ++ confirmation w (on_bus (me w) z) ∷ [])) (sym is)
        (record {
          rides = (turn, (h.rides.1.0, (subst (λ z. Over wanted start asked x B (carried_so (me w) wanted asked w.units) (z ++ con ∷ []) (quiet_since r) (newest_time r)) (sym rising.empty) over.0, over.1)));
          first = h.first;
        })

    abbrev Over_bus : Option Ldata → Type 0
    Over_bus o = RidesOn (Now r w.units) (Now (noted (item_of t (carried w o)) (tunnel.after t (carried w o)).now r) (carried_to [] o w.units)) r t (carried w o)

    bus_rides : (l : List Ldata) → t.gateway.bus ≡ l → next_frame w ≢ None → Over_bus (next_frame w)
    bus_rides [] e can = absurd (can (ap (λ b. option_map (on_bus (me w)) (first_frame b)) e))
    bus_rides (g ∷ rest) e can =
        let is : next_frame w ≡ Some (on_bus (me w) g) = ap (λ b. option_map (on_bus (me w)) (first_frame b)) e in
        let there : Over_bus (Some (on_bus (me w) g)) = λ f q b h. (let same : g ≡ f = cc in subst (λ z. Whole (rounds_of r) r (carried_to [] (Some (on_bus (me w) z)) w.units) None (q ++ confirmation w (on_bus (me w) z) ∷ [])) (sym same) (carried_whole (rounds_of r) f q h)) in
        subst Over_bus (sym is) there

    -- ---- a response

    none_owed : (b : List UnitState) (at : ℕ) (y : Ldata) → AreAs b w.units → todo w.units ≡ 0 → oldest_at at w.units ≡ Some y → ⊥
    none_owed b at y held sent old = let x = responds at b w.units y held old in let fewer = x.fewer in omega (arith, fewer, sent)

    module _ (at : ℕ) (y : Ldata) (old : oldest_at at w.units ≡ Some y) where
      by_asked : (asked : Asked) (x : Round) (b : List UnitState) (q : List Ldata) (since now : ℕ) → Over wanted start asked x b w.units q since now → AreAs b w.units → Over wanted start asked x b (changed at sends w.units) (q ++ y ∷ []) since now × AreAs b (changed at sends w.units)
      by_asked Read x b q since now h held = responds_over wanted start x b w.units q since now at y reads_back held old h
      by_asked Connect x b q since now h held = absurd (none_owed b at y held h.sent old)
      by_asked Disconnect x b q since now h held = absurd (none_owed b at y held h.sent old)
      by_asked Write x b q since now h held = absurd (none_owed b at y held h.sent old)

      respond_whole : (rs : List Round) (fly : Option Ldata) (q : List Ldata) → Whole rs r w.units fly q → Whole rs r (changed at sends w.units) fly (q ++ y ∷ [])
      respond_whole [] fly q h = absurd (none_owed start at y h.rides.1.1.1 h.rides.1.1.0 old)
      respond_whole (x ∷ rs) (Some f) q h = absurd (none_owed (base wanted start rs) at y h.rides.1.1.1 h.rides.1.1.0.sent old)
      respond_whole (x ∷ rs) None q h =
          let turn = h.rides.0 in
          record { rides = (turn, (h.rides.1.0, by_asked turn.asked x (base wanted start (x ∷ rs)) q (quiet_since r) (newest_time r) h.rides.1.1.0 h.rides.1.1.1)); first = h.first }

    abbrev Over_heard : ℕ → AtGateway → Option Ldata → Type 0
    Over_heard at gateway o = RidesOn (Now r w.units) (Now (noted (item_of t (heard gateway o)) (tunnel.after t (heard gateway o)).now r) (changed at sends w.units)) r t (heard gateway o)

    respond_rides : (at : ℕ) (o : Option Ldata) → oldest_at at w.units ≡ o → o ≢ None → Over_heard at Comes o
    respond_rides at None e can = absurd (can refl)
    respond_rides at (Some y) e can = λ fly q h. respond_whole at y e (rounds_of r) fly q h

    -- ---- time passes

    later_none : (rs : List Round) (since now then later : ℕ) (fly : Option Ldata) (q : List Ldata) → rs ≡ [] → Rides wanted start rs since now w.units fly q → Rides wanted start rs then later w.units fly q
    later_none [] since now then later fly q e h = h
    later_none (x ∷ rs) since now then later fly q e h = absurd (cc)

    pass_rides : (ms : ℕ) → todo w.units ≡ 0 → (q : List Ldata) → (channel r ≡ Fresh) ⊎ ((q ≡ []) × HasPlace (channel r)) → Now r w.units None q → Now (entry Quiet (t.now + ms) ∷ r) w.units None q
    pass_rides ms sent q so h =
        let x : Entry = entry Quiet (t.now + ms) in
        subst (λ rs. Whole rs (x ∷ r) w.units None q) (sym (quiet_rounds (channel r) (t.now + ms) (rounds_of r)))
        (record { rides = by_place so; first = λ c. h.first (was_fresh r w.units x (λ e. absurd (let z : false ≡ true = e in cc)) c) })
      where
        by_place : (channel r ≡ Fresh) ⊎ ((q ≡ []) × HasPlace (channel r)) → Rides wanted start (rounds_of r) (quiet_since r) (t.now + ms) w.units None q
        by_place (inl fresh) = later_none (rounds_of r) (quiet_since r) (newest_time r) (quiet_since r) (t.now + ms) None q (h.first fresh) h.rides
        by_place (inr p) =
            subst (λ z. Rides wanted start (rounds_of r) (quiet_since r) (t.now + ms) w.units None z) (sym p.0)
            (passes_rides wanted start (rounds_of r) (quiet_since r) (newest_time r) (quiet_since r) (t.now + ms) w.units sent (subst (λ z. Rides wanted start (rounds_of r) (quiet_since r) (newest_time r) w.units None z) p.0 h.rides))

    -- ---- by the event's name

    all_sent : (units : List UnitState) → AllSent units → todo units ≡ 0
    all_sent [] h = refl
    all_sent (u ∷ units) h = let a : length u.unsent ≡ 0 = ap length h.0 in let b = all_sent units h.1 in omega (arith, a, b)

    got_not : (o : Option Sent) (item : Item) → got o ≡ Some item → is_renewal item ≡ true → ⊥
    got_not None item e h = cc
    got_not (Some s) item e h = let same : Got (take 512 s.octets) ≡ item = cc in let z : false ≡ true = ap is_renewal same ∙ h in cc

    abbrev pub Does : AddressEvent → Type 0
    Does e = (item : Item) → item_of t (tunnel_event w e) ≡ Some item → DoesSo wanted r (deed (channel r) (entry item (tunnel.after t (tunnel_event w e)).now))

    abbrev So : AddressEvent → Type 0
    So e = RidesOn (Now r w.units) (Now (noted (item_of t (tunnel_event w e)) (tunnel.after t (tunnel_event w e)).now r) (units_after w e)) r t (tunnel_event w e)

    pub rides_on : NoStrays (channel r) t.gateway.channel → newest_time r ≡ t.now → (e : AddressEvent) → IsCalm w e → UnitsAllow w e → Does e → So e
    rides_on none newest (Send octets) calm can does = steps r w.units (entry (Put octets) t.now) (sym newest) (λ h. absurd (let z : false ≡ true = h in cc)) (does (Put octets) refl)
    rides_on none newest Renew calm can does = λ fresh. steps r w.units (entry Renewed t.now) (sym newest) (λ h. fresh) (does Renewed refl)
    rides_on none newest (Up age) calm can does = λ fly q h. h
    rides_on none newest (UpRefused age status) calm can does = absurd calm
    rides_on none newest (Down age) calm can does = (
      λ item is.
          subst (λ o. Steps (Now r w.units) (Now (noted o t.now r) w.units) (deed (channel r) (entry item t.now))) (sym is)
          (steps r w.units (entry item t.now) (sym newest) (λ h. absurd (got_not (slice_get t.network.down age) item is h)) (does item is)),
      none_strays (Now r w.units) (Now (noted (item_of t (tunnel.Down age)) t.now r) w.units) (channel r) t.gateway.channel none,
    )
    rides_on none newest (LoseUp age) calm can does = absurd calm
    rides_on none newest (LoseDown age) calm can does = absurd calm
    rides_on none newest (Bus left_out) calm can does =
        subst (λ l. RidesOn (Now r w.units) (Now (noted (item_of t (carried w (next_frame w))) (tunnel.after t (carried w (next_frame w))).now r) (carried_to l (next_frame w) w.units)) r t (carried w (next_frame w))) (sym calm)
        (bus_rides t.gateway.bus refl can)
    rides_on none newest (Respond at gateway) calm can does = subst (λ g. Over_heard at g (oldest_at at w.units)) (sym calm) (respond_rides at (oldest_at at w.units) refl can)
    rides_on none newest GwRepeat calm can does = λ fly q h. h
    rides_on none newest GwClose calm can does = λ fly q h. h
    rides_on none newest (Pass ms) calm can does = λ q so h. pass_rides ms (all_sent w.units calm.units) q so h
