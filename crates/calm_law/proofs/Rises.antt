-- What the gateway takes.
use Rattle.std.proofs.Common.{◌≡◌, ℕ, ◌+◌, ◌<◌, ◌≤◌, ◌⊎◌, List, [], ◌∷◌, ◌++◌, length, Bool, true, false, not, ◌&&◌, Option, Some, None, refl, sym, ◌∙◌, ap, subst, arith, inl, inr, le_trans, le_of_eq}
use Rattle.std.specs.Prelude.{slice_get, nat_lt}
use Rattle.std.proofs.lemmas.Bool.{eq-eqb, lt-ltb}
use Rattle.knx_model.specs.declared.address.IndAddr.{IndAddr}
use Rattle.knx_model.specs.declared.frames.cemi.Ldata.{Ldata}
use Rattle.knx_model.specs.declared.frames.ip.IpFrame.{IpFrame}
use Rattle.knx_model.specs.declared.frames.ip.IpFrame.TheVariants.{ConnectRequest, ConnectResponse, StateRequest, StateResponse, DisconnectRequest, TunnellingRequest, TunnellingAck}
use Rattle.knx_model.specs.KnxNetIp.{Written}
use Rattle.line_model.specs.Reading.{datagram_in}
use Rattle.line_model.specs.Network.{Sent, new_datagram, changed_at, once_more}
use Rattle.line_model.specs.Gateway.{next_number, gateway_took}
use Rattle.line_model.specs.Tunnel.{Tunnel, Up as Arrives, after, takes_frame, takes_sent}
use Rattle.line_model.specs.Record.{Entry}
use Rattle.line_model.specs.Deliveries.{is_under_way, next_up}
use Rattle.tunnel_law.proofs.Read.{response_seen, state_seen, ack_seen, disconnected_seen}
use Rattle.calm_law.proofs.Ways.{IsNew, Way, Took, taken}
use Rattle.calm_law.proofs.Tokens.{Rise, Fall, Ask, Tell, Receipt, Beat, Leave, Made, Ack, Alive, Ups, Downs, risen, ask_of, tell_of, receipt_of, beat_of, leave_of, same_last, only_last, not_last, ups_few, downs_few, downs_none}
use Rattle.calm_law.proofs.State.{Door, Shut, Knocked, Replied, Ajar, Stage, Rising, Riding, Past, Under, Free, Coming, Owed, Back, Pulse, Calm, Beating, Echo, Nums, asks_at, tells_at, receipts_at, beats_at, leaves_at, mades_at, acks_at, notes_at, alives_at, makers_at, ack_if, seen_at, awaited, cons_in, BeatIs, Early, Goes, Going, going, tunnel_at}
use Rattle.calm_law.proofs.Parts.{Parted, none_asks}

-- ---- a frame of another kind, or of this one

module _ {tells : List (ℕ × List ℕ)} {asks receipts beats leaves : List ℕ} (before : List Rise) where
  pub ask_gone : asks ≡ 0 ∷ [] → Ups asks tells receipts beats leaves (before ++ Ask ∷ []) → Ups [] tells receipts beats leaves before
  ask_gone e h =
      record {
        asks_are = (only_last ask_of before Ask 0 0 refl (h.asks_are ∙ e)).0;
        tells_are = same_last tell_of before Ask refl ∙ h.tells_are;
        receipts_are = same_last receipt_of before Ask refl ∙ h.receipts_are;
        beats_are = same_last beat_of before Ask refl ∙ h.beats_are;
        leaves_are = same_last leave_of before Ask refl ∙ h.leaves_are;
      }

  pub tell_gone : (n : ℕ) (cemi : List ℕ) (y : ℕ × List ℕ) → tells ≡ y ∷ [] → Ups asks tells receipts beats leaves (before ++ Tell n cemi ∷ []) → Ups asks [] receipts beats leaves before
  tell_gone n cemi y e h =
      record {
        asks_are = same_last ask_of before (Tell n cemi) refl ∙ h.asks_are;
        tells_are = (only_last tell_of before (Tell n cemi) (n, cemi) y refl (h.tells_are ∙ e)).0;
        receipts_are = same_last receipt_of before (Tell n cemi) refl ∙ h.receipts_are;
        beats_are = same_last beat_of before (Tell n cemi) refl ∙ h.beats_are;
        leaves_are = same_last leave_of before (Tell n cemi) refl ∙ h.leaves_are;
      }

  pub receipt_gone : (n o : ℕ) → receipts ≡ o ∷ [] → Ups asks tells receipts beats leaves (before ++ Receipt n ∷ []) → Ups asks tells [] beats leaves before
  receipt_gone n o e h =
      record {
        asks_are = same_last ask_of before (Receipt n) refl ∙ h.asks_are;
        tells_are = same_last tell_of before (Receipt n) refl ∙ h.tells_are;
        receipts_are = (only_last receipt_of before (Receipt n) n o refl (h.receipts_are ∙ e)).0;
        beats_are = same_last beat_of before (Receipt n) refl ∙ h.beats_are;
        leaves_are = same_last leave_of before (Receipt n) refl ∙ h.leaves_are;
      }

  pub beat_gone : beats ≡ 0 ∷ [] → Ups asks tells receipts beats leaves (before ++ Beat ∷ []) → Ups asks tells receipts [] leaves before
  beat_gone e h =
      record {
        asks_are = same_last ask_of before Beat refl ∙ h.asks_are;
        tells_are = same_last tell_of before Beat refl ∙ h.tells_are;
        receipts_are = same_last receipt_of before Beat refl ∙ h.receipts_are;
        beats_are = (only_last beat_of before Beat 0 0 refl (h.beats_are ∙ e)).0;
        leaves_are = same_last leave_of before Beat refl ∙ h.leaves_are;
      }

-- ---- each frame

module _ (E : Option Ldata → List Ldata → Type 0) (r : List Entry) (present : ℕ) (up up' down : List Sent) (waiting : List Ldata) (me : IndAddr) (acted puts : List (ℕ × List ℕ)) (now : ℕ) where
  -- the tunnel that takes this frame of endpoint 1
  abbrev pub taking : Door → Stage → Under → Nums → IpFrame → Tunnel
  taking door stage under m f = takes_frame (tunnel_at door stage under m present up' down me waiting acted puts now) 1 (Some f)

  abbrev pub Here : Door → Stage → Under → Pulse → Nums → List Rise → List Fall → Type 0
  Here door stage under pulse m ups downs = Goes E door stage under pulse m ups downs r present up down waiting now

  -- the connect request
  ask_taken : (door : Door) (stage : Stage) (under : Under) (pulse : Pulse) (m : Nums) (before : List Rise) (downs : List Fall) → Here door stage under pulse m (before ++ Ask ∷ []) downs → Way Rise datagram_in risen before up'
      → Going E r (taking door stage under m ConnectRequest)
  unfolding gateway_took
  ask_taken Shut stage under pulse m before downs h way = absurd (not_last ask_of before Ask 0 refl h.ups_are.asks_are)
  ask_taken Replied stage under pulse m before downs h way = absurd (not_last ask_of before Ask 0 refl h.ups_are.asks_are)
  ask_taken (Ajar leaves) stage under pulse m before downs h way = absurd (not_last ask_of before Ask 0 refl h.ups_are.asks_are)
  ask_taken Knocked stage (Coming y) pulse m before downs h way = absurd h.door_is.2
  ask_taken Knocked stage (Owed y) pulse m before downs h way = absurd h.door_is.2
  ask_taken Knocked stage (Back y) pulse m before downs h way = absurd h.door_is.2
  ask_taken Knocked (Rising cemi f) Free pulse m before downs h way = absurd (let e : Rising cemi f ≡ Past false = h.door_is.1.stage_is in cc)
  ask_taken Knocked (Riding f b) Free pulse m before downs h way = absurd (let e : Riding f b ≡ Past false = h.door_is.1.stage_is in cc)
  ask_taken Knocked (Past true) Free pulse m before downs h way = absurd (let e : ack_if 0 true ≡ ack_if 0 false = ap (acks_at 0) h.door_is.1.stage_is in cc)
  ask_taken Knocked (Past false) Free pulse m before downs h way =
      let e : Early (Past false) pulse m now = h.door_is.1 in
      let u : Ups [] [] [] (beats_at pulse) [] before = ask_gone before refl h.ups_are in
      let d : Downs [] [] [] (alives_at pulse) [] downs = h.downs_are in
      let no_alives : alives_at pulse ≡ [] = ap alives_at e.pulse_is in
      let n : Downs [] [] [] [] [] downs = record { mades_are = d.mades_are; acks_are = d.acks_are; notes_are = d.notes_are; alives_are = d.alives_are ∙ no_alives; lefts_are = d.lefts_are } in
      let seen = response_seen 1 me in
      let beat : BeatIs Calm m.beat m.heard now = subst (λ z. BeatIs z m.beat m.heard now) e.pulse_is h.beat in
      let at : m.heard ≡ now = e.heard_is in
      going E Replied (Past false) Free Calm (record { own = 0; put = 0; heard = now; beat = m.beat; acked = None; confirmed = true; last = m.last }) before (Made seen.0 ∷ downs) r present up' (new_datagram (Written (ConnectResponse 1 0 (Some me))) 1 1 ∷ down) me waiting acted puts now
      (record {
        rising = way;
        falling = (record { reads = seen.1; from = refl; undelivered = refl; kept = refl }, h.falling);
        ups_are = record { asks_are = u.asks_are; tells_are = u.tells_are; receipts_are = u.receipts_are; beats_are = u.beats_are ∙ ap beats_at e.pulse_is; leaves_are = u.leaves_are };
        downs_are = record { mades_are = ap (λ l. 0 ∷ l) n.mades_are; acks_are = n.acks_are; notes_are = n.notes_are; alives_are = n.alives_are; lefts_are = n.lefts_are };
        door_is = (
          h.door_is.0,
          record { stage_is = refl; pulse_is = refl; own_is = refl; put_is = refl; acked_is = refl; confirmed_is = refl; last_is = e.last_is; heard_is = refl },
          tt,
          record { tunnel = seen.0; younger = []; is = ap (λ l. Made seen.0 ∷ l) (downs_none downs n) },
        );
        owed_is = h.owed_is;
        end_is = h.end_is;
        reads = tt;
        counts = (let c : awaited m.confirmed ≡ 0 + (0 + cons_in waiting) = h.counts in let a : awaited m.confirmed ≡ 0 = ap awaited e.confirmed_is in omega (arith, a, c));
        own = h.own;
        acked = inl refl;
        fits = h.fits;
        heard = omega arith;
        since = omega arith;
        beat = (let b : m.beat ≤ m.heard = beat in omega (arith, b, at));
        pace = h.pace;
        rides = h.rides;
      })

  -- with what the gateway answers, where the channel is up
  abbrev answered : IpFrame → List Sent
  answered f = new_datagram (Written f) 1 1 ∷ down

  -- it hears the client
  later : (pulse : Pulse) (beat heard : ℕ) → BeatIs pulse beat heard now → heard ≤ now → BeatIs pulse beat now now
  later Calm beat heard b h = le_trans b h
  later Beating beat heard b h = b
  later Echo beat heard b h = (b.0, le_trans b.1 h)

  -- a request
  tell_taken : (door : Door) (stage : Stage) (under : Under) (pulse : Pulse) (m : Nums) (n : ℕ) (cemi : List ℕ) (before : List Rise) (downs : List Fall) → Here door stage under pulse m (before ++ Tell n cemi ∷ []) downs → Way Rise datagram_in risen before up'
      → Going E r (taking door stage under m (TunnellingRequest 1 n cemi))
  unfolding gateway_took
  tell_taken door (Riding f b) under pulse m n cemi before downs h way = absurd (not_last tell_of before (Tell n cemi) (n, cemi) refl h.ups_are.tells_are)
  tell_taken door (Past b) under pulse m n cemi before downs h way = absurd (not_last tell_of before (Tell n cemi) (n, cemi) refl h.ups_are.tells_are)
  tell_taken Shut (Rising own f) under pulse m n cemi before downs h way = absurd (let e : Rising own f ≡ Past false = h.door_is.2.stage_is in cc)
  tell_taken Knocked (Rising own f) under pulse m n cemi before downs h way = absurd (let e : Rising own f ≡ Past false = h.door_is.1.stage_is in cc)
  tell_taken Replied (Rising own f) under pulse m n cemi before downs h way = absurd (let e : Rising own f ≡ Past false = h.door_is.1.stage_is in cc)
  tell_taken (Ajar leaves) (Rising own f) under pulse m n cemi before downs h way =
      let same : ◌≡◌ {A = ℕ × List ℕ} (n, cemi) (m.own, own) = (only_last tell_of before (Tell n cemi) (n, cemi) (m.own, own) refl h.ups_are.tells_are).1 in
      let n_is : n ≡ m.own = ap (λ z. z.0) same in
      let cemi_is : cemi ≡ own = ap (λ z. z.1) same in
      let next : Nums = record m { heard = now } in
      let here : Going E r (tunnel_at (Ajar leaves) (Riding f true) under next present up' (answered (TunnellingAck 1 m.own 0)) me waiting ((0, own) ∷ acted) puts now)
      = going E (Ajar leaves) (Riding f true) under pulse next before (Ack m.own ∷ downs) r present up' (answered (TunnellingAck 1 m.own 0)) me waiting ((0, own) ∷ acted) puts now
      (record {
        rising = way;
        falling = (record { reads = ack_seen 1 m.own; from = refl; undelivered = refl; kept = refl }, h.falling);
        ups_are = tell_gone before n cemi (m.own, own) refl h.ups_are;
        downs_are = record { mades_are = h.downs_are.mades_are; acks_are = ap (λ l. m.own ∷ l) h.downs_are.acks_are; notes_are = h.downs_are.notes_are; alives_are = h.downs_are.alives_are; lefts_are = h.downs_are.lefts_are };
        door_is = h.door_is;
        owed_is = h.owed_is;
        end_is = h.end_is;
        reads = (own, h.reads.0);
        counts = h.counts;
        own = h.own;
        acked = h.acked;
        fits = h.fits;
        heard = omega arith;
        since = omega arith;
        beat = later pulse m.beat m.heard h.beat h.since;
        pace = h.pace;
        rides = h.rides;
      }) in
      rw (n_is, cemi_is, eq-eqb m.own m.own refl, h.reads.0, h.reads.1) here

  -- the acknowledgement of its own request
  receipt_taken : (door : Door) (stage : Stage) (under : Under) (pulse : Pulse) (m : Nums) (n : ℕ) (before : List Rise) (downs : List Fall) → Here door stage under pulse m (before ++ Receipt n ∷ []) downs → Way Rise datagram_in risen before up'
      → Going E r (taking door stage under m (TunnellingAck 1 n 0))
  unfolding gateway_took
  receipt_taken door stage Free pulse m n before downs h way = absurd (not_last receipt_of before (Receipt n) n refl h.ups_are.receipts_are)
  receipt_taken door stage (Coming y) pulse m n before downs h way = absurd (not_last receipt_of before (Receipt n) n refl h.ups_are.receipts_are)
  receipt_taken door stage (Owed y) pulse m n before downs h way = absurd (not_last receipt_of before (Receipt n) n refl h.ups_are.receipts_are)
  receipt_taken Shut stage (Back y) pulse m n before downs h way = absurd h.door_is.3
  receipt_taken Knocked stage (Back y) pulse m n before downs h way = absurd h.door_is.2
  receipt_taken Replied stage (Back y) pulse m n before downs h way = absurd h.door_is.2
  receipt_taken (Ajar leaves) stage (Back y) pulse m n before downs h way =
      let n_is : n ≡ m.put = (only_last receipt_of before (Receipt n) n m.put refl h.ups_are.receipts_are).1 in
      let next : Nums = record m { put = next_number m.put; heard = now } in
      let here : Going E r (tunnel_at (Ajar leaves) stage Free next present up' down me waiting acted puts now)
      = going E (Ajar leaves) stage Free pulse next before downs r present up' down me waiting acted puts now
      (record {
        rising = way;
        falling = h.falling;
        ups_are = receipt_gone before n m.put refl h.ups_are;
        downs_are = h.downs_are;
        door_is = h.door_is;
        owed_is = h.owed_is;
        end_is = h.end_is;
        reads = h.reads;
        counts = h.counts;
        own = h.own;
        acked = h.acked;
        fits = h.fits;
        heard = omega arith;
        since = omega arith;
        beat = later pulse m.beat m.heard h.beat h.since;
        pace = h.pace;
        rides = h.rides;
      }) in
      rw (n_is, eq-eqb m.put m.put refl) here

  -- a heartbeat
  beat_taken : (door : Door) (stage : Stage) (under : Under) (pulse : Pulse) (m : Nums) (before : List Rise) (downs : List Fall) → Here door stage under pulse m (before ++ Beat ∷ []) downs → Way Rise datagram_in risen before up'
      → Going E r (taking door stage under m (StateRequest 1))
  unfolding gateway_took
  beat_taken door stage under Calm m before downs h way = absurd (not_last beat_of before Beat 0 refl h.ups_are.beats_are)
  beat_taken door stage under Echo m before downs h way = absurd (not_last beat_of before Beat 0 refl h.ups_are.beats_are)
  beat_taken Shut stage under Beating m before downs h way = absurd (let e : Beating ≡ Calm = h.door_is.2.pulse_is in cc)
  beat_taken Knocked stage under Beating m before downs h way = absurd (let e : Beating ≡ Calm = h.door_is.1.pulse_is in cc)
  beat_taken Replied stage under Beating m before downs h way = absurd (let e : Beating ≡ Calm = h.door_is.1.pulse_is in cc)
  beat_taken (Ajar leaves) stage under Beating m before downs h way =
      let at : m.beat ≡ now = h.beat in
      going E (Ajar leaves) stage under Echo (record m { heard = now }) before (Alive ∷ downs) r present up' (answered (StateResponse 1 0)) me waiting acted puts now
      (record {
        rising = way;
        falling = (record { reads = state_seen 1 0; from = refl; undelivered = refl; kept = refl }, h.falling);
        ups_are = beat_gone before refl h.ups_are;
        downs_are = record { mades_are = h.downs_are.mades_are; acks_are = h.downs_are.acks_are; notes_are = h.downs_are.notes_are; alives_are = ap (λ l. 0 ∷ l) h.downs_are.alives_are; lefts_are = h.downs_are.lefts_are };
        door_is = h.door_is;
        owed_is = h.owed_is;
        end_is = h.end_is;
        reads = h.reads;
        counts = h.counts;
        own = h.own;
        acked = h.acked;
        fits = h.fits;
        heard = omega arith;
        since = omega arith;
        beat = (at, le_of_eq at);
        pace = h.pace;
        rides = h.rides;
      })

  -- ---- of each list at most one

  one_ack : (n : ℕ) (b : Bool) → length (ack_if n b) ≤ 1
  one_ack n true = omega arith
  one_ack n false = omega arith

  one_acks : (n : ℕ) (stage : Stage) → length (acks_at n stage) ≤ 1
  one_acks n (Rising cemi f) = omega arith
  one_acks n (Riding f b) = one_ack n b
  one_acks n (Past b) = one_ack n b

  one_note : (o : ℕ) (under : Under) → length (notes_at o under) ≤ 1
  one_note o Free = omega arith
  one_note o (Coming y) = omega arith
  one_note o (Owed y) = omega arith
  one_note o (Back y) = omega arith

  one_alive : (pulse : Pulse) → length (alives_at pulse) ≤ 1
  one_alive Calm = omega arith
  one_alive Beating = omega arith
  one_alive Echo = omega arith

  one_made : (door : Door) → length (mades_at door) ≤ 1
  one_made Shut = omega arith
  one_made Knocked = omega arith
  one_made Replied = omega arith
  one_made (Ajar leaves) = omega arith

  pub downs_short : (door : Door) (stage : Stage) (under : Under) (pulse : Pulse) (m : Nums) (ups : List Rise) (downs : List Fall) → Here door stage under pulse m ups downs → length downs ≤ 5
  downs_short door stage under pulse m ups downs h = downs_few downs h.downs_are (one_made door) (one_acks m.own stage) (one_note m.put under) (one_alive pulse) (omega arith)

  one_ask : (door : Door) → length (asks_at door) ≤ 1
  one_ask Shut = omega arith
  one_ask Knocked = omega arith
  one_ask Replied = omega arith
  one_ask (Ajar leaves) = omega arith

  one_tell : (n : ℕ) (stage : Stage) → length (tells_at n stage) ≤ 1
  one_tell n (Rising cemi f) = omega arith
  one_tell n (Riding f b) = omega arith
  one_tell n (Past b) = omega arith

  one_receipt : (o : ℕ) (under : Under) → length (receipts_at o under) ≤ 1
  one_receipt o Free = omega arith
  one_receipt o (Coming y) = omega arith
  one_receipt o (Owed y) = omega arith
  one_receipt o (Back y) = omega arith

  one_beat : (pulse : Pulse) → length (beats_at pulse) ≤ 1
  one_beat Calm = omega arith
  one_beat Beating = omega arith
  one_beat Echo = omega arith

  one_leave : (door : Door) → length (leaves_at door) ≤ 1
  one_leave Shut = omega arith
  one_leave Knocked = omega arith
  one_leave Replied = omega arith
  one_leave (Ajar true) = omega arith
  one_leave (Ajar false) = omega arith

  ups_short : (door : Door) (stage : Stage) (under : Under) (pulse : Pulse) (m : Nums) (ups : List Rise) (downs : List Fall) → Here door stage under pulse m ups downs → length ups ≤ 5
  ups_short door stage under pulse m ups downs h = ups_few ups h.ups_are (one_ask door) (one_tell m.own stage) (one_receipt m.put under) (one_beat pulse) (one_leave door)

  pub one_maker : (door : Door) → length (makers_at door) ≤ 1
  one_maker Shut = omega arith
  one_maker Knocked = omega arith
  one_maker Replied = omega arith
  one_maker (Ajar leaves) = omega arith

  -- the request for the channel's end
  leave_taken : (door : Door) (stage : Stage) (under : Under) (pulse : Pulse) (m : Nums) (before : List Rise) (downs : List Fall) → Here door stage under pulse m (before ++ Leave ∷ []) downs → Way Rise datagram_in risen before up'
      → Parted r (taking door stage under m (DisconnectRequest 1))
  unfolding gateway_took
  leave_taken Shut stage under pulse m before downs h way = absurd (not_last leave_of before Leave 0 refl h.ups_are.leaves_are)
  leave_taken Knocked stage under pulse m before downs h way = absurd (not_last leave_of before Leave 0 refl h.ups_are.leaves_are)
  leave_taken Replied stage under pulse m before downs h way = absurd (not_last leave_of before Leave 0 refl h.ups_are.leaves_are)
  leave_taken (Ajar false) stage under pulse m before downs h way = absurd (not_last leave_of before Leave 0 refl h.ups_are.leaves_are)
  leave_taken (Ajar true) stage under pulse m before downs h way =
      record {
        s = seen_at stage under pulse m now;
        up = h.door_is;
        shut = refl;
        made = omega arith;
        rising = none_asks before up' way (same_last ask_of before Leave refl ∙ h.ups_are.asks_are) (only_last leave_of before Leave 0 0 refl h.ups_are.leaves_are).0;
        status = 0;
        older = downs;
        falling = (record { reads = disconnected_seen 1 0; from = refl; undelivered = refl; kept = refl }, h.falling);
        few = (let n = downs_short (Ajar true) stage under pulse m (before ++ Leave ∷ []) downs h in omega (arith, n));
      }

-- ---- the oldest one comes

all_true : (a b c d : Bool) → a ≡ true → b ≡ true → c ≡ true → d ≡ true → (a && b && c && d) ≡ true
all_true a b c d p q s t = rw (p, q, s, t) refl

pub comes : (read : List ℕ → Option IpFrame) (frame : IpFrame) (made age : ℕ) (s : Sent) → made ≤ 1 → age < 128 → IsNew read frame s → is_under_way made age s ≡ true
comes read frame made age s few young new =
    let u : s.delivered ≡ 0 = new.undelivered in
    all_true (not s.lost) (nat_lt s.delivered 2) (nat_lt age 128) (nat_lt made (s.made + 255)) (ap not new.kept) (lt-ltb s.delivered 2 (omega arith)) (lt-ltb age 128 young) (lt-ltb made (s.made + 255) (omega arith))

module _ (E : Option Ldata → List Ldata → Type 0) (r : List Entry) (present : ℕ) (up down : List Sent) (waiting : List Ldata) (me : IndAddr) (acted puts : List (ℕ × List ℕ)) (now : ℕ) where
  abbrev pub before_it : Door → Stage → Under → Nums → Tunnel
  before_it door stage under m = tunnel_at door stage under m present up down me waiting acted puts now

  pub up_kept : (door : Door) (stage : Stage) (under : Under) (pulse : Pulse) (m : Nums) (ups : List Rise) (downs : List Fall) → Goes E door stage under pulse m ups downs r present up down waiting now
      → (age : ℕ) → next_up (before_it door stage under m) ≡ Some age → Going E r (after (before_it door stage under m) (Arrives age)) ⊎ Parted r (after (before_it door stage under m) (Arrives age))
  up_kept door stage under pulse m ups downs h age next =
      let few = ups_short E r present up up down waiting me acted puts now door stage under pulse m ups downs h in
      let t : Took Rise datagram_in risen ups up 0 age
      = taken Rise datagram_in risen (λ a s. is_under_way (length (makers_at door)) a s) (λ a u s young new. comes datagram_in (risen u) (length (makers_at door)) a s (one_maker E r present up up down waiting me acted puts now door) young new) ups up 0 age
      (omega (arith, few)) h.rising next in
      let at : age ≡ t.i = (let e : age ≡ 0 + t.i = t.is in omega (arith, e)) in
      let up' : List Sent = changed_at t.i once_more up in
      let T : Tunnel = tunnel_at door stage under m present up' down me waiting acted puts now in
      let same : takes_sent T (slice_get up t.i) ≡ takes_frame T 1 (Some (risen t.last))
      = ap (takes_sent T) t.there ∙ ap (λ e. takes_frame T e (datagram_in t.s.octets)) t.new.from ∙ ap (λ f. takes_frame T 1 f) t.new.reads in
      let h2 : Goes E door stage under pulse m (t.before ++ t.last ∷ []) downs r present up down waiting now = subst (λ l. Goes E door stage under pulse m l downs r present up down waiting now) t.split h in
      let P : Tunnel → Type 0 = λ z. Going E r z ⊎ Parted r z in
      let here : P (takes_frame T 1 (Some (risen t.last))) = by_last t.before t.last up' h2 t.rest in
      subst (λ a. P (after (before_it door stage under m) (Arrives a))) (sym at) (subst P (sym same) here)
    where
      by_last : (before : List Rise) (last : Rise) (up' : List Sent) → Goes E door stage under pulse m (before ++ last ∷ []) downs r present up down waiting now → Way Rise datagram_in risen before up'
          → Going E r (takes_frame (tunnel_at door stage under m present up' down me waiting acted puts now) 1 (Some (risen last))) ⊎ Parted r (takes_frame (tunnel_at door stage under m present up' down me waiting acted puts now) 1 (Some (risen last)))
      by_last before Ask up' g way = inl (ask_taken E r present up up' down waiting me acted puts now door stage under pulse m before downs g way)
      by_last before (Tell n cemi) up' g way = inl (tell_taken E r present up up' down waiting me acted puts now door stage under pulse m n cemi before downs g way)
      by_last before (Receipt n) up' g way = inl (receipt_taken E r present up up' down waiting me acted puts now door stage under pulse m n before downs g way)
      by_last before Beat up' g way = inl (beat_taken E r present up up' down waiting me acted puts now door stage under pulse m before downs g way)
      by_last before Leave up' g way = inr (leave_taken E r present up up' down waiting me acted puts now door stage under pulse m before downs g way)
