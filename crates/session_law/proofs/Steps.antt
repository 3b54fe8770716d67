-- Each event keeps the invariant.
use Rattle.std.proofs.Common.{◌≡◌, ℕ, ◌⊎◌, List, [], ◌∷◌, ◌++◌, take, drop, Bool, true, false, not, cond, Option, Some, None, refl, sym, ◌∙◌, ap, subst, arith, inl, inr, append-nil}
use Rattle.std.specs.List.{AllByRecursion}
use Rattle.std.proofs.lemmas.Bool.{false≢true}
use Rattle.knx_model.specs.declared.address.IndAddr.{IndAddr}
use Rattle.knx_model.specs.declared.frames.cemi.Ldata.{Ldata}
use Rattle.knx_model.specs.declared.connection.TransportFrame.{TransportFrame}
use Rattle.knx_model.specs.declared.connection.TransportFrame.TheVariants.{Connect, Disconnect, Ack, Nak, Numbered, Other}
use Rattle.knx_model.specs.declared.connection.ClientExpired.{ClientExpired}
use Rattle.knx_model.specs.declared.connection.ClientExpired.TheVariants as over
use Rattle.knx_model.specs.Connection.{frame_in}
use Rattle.knx_model.specs.ClientConnection.{device_of, client_sent, client_expired}
use Rattle.knx_model.specs.DeviceState.{DeviceState}
use Rattle.knx_model.specs.DeviceFrames.{Outcome, Whole, took_of, is_taken}
use Rattle.knx_model.specs.DeviceSending.{waiting_frame, pops, repeat_frame, repeats}
use Rattle.session_law.specs.World.{Message, Con, Ind, Client, World, fresh}
use Rattle.session_law.specs.Client.{asks_so, waits_so, replies_so, is_from, frame_from, takes_oldest}
use Rattle.session_law.specs.Device.{AtGateway, Comes, IsLost, took_alone, gets, carries, carries_lost, gets_again, elsewhere, and_told, or_before}
use Rattle.session_law.specs.Events.{Event, Connects, Asks, Waits, Replies, Leaves, Takes, Loses, Joins, Drops, Bus, BusLost, BusAgain, Group, Elsewhere, DevSend, DevRepeat, DevClose, GwAgain, Cut, On, Pass, step, IsInd, MayHappen, replay, IsLegal}
use Rattle.session_law.proofs.Arrivals.{Arrival, Confirmation, Frame, NoConfirmation, noconf_append, transport, transport_if, arrival_if, arrivals, arrivals_append, arrivals_parts}
use Rattle.session_law.proofs.Frames.{connect_read, disconnect_read}
use Rattle.session_law.proofs.Seen.{Seen}
use Rattle.session_law.proofs.Taken.{seen_of, IsSmall, GotIs, got_mine, got_group, or_anew}
use Rattle.session_law.proofs.Spoken.{Speaks, LastMine, last_mine, shut_last, on_last, pops_seen, repeats_seen, shut_seen, cut_is, on_seen}
use Rattle.session_law.proofs.Invariant.{Invariant, FlyFrame, LastIs, Ready}
use Rattle.session_law.proofs.Again.{again_kept, group_kept, shut_kept}
use Rattle.session_law.proofs.Sent.{spoke_kept}
use Rattle.session_law.proofs.Dropped.{last_kept, twice_kept, drop_kept, lose_kept, join_kept}
use Rattle.session_law.proofs.Carried.{lost_kept, bus_kept}
use Rattle.session_law.proofs.Put.{connect_kept, leave_kept, ask_kept, reply_kept}
use Rattle.session_law.proofs.Heard.{told_kept}
use Rattle.session_law.proofs.Confirmed.{confirmed_kept}
use Rattle.session_law.proofs.Overdue.{due_is, silent_kept, repeat_kept, Due, DNothing, DRepeats, DSilent}
use Rattle.session_law.proofs.Books.{Books, empty, asks_book, gets_book, carries_book, again_book, books_after, books}

-- the frame that waits for the bus is the client's, for the device alone
abbrev pub FlyMine : IndAddr → Option Ldata → Type 0
FlyMine me None = Unit {0}
FlyMine me (Some frame) = (frame.group ≡ false) × (frame.source ≡ me.raw)

-- what is on its way to the client, and what may come again
abbrev pub items : World → List Arrival
items w = arrivals w.coming ++ arrival_if (transport_if w.echo)

pub record WorldInv (w : World) (b : Books) : Type 0 where
  pub flying : FlyMine w.me w.flying
  pub last : LastMine w.me w.device.last
  pub inv : Invariant w.me b.asked w.client (transport_if w.flying) (items w) (seen_of w.device b.delivered b.given)

-- ---- the client sent a frame

connects_step : (w : World) (b : Books) → WorldInv w b → MayHappen w Connects → WorldInv (step w Connects) b
connects_step w b h may =
    record {
      flying = (refl, refl);
      last = h.last;
      inv = (let P : TransportFrame → Type 0 = λ s. Invariant w.me b.asked (step w Connects).client (Some s) (items w) (seen_of w.device b.delivered b.given) in
          subst P (sym connect_read) (connect_kept w.me w.device.address b.asked w.client (transport_if w.flying) (items w) (seen_of w.device b.delivered b.given) may.0 may.1 h.inv));
    }

leaves_step : (w : World) (b : Books) → WorldInv w b → MayHappen w Leaves → WorldInv (step w Leaves) b
leaves_step w b h may =
    record {
      flying = (refl, refl);
      last = h.last;
      inv = (let P : TransportFrame → Type 0 = λ s. Invariant w.me b.asked (step w Leaves).client (Some s) (items w) (seen_of w.device b.delivered b.given) in
          subst P (sym disconnect_read) (leave_kept w.me b.asked w.client (transport_if w.flying) (items w) (seen_of w.device b.delivered b.given) may.0 may.1 h.inv));
    }

asks_step : (w : World) (b : Books) (apdu : List ℕ) (o : Option (List ℕ)) → client_sent w.client.end apdu ≡ o → WorldInv w b → MayHappen w (Asks apdu) → WorldInv (asks_so w apdu o) (asks_book b apdu o)
asks_step w b apdu None e h may = h
asks_step w b apdu (Some octets) e h may =
    let r = ask_kept w.me b.asked w.client (transport_if w.flying) (items w) (seen_of w.device b.delivered b.given) apdu octets w.now may.0 may.1 e h.inv in
    record { flying = (refl, refl); last = h.last; inv = subst (λ (s : TransportFrame). Invariant w.me (apdu ∷ b.asked) (asks_so w apdu (Some octets)).client (Some s) (items w) (seen_of w.device b.delivered b.given)) (sym r.read) r.inv }

replies_step : (w : World) (b : Books) (l : List (List ℕ)) → w.client.owed ≡ l → WorldInv w b → MayHappen w Replies → WorldInv (replies_so w l) b
replies_step w b [] e h may = h
replies_step w b (reply ∷ rest) e h may =
    record { flying = (refl, refl); last = h.last; inv = reply_kept w.me b.asked w.client (transport_if w.flying) (items w) (seen_of w.device b.delivered b.given) reply rest w.now e may h.inv }

waits_step : (w : World) (b : Books) (x : ClientExpired) → Due w.client.end x → WorldInv w b → MayHappen w Waits → WorldInv (waits_so w x) b
waits_step w b x DNothing h may = h
waits_step w b x (DRepeats s q e) h may =
    let r = repeat_kept w.me b.asked w.client s q (transport_if w.flying) (items w) (seen_of w.device b.delivered b.given) w.now e may h.inv in
    record { flying = (refl, refl); last = h.last; inv = subst (λ (t : TransportFrame). Invariant w.me b.asked (waits_so w (over.Repeat q.frame)).client (Some t) (items w) (seen_of w.device b.delivered b.given)) (sym r.read) r.inv }
waits_step w b x (DSilent ms) h may = record { flying = h.flying; last = h.last; inv = silent_kept w.me b.asked w.client (transport_if w.flying) (items w) (seen_of w.device b.delivered b.given) ms w.now may h.inv }

-- ---- the client takes a message

group_from : (device : Option IndAddr) (frame : Ldata) → frame.group ≡ true → is_from device frame ≡ false
group_from None frame g = refl
group_from (Some d) frame g = rw g refl

frame_by : (device : Option IndAddr) (frame : Ldata) (g b : Bool) → frame.group ≡ g → is_from device frame ≡ b → (cond b (frame_in frame.tpdu) Other ≡ transport frame) ⊎ (cond b (frame_in frame.tpdu) Other ≡ Other)
frame_by device frame g false e f = inr refl
frame_by device frame true true e f = absurd (false≢true (sym (group_from device frame e) ∙ f))
frame_by device frame false true e f = inl (rw e refl)

frame_is : (device : Option IndAddr) (frame : Ldata) → (frame_from device frame ≡ transport frame) ⊎ (frame_from device frame ≡ Other)
frame_is device frame = frame_by device frame frame.group (is_from device frame) refl refl

takes_step : (w : World) (b : Books) (l : List Message) → w.coming ≡ l → WorldInv w b → WorldInv (takes_oldest w l) b
takes_step w b [] e h = h
takes_step w b (Con error ∷ rest) e h =
    let inv : Invariant w.me b.asked w.client (transport_if w.flying) (Confirmation error ∷ (arrivals rest ++ arrival_if (transport_if w.echo))) (seen_of w.device b.delivered b.given) = subst (λ (l : List Message). Invariant w.me b.asked w.client (transport_if w.flying) (arrivals l ++ arrival_if (transport_if w.echo)) (seen_of w.device b.delivered b.given)) e h.inv in
    record { flying = h.flying; last = h.last; inv = confirmed_kept w.me b.asked w.client (transport_if w.flying) error (arrivals rest ++ arrival_if (transport_if w.echo)) (seen_of w.device b.delivered b.given) w.now inv }
takes_step w b (Ind frame ∷ rest) e h =
    let inv : Invariant w.me b.asked w.client (transport_if w.flying) (Frame (transport frame) ∷ (arrivals rest ++ arrival_if (transport_if w.echo))) (seen_of w.device b.delivered b.given) = subst (λ (l : List Message). Invariant w.me b.asked w.client (transport_if w.flying) (arrivals l ++ arrival_if (transport_if w.echo)) (seen_of w.device b.delivered b.given)) e h.inv in
    record {
      flying = h.flying;
      last = h.last;
      inv = told_kept w.me b.asked w.client (transport_if w.flying) (transport frame) (frame_from (device_of w.client.end) frame) (arrivals rest ++ arrival_if (transport_if w.echo)) (seen_of w.device b.delivered b.given) w.now (frame_is (device_of w.client.end) frame) inv;
    }

-- ---- the device gets a frame

pub fly_small : (s : TransportFrame) (asked : List (List ℕ)) → FlyFrame s asked → IsSmall s
fly_small Connect asked h = tt
fly_small Disconnect asked h = tt
fly_small (Ack n) asked h = tt
fly_small (Nak n) asked h = tt
fly_small (Numbered n apdu) asked h = omega (arith, h.2)
fly_small Other asked h = tt

pub ready_small : (s : TransportFrame) (asked ds : List (List ℕ)) → Ready s asked ds → IsSmall s
ready_small Connect asked ds h = tt
ready_small Disconnect asked ds h = tt
ready_small (Ack n) asked ds h = tt
ready_small (Nak n) asked ds h = tt
ready_small (Numbered n apdu) asked ds h = omega (arith, h.1.0)
ready_small Other asked ds h = tt

pub transport_alone : (frame : Ldata) → frame.group ≡ false → transport frame ≡ frame_in frame.tpdu
transport_alone frame g = rw g refl

-- the last frame of the bus comes no more
no_echo : (me : IndAddr) (asked : List (List ℕ)) (c : Client) (fly : Option TransportFrame) (coming : List Arrival) (echo : Option Ldata) (o : Seen) → Invariant me asked c fly (coming ++ arrival_if (transport_if echo)) o → Invariant me asked c fly coming o
no_echo me asked c fly coming None o h = subst (λ (l : List Arrival). Invariant me asked c fly l o) (append-nil coming) h
no_echo me asked c fly coming (Some frame) o h = last_kept me asked c fly coming (transport frame) o h

with_none : (me : IndAddr) (asked : List (List ℕ)) (c : Client) (fly : Option TransportFrame) (coming : List Arrival) (o : Seen) → Invariant me asked c fly coming o → Invariant me asked c fly (coming ++ []) o
with_none me asked c fly coming o h = subst (λ (l : List Arrival). Invariant me asked c fly l o) (sym (append-nil coming)) h

bus_step : (w : World) (b : Books) (fl : Option Ldata) (outcome : Outcome) → w.flying ≡ fl → WorldInv w b → WorldInv (carries w fl outcome) (carries_book w b fl outcome)
bus_step w b None outcome e h = h
bus_step w b (Some frame) outcome e h =
    let mine : (frame.group ≡ false) × (frame.source ≡ w.me.raw) = subst (λ (z : Option Ldata). FlyMine w.me z) e h.flying in
    let o : Seen = seen_of w.device b.delivered b.given in
    let s : TransportFrame = frame_in frame.tpdu in
    let at : transport_if w.flying ≡ Some s = ap transport_if e ∙ ap (λ (z : TransportFrame). Some z) (transport_alone frame mine.0) in
    let inv : Invariant w.me b.asked w.client (Some s) (arrivals w.coming) o = no_echo w.me b.asked w.client (Some s) (arrivals w.coming) w.echo o (subst (λ (z : Option TransportFrame). Invariant w.me b.asked w.client z (items w) o) at h.inv) in
    let got : GotIs w.me w.device frame w.now outcome b.delivered b.given s = got_mine w.me w.device frame w.now outcome b.delivered b.given mine.0 mine.1 (fly_small s b.asked inv.side.fly_is) inv.side.connection in
    let error : Bool = not (is_taken (took_of w.device frame)) in
    let n : Seen = seen_of (carries w (Some frame) outcome).device (gets_book w b frame outcome).delivered (gets_book w b frame outcome).given in
    let r : Invariant w.me (cond got.0 [] b.asked) w.client None (arrivals w.coming ++ Confirmation error ∷ []) n = bus_kept w.me b.asked w.client s (arrivals w.coming) o n got.0 (is_taken (took_of w.device frame)) inv got.1 in
    record {
      flying = tt;
      last = last_mine w.me w.device frame w.now outcome (inr mine) h.last;
      inv = with_none w.me (or_anew (took_alone w.device frame) b.asked) w.client None (arrivals (w.coming ++ Con error ∷ [])) n
          (subst (λ (l : List Arrival). Invariant w.me (or_anew (took_alone w.device frame) b.asked) w.client None l n) (sym (arrivals_append w.coming (Con error ∷ [])))
          (subst (λ (a : List (List ℕ)). Invariant w.me a w.client None (arrivals w.coming ++ Confirmation error ∷ []) n) (sym (got.2 b.asked)) r));
    }

bus_lost_step : (w : World) (b : Books) (fl : Option Ldata) → w.flying ≡ fl → WorldInv w b → WorldInv (carries_lost w fl) b
bus_lost_step w b None e h = h
bus_lost_step w b (Some frame) e h =
    let o : Seen = seen_of w.device b.delivered b.given in
    let inv : Invariant w.me b.asked w.client (Some (transport frame)) (arrivals w.coming) o
    = no_echo w.me b.asked w.client (Some (transport frame)) (arrivals w.coming) w.echo o (subst (λ (z : Option Ldata). Invariant w.me b.asked w.client (transport_if z) (items w) o) e h.inv) in
    record {
      flying = tt;
      last = h.last;
      inv = with_none w.me b.asked w.client None (arrivals (w.coming ++ Con true ∷ [])) o
          (subst (λ (l : List Arrival). Invariant w.me b.asked w.client None l o) (sym (arrivals_append w.coming (Con true ∷ []))) (lost_kept w.me b.asked w.client (transport frame) (arrivals w.coming) o inv));
    }

elsewhere_step : (w : World) (b : Books) → WorldInv w b → WorldInv (elsewhere w) b
elsewhere_step w b h =
    record {
      flying = h.flying;
      last = h.last;
      inv = with_none w.me b.asked w.client (transport_if w.flying) (arrivals w.coming) (seen_of w.device b.delivered b.given) (no_echo w.me b.asked w.client (transport_if w.flying) (arrivals w.coming) w.echo (seen_of w.device b.delivered b.given) h.inv);
    }

echo_step : (w : World) (b : Books) (echo : Option Ldata) → w.echo ≡ echo → WorldInv w b → WorldInv (record w { coming = and_told Comes echo w.coming }) b
echo_step w b None e h = record { flying = h.flying; last = h.last; inv = h.inv }
echo_step w b (Some frame) e h =
    let o : Seen = seen_of w.device b.delivered b.given in
    let x : TransportFrame = transport frame in
    let inv : Invariant w.me b.asked w.client (transport_if w.flying) (arrivals w.coming ++ Frame x ∷ []) o = subst (λ (z : Option Ldata). Invariant w.me b.asked w.client (transport_if w.flying) (arrivals w.coming ++ arrival_if (transport_if z)) o) e h.inv in
    record {
      flying = h.flying;
      last = h.last;
      inv = subst (λ (z : Option Ldata). Invariant w.me b.asked w.client (transport_if w.flying) (arrivals (w.coming ++ Ind frame ∷ []) ++ arrival_if (transport_if z)) o) (sym e)
          (subst (λ (l : List Arrival). Invariant w.me b.asked w.client (transport_if w.flying) (l ++ Frame x ∷ []) o) (sym (arrivals_append w.coming (Ind frame ∷ []))) (twice_kept w.me b.asked w.client (transport_if w.flying) (arrivals w.coming) x o inv));
    }

pub group_step : (w : World) (b : Books) (frame : Ldata) → frame.group ≡ true → WorldInv w b → WorldInv (gets w frame Whole) (gets_book w b frame Whole)
group_step w b frame g h =
    let got : GotIs w.me w.device frame w.now Whole b.delivered b.given Other = got_group w.me w.device frame w.now b.delivered b.given g h.inv.side.connection in
    record {
      flying = h.flying;
      last = last_mine w.me w.device frame w.now Whole (inl g) h.last;
      inv = group_kept w.me b.asked w.client (transport_if w.flying) (items w) (seen_of w.device b.delivered b.given) _ got.0 (is_taken (took_of w.device frame)) h.inv got.1;
    }

again_step : (w : World) (b : Books) (l : Option Ldata) → w.device.last ≡ l → LastMine w.me l → WorldInv w b → WorldInv (gets_again w l) (again_book w b l)
again_step w b None e mine h = h
again_step w b (Some frame) e (inl g) h = group_step w b frame g h
again_step w b (Some frame) e (inr mine) h =
    let o : Seen = seen_of w.device b.delivered b.given in
    let s : TransportFrame = frame_in frame.tpdu in
    let at : transport_if w.device.last ≡ Some s = ap transport_if e ∙ ap (λ (z : TransportFrame). Some z) (transport_alone frame mine.0) in
    let last : LastIs (Some s) b.asked b.delivered b.given = subst (λ (z : Option TransportFrame). LastIs z b.asked b.delivered b.given) at h.inv.side.last_is in
    let got : GotIs w.me w.device frame w.now Whole b.delivered b.given s = got_mine w.me w.device frame w.now Whole b.delivered b.given mine.0 mine.1 (ready_small s b.asked b.delivered last.0) h.inv.side.connection in
    record {
      flying = h.flying;
      last = last_mine w.me w.device frame w.now Whole (inr mine) h.last;
      inv = again_kept w.me b.asked w.client (transport_if w.flying) (items w) s o _ got.0 (is_taken (took_of w.device frame)) at h.inv got.1;
    }

-- ---- it sends

speaks_inv : (me : IndAddr) (asked : List (List ℕ)) (c : Client) (fly : Option TransportFrame) (coming : List Message) (echo : Option Ldata) (o n : Seen) (lost : AtGateway) (frame : Option Ldata) → Invariant me asked c fly (arrivals coming ++ arrival_if (transport_if echo)) o
    → Speaks me o n (arrival_if (transport_if frame)) → Invariant me asked c fly (arrivals (and_told lost frame coming) ++ arrival_if (transport_if (or_before frame echo))) n
speaks_inv me asked c fly coming echo o n lost None inv sp = spoke_kept me asked c fly (arrivals coming ++ arrival_if (transport_if echo)) o n [] IsLost inv sp
speaks_inv me asked c fly coming echo o n IsLost (Some frame) inv sp = spoke_kept me asked c fly (arrivals coming) o n (Frame (transport frame) ∷ []) Comes (no_echo me asked c fly (arrivals coming) echo o inv) sp
speaks_inv me asked c fly coming echo o n Comes (Some frame) inv sp =
    subst (λ (l : List Arrival). Invariant me asked c fly (l ++ Frame (transport frame) ∷ []) n) (sym (arrivals_append coming (Ind frame ∷ [])))
    (twice_kept me asked c fly (arrivals coming) (transport frame) n (spoke_kept me asked c fly (arrivals coming) o n (Frame (transport frame) ∷ []) Comes (no_echo me asked c fly (arrivals coming) echo o inv) sp))

sends_step : (w : World) (b : Books) (gateway : AtGateway) → WorldInv w b → WorldInv (step w (DevSend gateway)) b
sends_step w b gateway h =
    record {
      flying = h.flying;
      last = h.last;
      inv = speaks_inv w.me b.asked w.client (transport_if w.flying) w.coming w.echo (seen_of w.device b.delivered b.given) (seen_of (pops w.device) b.delivered b.given) gateway (waiting_frame w.device) h.inv
          (pops_seen w.me w.device b.delivered b.given);
    }

repeats_step : (w : World) (b : Books) (gateway : AtGateway) → w.device.unsent ≡ [] → WorldInv w b → WorldInv (step w (DevRepeat gateway)) b
repeats_step w b gateway e h =
    record {
      flying = h.flying;
      last = h.last;
      inv = speaks_inv w.me b.asked w.client (transport_if w.flying) w.coming w.echo (seen_of w.device b.delivered b.given) (seen_of (repeats w.device w.now) b.delivered b.given) gateway (repeat_frame w.device) h.inv
          (repeats_seen w.me w.device w.now b.delivered b.given e h.inv.side.connection);
    }

echo_plain : (echo : Option Ldata) → NoConfirmation (arrival_if (transport_if echo))
echo_plain None = tt
echo_plain (Some frame) = (tt, tt)

inds_plain : (l : List Message) → AllByRecursion IsInd l → NoConfirmation (arrivals l)
inds_plain [] h = tt
inds_plain (Con error ∷ l) h = absurd h.0
inds_plain (Ind frame ∷ l) h = (tt, inds_plain l h.1)

-- ---- each event

pub step_kept : (w : World) (b : Books) (e : Event) → MayHappen w e → WorldInv w b → WorldInv (step w e) (books_after w b e)
step_kept w b Connects may h = connects_step w b h may
step_kept w b (Asks apdu) may h = asks_step w b apdu (client_sent w.client.end apdu) refl h may
step_kept w b Waits may h = waits_step w b (client_expired w.client.end w.now) (due_is w.client.end w.now) h may
step_kept w b Replies may h = replies_step w b w.client.owed refl h may
step_kept w b Leaves may h = leaves_step w b h may
step_kept w b Takes may h = takes_step w b w.coming refl h
step_kept w b Loses may h = record { flying = h.flying; last = h.last; inv = lose_kept w.me b.asked w.client (transport_if w.flying) (items w) (seen_of w.device b.delivered b.given) h.inv }
step_kept w b (Joins n) may h =
    record {
      flying = tt;
      last = h.last;
      inv = join_kept w.me b.asked w.client (transport_if w.flying) (items w) (arrivals (drop n w.coming) ++ arrival_if (transport_if w.echo)) (seen_of w.device b.delivered b.given)
          (noconf_append (arrivals (drop n w.coming)) (arrival_if (transport_if w.echo)) (inds_plain (drop n w.coming) may) (echo_plain w.echo)) h.inv;
    }
step_kept w b (Drops n) may h =
    record {
      flying = tt;
      last = h.last;
      inv = drop_kept w.me b.asked w.client (transport_if w.flying) (arrivals (take n w.coming)) (arrivals (drop n w.coming)) (arrival_if (transport_if w.echo)) (seen_of w.device b.delivered b.given) (echo_plain w.echo)
          (subst (λ (l : List Arrival). Invariant w.me b.asked w.client (transport_if w.flying) (l ++ arrival_if (transport_if w.echo)) (seen_of w.device b.delivered b.given)) (arrivals_parts n w.coming) h.inv);
    }
step_kept w b (Bus outcome) may h = bus_step w b w.flying outcome refl h
step_kept w b BusLost may h = bus_lost_step w b w.flying refl h
step_kept w b BusAgain may h = again_step w b w.device.last refl h.last h
step_kept w b (Group frame) may h = elsewhere_step (gets w frame Whole) (gets_book w b frame Whole) (group_step w b frame may h)
step_kept w b Elsewhere may h = elsewhere_step w b h
step_kept w b (DevSend gateway) may h = sends_step w b gateway h
step_kept w b (DevRepeat gateway) may h = repeats_step w b gateway may h
step_kept w b DevClose may h = record { flying = h.flying; last = shut_last w.me w.device h.last; inv = shut_kept w.me b.asked w.client (transport_if w.flying) (items w) (seen_of w.device b.delivered b.given) _ h.inv (shut_seen w.device b.delivered b.given) }
step_kept w b GwAgain may h = echo_step w b w.echo refl h
step_kept w b Cut may h = record { flying = h.flying; last = tt; inv = shut_kept w.me b.asked w.client (transport_if w.flying) (items w) (seen_of w.device b.delivered b.given) _ h.inv (cut_is w.device b.delivered b.given) }
step_kept w b On may h = record { flying = h.flying; last = on_last w.me w.device h.last; inv = shut_kept w.me b.asked w.client (transport_if w.flying) (items w) (seen_of w.device b.delivered b.given) _ h.inv (on_seen w.device b.delivered b.given) }
step_kept w b (Pass ms) may h = record { flying = h.flying; last = h.last; inv = h.inv }

pub fresh_inv : (me : IndAddr) (d : DeviceState) → WorldInv (fresh me d) empty
fresh_inv me d =
    record {
      flying = tt;
      last = tt;
      inv = record {
        owed_ok = tt;
        whole = inl refl;
        side = record { prefix = ([], refl); one = omega arith; connection = tt; fly_is = tt; last_is = tt };
        phase = λ e. absurd (false≢true e);
      };
    }

pub always : (start : World) (events : List Event) → WorldInv start empty → IsLegal start events → WorldInv (replay start events) (books start events)
always start [] h legal = h
always start (e ∷ events) h legal = step_kept (replay start events) (books start events) e legal.0 (always start events h legal.1)
