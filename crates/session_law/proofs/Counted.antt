-- Each event keeps what is counted.
use Rattle.knx_model.specs.declared.connection.DeviceTook.TheVariants as took
use Rattle.knx_model.specs.declared.connection.ClientExpired.TheVariants as over
use Rattle.std.proofs.Common.{◌≡◌, ℕ, List, [], ◌∷◌, ◌++◌, Bool, true, false, not, ◌&&◌, Option, Some, None, refl, sym, ◌∙◌, ap, subst, inl, inr, if◌then◌else◌}
use Rattle.std.proofs.lemmas.Bool.{false≢true}
use Rattle.knx_model.specs.declared.address.IndAddr.{IndAddr}
use Rattle.knx_model.specs.declared.frames.cemi.Ldata.{Ldata}
use Rattle.knx_model.specs.declared.connection.TransportFrame.{TransportFrame}
use Rattle.knx_model.specs.declared.connection.TransportFrame.TheVariants.{Connect}
use Rattle.knx_model.specs.declared.connection.DeviceTook.{DeviceTook}
use Rattle.knx_model.specs.declared.connection.ClientExpired.{ClientExpired}
use Rattle.knx_model.specs.Connection.{frame_in}
use Rattle.knx_model.specs.ClientConnection.{ClientEnd, Asked, Up, Asking, Awaiting, Ended, device_of, client_sent, client_stayed, client_expired, after_overdue}
use Rattle.knx_model.specs.DeviceConnection.{DeviceEnd}
use Rattle.knx_model.specs.DeviceState.{DeviceState}
use Rattle.knx_model.specs.DeviceFrames.{Outcome, Whole, took_of, is_taken, connection_took, sender}
use Rattle.session_law.specs.World.{Message, Con, Ind, World, fresh}
use Rattle.session_law.specs.Client.{asks_so, waits_so, replies_so, takes_oldest, frame_from}
use Rattle.session_law.specs.Device.{took_alone, gets, carries, carries_lost, gets_again}
use Rattle.session_law.specs.Events.{Event, Connects, Asks, Waits, Replies, Leaves, Takes, Loses, Joins, Drops, Bus, BusLost, BusAgain, Group, Elsewhere, DevSend, DevRepeat, DevClose, GwAgain, Cut, On, Pass, step, MayHappen, replay, IsLegal, AtEveryMoment}
use Rattle.session_law.proofs.Arrivals.{Arrival, transport_if, arrival_if, arrivals}
use Rattle.session_law.proofs.Seen.{Seen, EndHears, EOpens, EDelivers, EAgain, ENak, EAcked, EDrops, ECloses, EClosesBy, end_hears}
use Rattle.session_law.proofs.Taken.{seen_of, or_anew}
use Rattle.session_law.proofs.Spoken.{LastMine}
use Rattle.session_law.proofs.Invariant.{LastIs, NotOpening, PhaseIs}
use Rattle.session_law.proofs.Books.{Books, empty, asks_book, gets_book, carries_book, again_book, books_after, books}
use Rattle.session_law.proofs.Counts.{Texts, IsOut, Counts, Opens, taken, confirms, hears, asks, goes_on}
use Rattle.session_law.proofs.Steps.{FlyMine, items, WorldInv, step_kept, group_step, fresh_inv, transport_alone}

abbrev pub CountsAt : World → Books → Type 0
CountsAt w b = Counts w.client.end w.client.sent w.client.accepted w.delivered w.given b.asked b.delivered b.given

pub record Holds (w : World) (b : Books) : Type 0 where
  pub kept : WorldInv w b
  pub counts : CountsAt w b

-- ---- the device gets a frame

end_opens : (me : IndAddr) (e c : DeviceEnd) (ds gs : Texts) (s : TransportFrame) (k : DeviceTook) → k ≡ took.Connected → EndHears me e ds gs s k c → s ≡ Connect
end_opens me e c ds gs s k q (EOpens t se ci) = se
end_opens me e c ds gs s k q (EDelivers t u x ce se ci) = absurd (cc)
end_opens me e c ds gs s k q (EAgain b n x se ne nx ex st ci) = absurd (cc)
end_opens me e c ds gs s k q (ENak b n x se ex st ci) = absurd (cc)
end_opens me e c ds gs s k q (EAcked t u a v older ce ge se ci) = absurd (cc)
end_opens me e c ds gs s k q (EDrops sc) = absurd (cc)
end_opens me e c ds gs s k q (ECloses sc) = absurd (cc)
end_opens me e c ds gs s k q (EClosesBy sc) = absurd (cc)

alone_by : (d : DeviceState) (frame : Ldata) (b : Bool) → (if b then connection_took d frame else took.Dropped) ≡ took.Connected → connection_took d frame ≡ took.Connected
alone_by d frame true h = h
alone_by d frame false h = absurd (cc)

-- a T_Connect of the client
opens_by : (w : World) (b : Books) (frame : Ldata) → WorldInv w b → frame.source ≡ w.me.raw → took_alone w.device frame ≡ took.Connected → frame_in frame.tpdu ≡ Connect
opens_by w b frame h f e =
    end_opens w.me w.device.connection _ b.delivered b.given (frame_in frame.tpdu) (connection_took w.device frame) (alone_by w.device frame (is_taken (took_of w.device frame) && not frame.group) e)
    (end_hears w.me (sender frame) w.device.connection b.delivered b.given w.now (frame_in frame.tpdu) f h.inv.side.connection)

-- a group telegram is for no connection
group_by : (k : DeviceTook) (taken group : Bool) → group ≡ true → (if taken && not group then k else took.Dropped) ≡ took.Dropped
group_by k true true e = refl
group_by k true false e = absurd (false≢true e)
group_by k false group e = refl

pub alone_group : (d : DeviceState) (frame : Ldata) → frame.group ≡ true → took_alone d frame ≡ took.Dropped
alone_group d frame g = group_by (connection_took d frame) (is_taken (took_of d frame)) frame.group g

opens_anew : (k : DeviceTook) (end : ClientEnd) (asked ds gs : Texts) → (k ≡ took.Connected → IsOut end) → Opens k end asked (or_anew k asked) ds gs
opens_anew took.Dropped end asked ds gs f = refl
opens_anew took.Connected end asked ds gs f = inl (refl, f refl)
opens_anew (took.Apdu apdu ack) end asked ds gs f = refl
opens_anew (took.Again ack) end asked ds gs f = refl
opens_anew (took.Nak nak) end asked ds gs f = refl
opens_anew took.Acked end asked ds gs f = refl
opens_anew (took.Closed answer) end asked ds gs f = refl

opens_again : (k : DeviceTook) (end : ClientEnd) (asked ds gs : Texts) → (k ≡ took.Connected → (ds ≡ []) × (gs ≡ [])) → Opens k end asked asked ds gs
opens_again took.Dropped end asked ds gs f = refl
opens_again took.Connected end asked ds gs f = let g = f refl in inr (refl, g.0, g.1)
opens_again (took.Apdu apdu ack) end asked ds gs f = refl
opens_again (took.Again ack) end asked ds gs f = refl
opens_again (took.Nak nak) end asked ds gs f = refl
opens_again took.Acked end asked ds gs f = refl
opens_again (took.Closed answer) end asked ds gs f = refl

-- a client in a session has no T_Connect on its way
out_by : (end : ClientEnd) (joined pending : Bool) (owed sent accepted asked : Texts) (fly : Option TransportFrame) (coming : List Arrival) (o : Seen) → fly ≡ Some Connect → PhaseIs end joined pending owed sent accepted asked fly coming o → IsOut end
out_by (Asked device) joined pending owed sent accepted asked fly coming o e h = tt
out_by (Up s) joined pending owed sent accepted asked fly coming o e h = subst (λ (z : Option TransportFrame). NotOpening z) e h.1.flies
out_by (Asking s q) joined pending owed sent accepted asked fly coming o e h = subst (λ (z : Option TransportFrame). NotOpening z) e h.1.flies
out_by (Awaiting s) joined pending owed sent accepted asked fly coming o e h = subst (λ (z : Option TransportFrame). NotOpening z) e h.1.flies
out_by Ended joined pending owed sent accepted asked fly coming o e h = tt

carries_counts : (w : World) (b : Books) (fl : Option Ldata) (outcome : Outcome) → w.flying ≡ fl → WorldInv w b → WorldInv (carries w fl outcome) (carries_book w b fl outcome) → CountsAt w b → CountsAt (carries w fl outcome) (carries_book w b fl outcome)
carries_counts w b None outcome e h n c = c
carries_counts w b (Some frame) outcome e h n c =
    let mine : (frame.group ≡ false) × (frame.source ≡ w.me.raw) = subst (λ (z : Option Ldata). FlyMine w.me z) e h.flying in
    let at : transport_if w.flying ≡ Some (frame_in frame.tpdu) = ap transport_if e ∙ ap (λ (z : TransportFrame). Some z) (transport_alone frame mine.0) in
    let out : took_alone w.device frame ≡ took.Connected → IsOut w.client.end
    = λ k. out_by w.client.end w.client.joined w.client.pending w.client.owed w.client.sent w.client.accepted b.asked (transport_if w.flying) (items w) (seen_of w.device b.delivered b.given) (at ∙ ap (λ (z : TransportFrame). Some z) (opens_by w b frame h mine.1 k)) h.inv.phase in
    taken w.device w.client.end w.client.sent w.client.accepted w.delivered w.given b.asked (or_anew (took_alone w.device frame) b.asked) b.delivered b.given c (took_alone w.device frame) outcome n.inv.whole
    (opens_anew (took_alone w.device frame) w.client.end b.asked b.delivered b.given out) n.inv.side.prefix

lost_counts : (w : World) (b : Books) (fl : Option Ldata) → CountsAt w b → CountsAt (carries_lost w fl) b
lost_counts w b None c = c
lost_counts w b (Some frame) c = c

gets_counts : (w : World) (b : Books) (frame : Ldata) → (took_alone w.device frame ≡ took.Connected → (b.delivered ≡ []) × (b.given ≡ [])) → WorldInv (gets w frame Whole) (gets_book w b frame Whole) → CountsAt w b → CountsAt (gets w frame Whole) (gets_book w b frame Whole)
gets_counts w b frame f n c =
    taken w.device w.client.end w.client.sent w.client.accepted w.delivered w.given b.asked b.asked b.delivered b.given c (took_alone w.device frame) Whole n.inv.whole
    (opens_again (took_alone w.device frame) w.client.end b.asked b.delivered b.given f) n.inv.side.prefix

never_connected : (k : DeviceTook) → k ≡ took.Dropped → k ≡ took.Connected → ⊥
never_connected k e f = let g : took.Dropped ≡ took.Connected = sym e ∙ f in cc

opening_of : (s : TransportFrame) (asked ds gs : Texts) → s ≡ Connect → LastIs (Some s) asked ds gs → (ds ≡ []) × (gs ≡ [])
opening_of s asked ds gs e h = let l : LastIs (Some Connect) asked ds gs = subst (λ (z : TransportFrame). LastIs (Some z) asked ds gs) e h in l.1

again_counts : (w : World) (b : Books) (fl : Option Ldata) → w.device.last ≡ fl → LastMine w.me fl → WorldInv w b → WorldInv (gets_again w fl) (again_book w b fl) → CountsAt w b → CountsAt (gets_again w fl) (again_book w b fl)
again_counts w b None e mine h n c = c
again_counts w b (Some frame) e (inl g) h n c = gets_counts w b frame (λ k. absurd (never_connected (took_alone w.device frame) (alone_group w.device frame g) k)) n c
again_counts w b (Some frame) e (inr mine) h n c =
    let at : transport_if w.device.last ≡ Some (frame_in frame.tpdu) = ap transport_if e ∙ ap (λ (z : TransportFrame). Some z) (transport_alone frame mine.0) in
    let last : LastIs (Some (frame_in frame.tpdu)) b.asked b.delivered b.given = subst (λ (z : Option TransportFrame). LastIs z b.asked b.delivered b.given) at h.inv.side.last_is in
    gets_counts w b frame (λ k. opening_of (frame_in frame.tpdu) b.asked b.delivered b.given (opens_by w b frame h mine.1 k) last) n c

-- ---- the client

asks_counts : (w : World) (b : Books) (apdu : List ℕ) (o : Option (List ℕ)) → client_sent w.client.end apdu ≡ o → CountsAt w b → CountsAt (asks_so w apdu o) (asks_book b apdu o)
asks_counts w b apdu None e c = c
asks_counts w b apdu (Some tpdu) e c = asks w.client.end (asks_so w apdu (Some tpdu)).client.end apdu tpdu w.client.sent w.client.accepted w.delivered w.given b.asked b.delivered b.given e c

repeated_out : (end : ClientEnd) (now : ℕ) (tpdu : List ℕ) → IsOut end → IsOut (after_overdue end now (over.Repeat tpdu))
unfolding after_overdue
repeated_out (Asked device) now tpdu h = tt
repeated_out (Up s) now tpdu h = h
repeated_out (Asking s q) now tpdu h = h
repeated_out (Awaiting s) now tpdu h = h
repeated_out Ended now tpdu h = tt

silent_out : (end : ClientEnd) (now ms : ℕ) → IsOut (after_overdue end now (over.Silent ms))
unfolding after_overdue
silent_out end now ms = tt

waits_counts : (w : World) (b : Books) (x : ClientExpired) → CountsAt w b → CountsAt (waits_so w x) b
waits_counts w b over.Nothing c = c
waits_counts w b (over.Repeat tpdu) c = goes_on w.client.end (waits_so w (over.Repeat tpdu)).client.end w.client.sent w.client.accepted w.delivered w.given b.asked b.delivered b.given (repeated_out w.client.end w.now tpdu) c
waits_counts w b (over.Silent ms) c = goes_on w.client.end (waits_so w (over.Silent ms)).client.end w.client.sent w.client.accepted w.delivered w.given b.asked b.delivered b.given (λ h. silent_out w.client.end w.now ms) c

stayed_out : (end : ClientEnd) (now : ℕ) → IsOut end → IsOut (client_stayed end now)
stayed_out (Asked device) now h = tt
stayed_out (Up s) now h = h
stayed_out (Asking s q) now h = h
stayed_out (Awaiting s) now h = h
stayed_out Ended now h = tt

replies_counts : (w : World) (b : Books) (l : Texts) → CountsAt w b → CountsAt (replies_so w l) b
replies_counts w b [] c = c
replies_counts w b (reply ∷ rest) c = goes_on w.client.end (client_stayed w.client.end w.now) w.client.sent w.client.accepted w.delivered w.given b.asked b.delivered b.given (stayed_out w.client.end w.now) c

takes_counts : (w : World) (b : Books) (l : List Message) → w.coming ≡ l → WorldInv w b → WorldInv (takes_oldest w l) b → CountsAt w b → CountsAt (takes_oldest w l) b
takes_counts w b [] e h n c = c
takes_counts w b (Con error ∷ rest) e h n c =
    let o : Seen = seen_of w.device b.delivered b.given in
    let P : List Message → Type 0 = λ l. PhaseIs w.client.end w.client.joined w.client.pending w.client.owed w.client.sent w.client.accepted b.asked (transport_if w.flying) (arrivals l ++ arrival_if (transport_if w.echo)) o in
    confirms w.client.joined w.client.pending w.client.owed w.client.sent w.client.accepted w.delivered w.given b.asked (transport_if w.flying) (arrivals rest ++ arrival_if (transport_if w.echo)) o w.now w.client.end error (subst P e h.inv.phase) c
takes_counts w b (Ind frame ∷ rest) e h n c =
    hears w.client.joined w.client.pending (takes_oldest w (Ind frame ∷ rest)).client.owed w.client.sent w.client.accepted w.delivered w.given b.asked (transport_if w.flying) (arrivals rest ++ arrival_if (transport_if w.echo)) (seen_of w.device b.delivered b.given) w.now
    w.client.end (frame_from (device_of w.client.end) frame) n.inv.phase c

leaves_it : (w : World) (b : Books) (after : ClientEnd) → IsOut after → CountsAt w b → Counts after w.client.sent w.client.accepted w.delivered w.given b.asked b.delivered b.given
leaves_it w b after out c = goes_on w.client.end after w.client.sent w.client.accepted w.delivered w.given b.asked b.delivered b.given (λ h. out) c

-- ---- each event

counts_step : (w : World) (b : Books) (e : Event) → MayHappen w e → WorldInv w b → WorldInv (step w e) (books_after w b e) → CountsAt w b → CountsAt (step w e) (books_after w b e)
counts_step w b Connects may h n c = leaves_it w b (Asked w.device.address) tt c
counts_step w b (Asks apdu) may h n c = asks_counts w b apdu (client_sent w.client.end apdu) refl c
counts_step w b Waits may h n c = waits_counts w b (client_expired w.client.end w.now) c
counts_step w b Replies may h n c = replies_counts w b w.client.owed c
counts_step w b Leaves may h n c = leaves_it w b Ended tt c
counts_step w b Takes may h n c = takes_counts w b w.coming refl h n c
counts_step w b Loses may h n c = leaves_it w b Ended tt c
counts_step w b (Joins k) may h n c = leaves_it w b Ended tt c
counts_step w b (Drops k) may h n c = c
counts_step w b (Bus outcome) may h n c = carries_counts w b w.flying outcome refl h n c
counts_step w b BusLost may h n c = lost_counts w b w.flying c
counts_step w b BusAgain may h n c = again_counts w b w.device.last refl h.last h n c
counts_step w b (Group frame) may h n c =
    gets_counts w b frame (λ k. absurd (never_connected (took_alone w.device frame) (alone_group w.device frame may) k)) (group_step w b frame may h) c
counts_step w b Elsewhere may h n c = c
counts_step w b (DevSend gateway) may h n c = c
counts_step w b (DevRepeat gateway) may h n c = c
counts_step w b DevClose may h n c = c
counts_step w b GwAgain may h n c = c
counts_step w b Cut may h n c = c
counts_step w b On may h n c = c
counts_step w b (Pass ms) may h n c = c

holds_step : (w : World) (b : Books) (e : Event) → MayHappen w e → Holds w b → Holds (step w e) (books_after w b e)
holds_step w b e may h =
    let n : WorldInv (step w e) (books_after w b e) = step_kept w b e may h.kept in
    record { kept = n; counts = counts_step w b e may h.kept n h.counts }

pub holds_fresh : (me : IndAddr) (d : DeviceState) → Holds (fresh me d) empty
holds_fresh me d = record { kept = fresh_inv me d; counts = record { delivered_first = ([], refl); accepted_first = ([], refl); which = inl (refl, refl) } }

pub always_holds : (start : World) (events : List Event) → Holds start empty → IsLegal start events → Holds (replay start events) (books start events)
always_holds start [] h legal = h
always_holds start (e ∷ events) h legal = holds_step (replay start events) (books start events) e legal.0 (always_holds start events h legal.1)

pub moments : (P : World → Type 0) (start : World) (events : List Event) → ((w : World) (b : Books) → Holds w b → P w) → Holds start empty → IsLegal start events → AtEveryMoment (λ past. P (replay start past)) events
moments P start [] f h legal = f start empty h
moments P start (e ∷ events) f h legal = (f (replay start (e ∷ events)) (books start (e ∷ events)) (always_holds start (e ∷ events) h legal), moments P start events f h legal.1)
