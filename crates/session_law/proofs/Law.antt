-- What both ends promise together.
use Rattle.knx_model.specs.declared.connection.DeviceTook.TheVariants as took
use Rattle.std.proofs.Common.{◌≡◌, ℕ, ◌⊎◌, List, [], ◌∷◌, Bool, true, false, not, ◌&&◌, Option, Some, None, refl, sym, ◌∙◌, ap, subst, inl, inr, if◌then◌else◌}
use Rattle.knx_model.specs.declared.address.IndAddr.{IndAddr}
use Rattle.knx_model.specs.declared.frames.cemi.Ldata.{Ldata}
use Rattle.knx_model.specs.declared.connection.TransportFrame.{TransportFrame}
use Rattle.knx_model.specs.declared.connection.DeviceTook.{DeviceTook}
use Rattle.knx_model.specs.Connection.{frame_in}
use Rattle.knx_model.specs.ClientConnection.{ClientEnd}
use Rattle.knx_model.specs.DeviceConnection.{DeviceEnd}
use Rattle.knx_model.specs.DeviceState.{DeviceState}
use Rattle.knx_model.specs.DeviceFrames.{took_of, is_taken, connection_took, sender}
use Rattle.session_law.specs.World.{World, fresh}
use Rattle.session_law.specs.Device.{took_alone, service_of}
use Rattle.session_law.specs.Events.{Event, Connects, Asks, Waits, Replies, Leaves, Takes, Loses, Joins, Drops, Bus, BusLost, BusAgain, Group, Elsewhere, DevSend, DevRepeat, DevClose, GwAgain, Cut, On, Pass, replay, IsLegal, AtEveryMoment}
use Rattle.session_law.specs.Promises.{InOrder, service_in_frame, ActsOnNext}
use Rattle.session_law.proofs.Arrivals.{transport_if}
use Rattle.session_law.proofs.Seen.{EndHears, EOpens, EDelivers, EAgain, ENak, EAcked, EDrops, ECloses, EClosesBy, end_hears}
use Rattle.session_law.proofs.Spoken.{LastMine}
use Rattle.session_law.proofs.Invariant.{FlyIs, LastIs, Ready}
use Rattle.session_law.proofs.Sides.{fly_ready, next_one, ready_numbered}
use Rattle.session_law.proofs.Books.{Books}
use Rattle.session_law.proofs.Counts.{Texts, Counts}
use Rattle.session_law.proofs.Steps.{FlyMine, transport_alone}
use Rattle.session_law.proofs.Counted.{Holds, alone_group, holds_fresh, moments}

-- ---- what it promises

in_order : (w : World) (b : Books) → Holds w b → InOrder w
in_order w b h = record { delivered = h.counts.delivered_first; accepted = h.counts.accepted_first }

pub law : (me : IndAddr) (d : DeviceState) (events : List Event) → IsLegal (fresh me d) events → AtEveryMoment (λ past. InOrder (replay (fresh me d) past)) events
law me d events legal = moments InOrder (fresh me d) events in_order (holds_fresh me d) legal

-- ---- what it acts on

end_delivers : (me : IndAddr) (e c : DeviceEnd) (asked ds gs : List (List ℕ)) (s : TransportFrame) (k : DeviceTook) (apdu ack : List ℕ) → Ready s asked ds → k ≡ took.Apdu apdu ack → EndHears me e ds gs s k c → asked ≡ apdu ∷ ds
end_delivers me e c asked ds gs s k apdu ack r q (EOpens t se ci) = absurd (cc)
end_delivers me e c asked ds gs s k apdu ack r q (EDelivers t u x ce se ci) =
    let same : x ≡ apdu = cc in
    subst (λ (z : List ℕ). asked ≡ z ∷ ds) same (next_one asked ds x (ready_numbered s _ x asked ds se r))
end_delivers me e c asked ds gs s k apdu ack r q (EAgain b n x se ne nx ex st ci) = absurd (cc)
end_delivers me e c asked ds gs s k apdu ack r q (ENak b n x se ex st ci) = absurd (cc)
end_delivers me e c asked ds gs s k apdu ack r q (EAcked t u a v older ce ge se ci) = absurd (cc)
end_delivers me e c asked ds gs s k apdu ack r q (EDrops sc) = absurd (cc)
end_delivers me e c asked ds gs s k apdu ack r q (ECloses sc) = absurd (cc)
end_delivers me e c asked ds gs s k apdu ack r q (EClosesBy sc) = absurd (cc)

would_by : (d : DeviceState) (frame : Ldata) (b : Bool) (apdu ack : List ℕ) → (if b then connection_took d frame else took.Dropped) ≡ took.Apdu apdu ack → connection_took d frame ≡ took.Apdu apdu ack
would_by d frame true apdu ack h = h
would_by d frame false apdu ack h = absurd (cc)

service_is : (k : DeviceTook) (apdu : List ℕ) → service_of k ≡ Some apdu → (ack : List ℕ) × (k ≡ took.Apdu apdu ack)
service_is took.Dropped apdu e = absurd (cc)
service_is took.Connected apdu e = absurd (cc)
service_is (took.Apdu x ack) apdu e = let same : x ≡ apdu = cc in (ack, ap (λ (z : List ℕ). took.Apdu z ack) same)
service_is (took.Again ack) apdu e = absurd (cc)
service_is (took.Nak nak) apdu e = absurd (cc)
service_is took.Acked apdu e = absurd (cc)
service_is (took.Closed answer) apdu e = absurd (cc)

next_by : (end : ClientEnd) (sent accepted delivered given asked ds gs : Texts) (apdu : List ℕ) → Counts end sent accepted delivered given asked ds gs → (asked ≡ sent) ⊎ (asked ≡ []) → asked ≡ apdu ∷ ds → sent ≡ apdu ∷ delivered
next_by end sent accepted delivered given asked ds gs apdu c (inr e) h = absurd (let g : [] ≡ apdu ∷ ds = sym e ∙ h in cc)
next_by end sent accepted delivered given asked ds gs apdu c (inl e) h =
    elim c.which [ inl w ↦ sym e ∙ h ∙ ap (λ (z : Texts). apdu ∷ z) w.0 | inr w ↦ absurd (let g : [] ≡ apdu ∷ ds = sym w.0 ∙ h in cc) ]

delivers_one : (w : World) (b : Books) (frame : Ldata) (apdu : List ℕ) → Holds w b → frame.source ≡ w.me.raw → Ready (frame_in frame.tpdu) b.asked b.delivered → service_of (took_alone w.device frame) ≡ Some apdu → w.client.sent ≡ apdu ∷ w.delivered
delivers_one w b frame apdu h f r e =
    let s : (ack : List ℕ) × (took_alone w.device frame ≡ took.Apdu apdu ack) = service_is (took_alone w.device frame) apdu e in
    let k : connection_took w.device frame ≡ took.Apdu apdu s.0 = would_by w.device frame (is_taken (took_of w.device frame) && not frame.group) apdu s.0 s.1 in
    next_by w.client.end w.client.sent w.client.accepted w.delivered w.given b.asked b.delivered b.given apdu h.counts h.kept.inv.whole
    (end_delivers w.me w.device.connection _ b.asked b.delivered b.given (frame_in frame.tpdu) (connection_took w.device frame) apdu s.0 r k
    (end_hears w.me (sender frame) w.device.connection b.delivered b.given w.now (frame_in frame.tpdu) f h.kept.inv.side.connection))

bus_next : (w : World) (b : Books) (fl : Option Ldata) (apdu : List ℕ) → w.flying ≡ fl → Holds w b → service_in_frame w.device fl ≡ Some apdu → w.client.sent ≡ apdu ∷ w.delivered
bus_next w b None apdu e h is = absurd (cc)
bus_next w b (Some frame) apdu e h is =
    let mine : (frame.group ≡ false) × (frame.source ≡ w.me.raw) = subst (λ (z : Option Ldata). FlyMine w.me z) e h.kept.flying in
    let at : transport_if w.flying ≡ Some (frame_in frame.tpdu) = ap transport_if e ∙ ap (λ (z : TransportFrame). Some z) (transport_alone frame mine.0) in
    let fly : FlyIs (Some (frame_in frame.tpdu)) b.asked = subst (λ (z : Option TransportFrame). FlyIs z b.asked) at h.kept.inv.side.fly_is in
    delivers_one w b frame apdu h mine.1 (fly_ready (frame_in frame.tpdu) b.asked b.delivered h.kept.inv.side.prefix h.kept.inv.side.one fly) is

group_none : (d : DeviceState) (frame : Ldata) (apdu : List ℕ) → frame.group ≡ true → service_of (took_alone d frame) ≡ Some apdu → ⊥
group_none d frame apdu g e = let h : None ≡ Some apdu = ap service_of (sym (alone_group d frame g)) ∙ e in cc

again_next : (w : World) (b : Books) (fl : Option Ldata) (apdu : List ℕ) → w.device.last ≡ fl → LastMine w.me fl → Holds w b → service_in_frame w.device fl ≡ Some apdu → w.client.sent ≡ apdu ∷ w.delivered
again_next w b None apdu e mine h is = absurd (cc)
again_next w b (Some frame) apdu e (inl g) h is = absurd (group_none w.device frame apdu g is)
again_next w b (Some frame) apdu e (inr mine) h is =
    let at : transport_if w.device.last ≡ Some (frame_in frame.tpdu) = ap transport_if e ∙ ap (λ (z : TransportFrame). Some z) (transport_alone frame mine.0) in
    let last : LastIs (Some (frame_in frame.tpdu)) b.asked b.delivered b.given = subst (λ (z : Option TransportFrame). LastIs z b.asked b.delivered b.given) at h.kept.inv.side.last_is in
    delivers_one w b frame apdu h mine.1 last.0 is

acts_next : (w : World) (b : Books) → Holds w b → ActsOnNext w
acts_next w b h Connects apdu may e = absurd (cc)
acts_next w b h (Asks x) apdu may e = absurd (cc)
acts_next w b h Waits apdu may e = absurd (cc)
acts_next w b h Replies apdu may e = absurd (cc)
acts_next w b h Leaves apdu may e = absurd (cc)
acts_next w b h Takes apdu may e = absurd (cc)
acts_next w b h Loses apdu may e = absurd (cc)
acts_next w b h (Joins n) apdu may e = absurd (cc)
acts_next w b h (Drops n) apdu may e = absurd (cc)
acts_next w b h (Bus outcome) apdu may e = bus_next w b w.flying apdu refl h e
acts_next w b h BusLost apdu may e = absurd (cc)
acts_next w b h BusAgain apdu may e = again_next w b w.device.last apdu refl h.kept.last h e
acts_next w b h (Group frame) apdu may e = absurd (group_none w.device frame apdu may e)
acts_next w b h Elsewhere apdu may e = absurd (cc)
acts_next w b h (DevSend gateway) apdu may e = absurd (cc)
acts_next w b h (DevRepeat gateway) apdu may e = absurd (cc)
acts_next w b h DevClose apdu may e = absurd (cc)
acts_next w b h GwAgain apdu may e = absurd (cc)
acts_next w b h Cut apdu may e = absurd (cc)
acts_next w b h On apdu may e = absurd (cc)
acts_next w b h (Pass ms) apdu may e = absurd (cc)

pub next_law : (me : IndAddr) (d : DeviceState) (events : List Event) → IsLegal (fresh me d) events → AtEveryMoment (λ past. ActsOnNext (replay (fresh me d) past)) events
next_law me d events legal = moments ActsOnNext (fresh me d) events acts_next (holds_fresh me d) legal
