-- What a frame that comes leaves of a device, as far as a session sees it.
use Rattle.knx_model.specs.declared.frames.tpdu.Tpdu.TheVariants as tpdu
use Rattle.knx_model.specs.declared.connection.DeviceTook.TheVariants as took
use Rattle.std.proofs.Common.{◌≡◌, ℕ, ◌+◌, ◌%◌, ◌<◌, List, [], ◌∷◌, ◌++◌, length, Bool, true, false, not, ◌&&◌, Option, Some, None, refl, sym, ◌∙◌, ap, subst, arith, append-nil, if◌then◌else◌}
use Rattle.knx_model.specs.declared.address.IndAddr.{IndAddr}
use Rattle.knx_model.specs.declared.device.FrameSupport.{FrameSupport}
use Rattle.knx_model.specs.declared.config.Image.{Image}
use Rattle.knx_model.specs.declared.frames.cemi.Ldata.{Ldata}
use Rattle.knx_model.specs.declared.frames.value.Value.{Value}
use Rattle.knx_model.specs.declared.script.GroupService.{GroupService}
use Rattle.knx_model.specs.declared.script.GroupService.TheVariants.{Read, Write, Response}
use Rattle.knx_model.specs.declared.connection.TransportFrame.{TransportFrame}
use Rattle.knx_model.specs.declared.connection.TransportFrame.TheVariants.{Connect, Disconnect, Ack, Nak, Numbered, Other}
use Rattle.knx_model.specs.declared.connection.DeviceTook.{DeviceTook}
use Rattle.knx_model.specs.declared.device.Took.{Took}
use Rattle.knx_model.specs.declared.device.Took.TheVariants.{NotMine, TooLong, Taken, Off}
use Rattle.knx_model.specs.Acts.{answerer}
use Rattle.knx_model.specs.Apdu.{Written}
use Rattle.knx_model.specs.ApduReading.{service_in}
use Rattle.knx_model.specs.Connection.{frame_in, numbered_data, disconnect, Session, at_time}
use Rattle.knx_model.specs.DeviceConnection.{Outstanding, DeviceEnd, Closed, Idle, Answering, device_after, device_answered, after_answer, first_answer}
use Rattle.knx_model.specs.Device.{NonVolatile, runs, effect_in, answer_in}
use Rattle.knx_model.specs.DeviceState.{DeviceState, cut, moved, value_of}
use Rattle.knx_model.specs.DeviceFrames.{Outcome, Whole, Torn, Worn, own_frame, queued_to, with_answer, acted, kept_after, taken_alone, taken_group, telegram_acted, telegram_taken, answered_by, with_response, took_of, takes_so, takes, is_taken, connection_took, sender, group_service}
use Rattle.session_law.specs.Device.{took_alone}
use Rattle.session_law.proofs.Arrivals.{Arrival, Frame, transport, transport_if, unsent_arrivals, unsent_append, Plain, IsntConnect}
use Rattle.session_law.proofs.Frames.{numbered_read, disconnect_read, ack_read, nak_read}
use Rattle.session_law.proofs.Apdus.{answer_is_apdu}
use Rattle.session_law.proofs.Seen.{Seen, ConnIs, extra, EndHears, EOpens, EDelivers, EAgain, ENak, EAcked, EDrops, ECloses, EClosesBy, Stays, end_hears}

abbrev pub seen_as : DeviceState → Option TransportFrame → List (List ℕ) → List (List ℕ) → Seen
seen_as d last ds gs = record { frames = d.frames; connection = d.connection; unsent = unsent_arrivals d.unsent; last = last; delivered = ds; given = gs; kept = d.kept }

abbrev pub seen_of : DeviceState → List (List ℕ) → List (List ℕ) → Seen
seen_of d ds gs = seen_as d (transport_if d.last) ds gs

abbrev pub cut_seen : Seen → Seen
cut_seen n = record { frames = n.frames; connection = Closed; unsent = []; last = None; delivered = n.delivered; given = n.given; kept = n.kept }

-- ---- what the device delivered and gave since its own last T_Connect

abbrev pub is_torn : Outcome → Bool
is_torn Whole = false
is_torn (Torn fresh octets) = true
is_torn (Worn octets) = false

abbrev pub and_delivered : Bool → DeviceTook → List (List ℕ) → List (List ℕ)
and_delivered torn took.Connected log = []
and_delivered true (took.Apdu apdu ack) log = log
and_delivered false (took.Apdu apdu ack) log = apdu ∷ log
and_delivered torn _ log = log

abbrev pub and_octets : Option (List ℕ) → List (List ℕ) → List (List ℕ)
and_octets None log = log
and_octets (Some octets) log = octets ∷ log

abbrev pub and_given : Bool → FrameSupport → NonVolatile → DeviceTook → List (List ℕ) → List (List ℕ)
and_given torn frames kept took.Connected log = []
and_given true frames kept (took.Apdu apdu ack) log = log
and_given false frames kept (took.Apdu apdu ack) log = and_octets (answer_in frames kept apdu) log
and_given torn frames kept _ log = log

abbrev pub or_anew : DeviceTook → List (List ℕ) → List (List ℕ)
or_anew took.Connected log = []
or_anew _ log = log

-- a number that a frame of the client has is small
abbrev pub IsSmall : TransportFrame → Type 0
IsSmall Connect = Unit {0}
IsSmall Disconnect = Unit {0}
IsSmall (Ack n) = Unit {0}
IsSmall (Nak n) = Unit {0}
IsSmall (Numbered n apdu) = n < 16
IsSmall Other = Unit {0}

-- what a frame that is taken leaves, and whether it opened the connection
pub data Hears (me : IndAddr) (outcome : Outcome) (s : TransportFrame) (o : Seen) : Bool → Seen → Type 0 where
  HOpens : (t : Session) → s ≡ Connect → ConnIs me (Idle t) [] [] → Hears me outcome s o true (record { frames = o.frames; connection = Idle t; unsent = []; last = Some s; delivered = []; given = []; kept = o.kept })
  HDelivers : (u : Session) (apdu : List ℕ) (l : List Arrival) → extra o.connection ≡ 0 → s ≡ Numbered (length o.delivered % 16) apdu → ConnIs me (Idle u) (apdu ∷ o.delivered) o.given → l ≡ o.unsent ++ Frame (Ack (length o.delivered % 16)) ∷ []
      → answer_in o.frames o.kept apdu ≡ None
      → Hears me outcome s o false (record { frames = o.frames; connection = Idle u; unsent = l; last = Some s; delivered = apdu ∷ o.delivered; given = o.given; kept = kept_after o.kept (effect_in apdu) outcome })
  HAnswers : (u : Session) (a : Outstanding) (apdu v : List ℕ) (l : List Arrival) → extra o.connection ≡ 0 → s ≡ Numbered (length o.delivered % 16) apdu → ConnIs me (Answering u a) (apdu ∷ o.delivered) (v ∷ o.given)
      → l ≡ (o.unsent ++ Frame (Ack (length o.delivered % 16)) ∷ []) ++ Frame (Numbered (length o.given % 16) v) ∷ []
      → answer_in o.frames o.kept apdu ≡ Some v
      → Hears me outcome s o false (record { frames = o.frames; connection = Answering u a; unsent = l; last = Some s; delivered = apdu ∷ o.delivered; given = v ∷ o.given; kept = kept_after o.kept (effect_in apdu) outcome })
  HAgain : (c : DeviceEnd) (n : ℕ) (apdu : List ℕ) (l : List Arrival) → s ≡ Numbered n apdu → (n ≡ length o.delivered % 16 → ⊥) → (n + 1) % 16 ≡ length o.delivered % 16 → extra c ≡ extra o.connection → ConnIs me c o.delivered o.given → l ≡ o.unsent ++ Frame (Ack n) ∷ []
      → Stays o.connection c → Hears me outcome s o false (record { frames = o.frames; connection = c; unsent = l; last = Some s; delivered = o.delivered; given = o.given; kept = o.kept })
  HSpeaks : (c : DeviceEnd) (k l : List Arrival) → IsntConnect s → Plain k → extra c ≡ extra o.connection → ConnIs me c o.delivered o.given → l ≡ o.unsent ++ k → Stays o.connection c
      → Hears me outcome s o false (record { frames = o.frames; connection = c; unsent = l; last = Some s; delivered = o.delivered; given = o.given; kept = o.kept })
  HAcked : (u : Session) (v : List ℕ) (older : List (List ℕ)) → extra o.connection ≡ 1 → o.given ≡ v ∷ older → s ≡ Ack (length older % 16) → ConnIs me (Idle u) o.delivered o.given → (o.connection ≡ Closed → ⊥)
      → Hears me outcome s o false (record { frames = o.frames; connection = Idle u; unsent = o.unsent; last = Some s; delivered = o.delivered; given = o.given; kept = o.kept })
  HCloses : (k l : List Arrival) → IsntConnect s → Plain k → l ≡ o.unsent ++ k → Hears me outcome s o false (record { frames = o.frames; connection = Closed; unsent = l; last = Some s; delivered = o.delivered; given = o.given; kept = o.kept })

-- a power cut leaves what is kept, and nothing is counted
abbrev pub torn_seen : Bool → Seen → Seen → Seen
torn_seen opens o n = record { frames = n.frames; connection = Closed; unsent = []; last = None; delivered = if opens then [] else o.delivered; given = if opens then [] else o.given; kept = n.kept }

-- whether it opened the connection, and whether it was taken
pub data Got (me : IndAddr) (outcome : Outcome) (s : TransportFrame) (o : Seen) : Bool → Bool → Seen → Type 0 where
  GNot : Got me outcome s o false false o
  GWhole : (b : Bool) (n : Seen) → Hears me outcome s o b n → is_torn outcome ≡ false → Got me outcome s o b true n
  GTorn : (b : Bool) (n : Seen) → Hears me outcome s o b n → Got me outcome s o b true (torn_seen b o n)

pub one_more : (l : List Ldata) (f : Ldata) (t : TransportFrame) → transport f ≡ t → unsent_arrivals (l ++ f ∷ []) ≡ unsent_arrivals l ++ Frame t ∷ []
one_more l f t h = unsent_append l (f ∷ []) ∙ ap (λ (z : TransportFrame). unsent_arrivals l ++ Frame z ∷ []) h

-- a service that is delivered
delivers_by : (me from : IndAddr) (d : DeviceState) (t u : Session) (apdu : List ℕ) (ds gs : List (List ℕ)) (now : ℕ) (outcome : Outcome) (s : TransportFrame) (o : Option (List ℕ)) → answer_in d.frames d.kept apdu ≡ o
    → d.connection ≡ Idle t → s ≡ Numbered (length ds % 16) apdu → ConnIs me (Idle u) (apdu ∷ ds) gs
    → Hears me outcome s (seen_of d ds gs) false (seen_as (with_answer (moved (queued_to (record d { connection = Idle u }) from (Written (tpdu.Ack (length ds % 16)))) (kept_after d.kept (effect_in apdu) outcome)) from now o) (Some s) (apdu ∷ ds) (and_octets o gs))
unfolding after_answer device_answered
delivers_by me from d t u apdu ds gs now outcome s None is e se c =
    HDelivers u apdu _ (ap extra e) se c (one_more d.unsent (own_frame d.address false from.raw (Written (tpdu.Ack (length ds % 16)))) (Ack (length ds % 16)) (ack_read (length ds % 16) (omega arith))) is
delivers_by me from d t u apdu ds gs now outcome s (Some v) is e se c =
    let small : u.number < 16 = omega (arith, c.2) in
    let read : frame_in (numbered_data u.number v) ≡ Numbered (length gs % 16) v = numbered_read u.number v small (answer_is_apdu d.frames d.kept apdu v is) ∙ ap (λ (k : ℕ). Numbered k v) c.2 in
    let first : unsent_arrivals (d.unsent ++ own_frame d.address false from.raw (Written (tpdu.Ack (length ds % 16))) ∷ []) ≡ unsent_arrivals d.unsent ++ Frame (Ack (length ds % 16)) ∷ []
    = one_more d.unsent (own_frame d.address false from.raw (Written (tpdu.Ack (length ds % 16)))) (Ack (length ds % 16)) (ack_read (length ds % 16) (omega arith)) in
    HAnswers (at_time u now) (first_answer (numbered_data u.number v) now) apdu v _ (ap extra e) se (c.0, c.1, c.2, read)
    (one_more (d.unsent ++ own_frame d.address false from.raw (Written (tpdu.Ack (length ds % 16))) ∷ []) (own_frame d.address false from.raw (numbered_data u.number v)) (Numbered (length gs % 16) v) read
    ∙ ap (λ (z : List Arrival). z ++ Frame (Numbered (length gs % 16) v) ∷ []) first) is

abbrev pub Anew : DeviceTook → Bool → Type 0
Anew k opens = (log : List (List ℕ)) → or_anew k log ≡ (if opens then [] else log)

number_of : (s : TransportFrame) (n : ℕ) (apdu : List ℕ) → s ≡ Numbered n apdu → IsSmall s → n < 16
number_of s n apdu e h = subst (λ (z : TransportFrame). IsSmall z) e h

not_connect : (s : TransportFrame) (n : ℕ) (apdu : List ℕ) → s ≡ Numbered n apdu → IsntConnect s
not_connect s n apdu e = subst (λ (z : TransportFrame). IsntConnect z) (sym e) tt

hears_by : (me from : IndAddr) (d : DeviceState) (c : DeviceEnd) (ds gs : List (List ℕ)) (now : ℕ) (outcome : Outcome) (s : TransportFrame) (k : DeviceTook) → IsSmall s → ConnIs me d.connection ds gs → EndHears me d.connection ds gs s k c
    → (opens : Bool) × Hears me outcome s (seen_of d ds gs) opens (seen_as (acted (record d { connection = c }) from now outcome k) (Some s) (and_delivered false k ds) (and_given false d.frames d.kept k gs)) × Anew k opens
hears_by me from d c ds gs now outcome s k small is (EOpens t e h) = (true, HOpens t e h, λ log. refl)
hears_by me from d c ds gs now outcome s k small is (EDelivers t u apdu ce se ci) = (false, delivers_by me from d t u apdu ds gs now outcome s (answer_in d.frames d.kept apdu) refl ce se ci, λ log. refl)
hears_by me from d c ds gs now outcome s k small is (EAgain b n apdu se ne nx ex st ci) =
    (false, HAgain b n apdu _ se ne nx ex ci (one_more d.unsent (own_frame d.address false from.raw (Written (tpdu.Ack n))) (Ack n) (ack_read n (number_of s n apdu se small))) st, λ log. refl)
hears_by me from d c ds gs now outcome s k small is (ENak b n apdu se ex st ci) =
    (false, HSpeaks b (Frame (Nak n) ∷ []) _ (not_connect s n apdu se) ((tt, tt, tt), tt) ex ci (one_more d.unsent (own_frame d.address false from.raw (Written (tpdu.Nak n))) (Nak n) (nak_read n (number_of s n apdu se small))) st, λ log. refl)
hears_by me from d c ds gs now outcome s k small is (EAcked t u a v older ce ge se ci) = (false, HAcked u v older (ap extra ce) ge se ci (λ z. let q : Answering t a ≡ Closed = sym ce ∙ z in cc), λ log. refl)
hears_by me from d c ds gs now outcome s k small is (EDrops sc) = (false, HSpeaks d.connection [] _ sc tt refl is (sym (append-nil (unsent_arrivals d.unsent))) (λ z. z), λ log. refl)
hears_by me from d c ds gs now outcome s k small is (ECloses sc) = (false, HCloses [] _ sc tt (sym (append-nil (unsent_arrivals d.unsent))), λ log. refl)
hears_by me from d c ds gs now outcome s k small is (EClosesBy sc) =
    (false, HCloses (Frame Disconnect ∷ []) _ sc ((tt, tt, tt), tt) (one_more d.unsent (own_frame d.address false from.raw disconnect) Disconnect disconnect_read), λ log. refl)

-- a frame for this device alone, of the client
alone : (me : IndAddr) (d : DeviceState) (frame : Ldata) (now : ℕ) (outcome : Outcome) (ds gs : List (List ℕ)) → frame.source ≡ me.raw → IsSmall (frame_in frame.tpdu) → ConnIs me d.connection ds gs
    → (opens : Bool) × Hears me outcome (frame_in frame.tpdu) (seen_of d ds gs) opens (seen_as (taken_alone d frame now outcome) (Some (frame_in frame.tpdu)) (and_delivered false (connection_took d frame) ds) (and_given false d.frames d.kept (connection_took d frame) gs)) × Anew (connection_took d frame) opens
alone me d frame now outcome ds gs f small is =
    hears_by me (sender frame) d (device_after d.connection (sender frame) now (connection_took d frame)) ds gs now outcome (frame_in frame.tpdu) (connection_took d frame) small is
    (end_hears me (sender frame) d.connection ds gs now (frame_in frame.tpdu) f is)

abbrev alone_so : DeviceState → Ldata → Took → DeviceTook
alone_so d frame t = if is_taken t && not frame.group then connection_took d frame else took.Dropped

abbrev GotSo : IndAddr → DeviceState → Ldata → ℕ → Outcome → List (List ℕ) → List (List ℕ) → TransportFrame → Took → Type 0
GotSo me d frame now outcome ds gs s t =
    (opens : Bool) × Got me outcome s (seen_of d ds gs) opens (is_taken t) (seen_of (takes_so d frame now outcome t) (and_delivered (is_torn outcome) (alone_so d frame t) ds) (and_given (is_torn outcome) d.frames d.kept (alone_so d frame t) gs)) × Anew (alone_so d frame t) opens

-- what isn't counted where it was torn
torn_log : (frames : FrameSupport) (kept : NonVolatile) (k : DeviceTook) (opens : Bool) (ds gs : List (List ℕ)) → Anew k opens → (and_delivered true k ds ≡ (if opens then [] else ds)) × (and_given true frames kept k gs ≡ (if opens then [] else gs))
torn_log frames kept took.Dropped opens ds gs h = (h ds, h gs)
torn_log frames kept took.Connected opens ds gs h = (h ds, h gs)
torn_log frames kept (took.Apdu apdu ack) opens ds gs h = (h ds, h gs)
torn_log frames kept (took.Again ack) opens ds gs h = (h ds, h gs)
torn_log frames kept (took.Nak nak) opens ds gs h = (h ds, h gs)
torn_log frames kept took.Acked opens ds gs h = (h ds, h gs)
torn_log frames kept (took.Closed answer) opens ds gs h = (h ds, h gs)

torn_by : (me : IndAddr) (d : DeviceState) (frame : Ldata) (now : ℕ) (fresh : Bool) (octets : List ℕ) (ds gs : List (List ℕ)) (k : DeviceTook) (opens : Bool) → Anew k opens
    → Hears me (Torn fresh octets) (frame_in frame.tpdu) (seen_of d ds gs) opens (seen_as (taken_alone d frame now (Torn fresh octets)) (Some (frame_in frame.tpdu)) (and_delivered false k ds) (and_given false d.frames d.kept k gs))
    → Got me (Torn fresh octets) (frame_in frame.tpdu) (seen_of d ds gs) opens true (seen_as (cut (record (taken_alone d frame now (Torn fresh octets)) { last = Some frame })) None (and_delivered true k ds) (and_given true d.frames d.kept k gs))
torn_by me d frame now fresh octets ds gs k opens an h =
    let l = torn_log d.frames d.kept k opens ds gs an in
    let G : List (List ℕ) → List (List ℕ) → Type 0 = λ x y. Got me (Torn fresh octets) (frame_in frame.tpdu) (seen_of d ds gs) opens true (seen_as (cut (record (taken_alone d frame now (Torn fresh octets)) { last = Some frame })) None x y) in
    subst (λ (x : List (List ℕ)). G x (and_given true d.frames d.kept k gs)) (sym l.0) (subst (λ (y : List (List ℕ)). G (if opens then [] else ds) y) (sym l.1) (GTorn opens _ h))

got_mine_so : (me : IndAddr) (d : DeviceState) (frame : Ldata) (now : ℕ) (outcome : Outcome) (ds gs : List (List ℕ)) → frame.group ≡ false → frame.source ≡ me.raw → IsSmall (frame_in frame.tpdu) → ConnIs me d.connection ds gs
    → (t : Took) → GotSo me d frame now outcome ds gs (frame_in frame.tpdu) t
got_mine_so me d frame now Whole ds gs g f small is Taken = let h = alone me d frame now Whole ds gs f small is in rw g (h.0, GWhole h.0 _ h.1 refl, h.2)
got_mine_so me d frame now (Torn fresh octets) ds gs g f small is Taken = let h = alone me d frame now (Torn fresh octets) ds gs f small is in rw g (h.0, torn_by me d frame now fresh octets ds gs (connection_took d frame) h.0 h.2 h.1, h.2)
got_mine_so me d frame now (Worn octets) ds gs g f small is Taken = let h = alone me d frame now (Worn octets) ds gs f small is in rw g (h.0, GWhole h.0 _ h.1 refl, h.2)
got_mine_so me d frame now outcome ds gs g f small is NotMine = (false, GNot, λ log. refl)
got_mine_so me d frame now outcome ds gs g f small is TooLong = (false, GNot, λ log. refl)
got_mine_so me d frame now outcome ds gs g f small is Off = (false, GNot, λ log. refl)

abbrev pub GotIs : IndAddr → DeviceState → Ldata → ℕ → Outcome → List (List ℕ) → List (List ℕ) → TransportFrame → Type 0
GotIs me d frame now outcome ds gs s =
    (opens : Bool) × Got me outcome s (seen_of d ds gs) opens (is_taken (took_of d frame)) (seen_of (takes d frame now outcome) (and_delivered (is_torn outcome) (took_alone d frame) ds) (and_given (is_torn outcome) d.frames d.kept (took_alone d frame) gs)) × Anew (took_alone d frame) opens

pub got_mine : (me : IndAddr) (d : DeviceState) (frame : Ldata) (now : ℕ) (outcome : Outcome) (ds gs : List (List ℕ)) → frame.group ≡ false → frame.source ≡ me.raw → IsSmall (frame_in frame.tpdu) → ConnIs me d.connection ds gs
    → GotIs me d frame now outcome ds gs (frame_in frame.tpdu)
got_mine me d frame now outcome ds gs g f small is = got_mine_so me d frame now outcome ds gs g f small is (took_of d frame)

-- ---- group telegrams

-- the connection stays, and at most a group telegram joins
abbrev pub Leaves : DeviceState → DeviceState → Type 0
Leaves d e = (◌≡◌ {A = DeviceEnd} e.connection d.connection) × (◌≡◌ {A = NonVolatile} e.kept d.kept) × ((k : List Arrival) × Plain k × (unsent_arrivals e.unsent ≡ unsent_arrivals d.unsent ++ k)) × (◌≡◌ {A = FrameSupport} e.frames d.frames)

stays : (d : DeviceState) → (k : List Arrival) × Plain k × (unsent_arrivals d.unsent ≡ unsent_arrivals d.unsent ++ k)
stays d = ([], tt, sym (append-nil (unsent_arrivals d.unsent)))

responds : (d : DeviceState) (group : ℕ) (value : Option Value) → Leaves d (with_response d group value)
responds d group None = (refl, refl, stays d, refl)
responds d group (Some value) = (refl, refl, (Frame Other ∷ [], ((tt, tt, tt), tt), unsent_append d.unsent _), refl)

answers : (d : DeviceState) (group : ℕ) (object : Option ℕ) → Leaves d (answered_by d group object)
answers d group None = (refl, refl, stays d, refl)
answers d group (Some o) = responds d group (value_of d o)

tells : (d : DeviceState) (image : Image) (group : ℕ) (service : GroupService) → Leaves d (telegram_acted d image group service)
tells d image group Read = answers d group (answerer image group Read)
tells d image group (Write value) = (refl, refl, stays d, refl)
tells d image group (Response value) = (refl, refl, stays d, refl)

pub tells_if : (d : DeviceState) (group : ℕ) (image : Option Image) (service : Option GroupService) → Leaves d (telegram_taken d group image service)
tells_if d group None service = (refl, refl, stays d, refl)
tells_if d group (Some image) None = (refl, refl, stays d, refl)
tells_if d group (Some image) (Some service) = tells d image group service

got_group_so : (me : IndAddr) (d : DeviceState) (frame : Ldata) (now : ℕ) (ds gs : List (List ℕ)) → frame.group ≡ true → ConnIs me d.connection ds gs → (t : Took) → GotSo me d frame now Whole ds gs Other t
got_group_so me d frame now ds gs g is Taken =
    let h : Leaves d (taken_group d frame) = tells_if d frame.destination (runs d.kept) (group_service (service_in frame.tpdu)) in
    let P : FrameSupport → NonVolatile → Type 0 = λ y z. Hears me Whole Other (seen_of d ds gs) false (record { frames = y; connection = (taken_group d frame).connection; unsent = unsent_arrivals (taken_group d frame).unsent; last = Some Other; delivered = ds; given = gs; kept = z }) in
    rw g (false, GWhole false _ (subst (λ (y : FrameSupport). P y (taken_group d frame).kept) (sym h.3) (subst (P d.frames) (sym h.1) (HSpeaks (taken_group d frame).connection h.2.0 _ tt h.2.1 (ap extra h.0) (subst (λ (c : DeviceEnd). ConnIs me c ds gs) (sym h.0) is) h.2.2 (λ z. h.0 ∙ z)))) refl, λ log. refl)
got_group_so me d frame now ds gs g is NotMine = (false, GNot, λ log. refl)
got_group_so me d frame now ds gs g is TooLong = (false, GNot, λ log. refl)
got_group_so me d frame now ds gs g is Off = (false, GNot, λ log. refl)

pub got_group : (me : IndAddr) (d : DeviceState) (frame : Ldata) (now : ℕ) (ds gs : List (List ℕ)) → frame.group ≡ true → ConnIs me d.connection ds gs → GotIs me d frame now Whole ds gs Other
got_group me d frame now ds gs g is = got_group_so me d frame now ds gs g is (took_of d frame)
