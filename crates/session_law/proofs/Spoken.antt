-- What a sending, a closing and a power cut leave of a device, as far as a session sees it.
use Rattle.std.proofs.Common.{◌≡◌, ℕ, ◌%◌, List, [], ◌∷◌, ◌++◌, length, drop, Bool, true, false, cond, Option, Some, None, refl, sym, ap, subst, ◌⊎◌}
use Rattle.knx_model.specs.declared.address.IndAddr.{IndAddr}
use Rattle.knx_model.specs.declared.frames.cemi.Ldata.{Ldata}
use Rattle.knx_model.specs.declared.connection.TransportFrame.{TransportFrame}
use Rattle.knx_model.specs.declared.connection.TransportFrame.TheVariants.{Disconnect, Numbered}
use Rattle.knx_model.specs.declared.device.Took.{Took}
use Rattle.knx_model.specs.declared.device.Took.TheVariants.{NotMine, TooLong, Taken, Off}
use Rattle.knx_model.specs.Connection.{disconnect}
use Rattle.knx_model.specs.DeviceConnection.{DeviceEnd, Closed, Idle, Answering, partner_of, device_repeated}
use Rattle.knx_model.specs.DeviceState.{DeviceState, cut, switched_on}
use Rattle.knx_model.specs.DeviceFrames.{Outcome, Whole, Torn, Worn, own_frame, took_of, takes_so, takes}
use Rattle.knx_model.specs.DeviceSending.{first_frame, waiting_frame, pops, outstanding_frame, repeat_frame, repeats, shut, shut_from}
use Rattle.session_law.proofs.Arrivals.{Arrival, Frame, transport, transport_if, arrival_if, unsent_arrivals, Plain, NotConfirmation}
use Rattle.session_law.proofs.Frames.{disconnect_read}
use Rattle.session_law.proofs.Seen.{Seen, ConnIs, extra, Stays}
use Rattle.session_law.proofs.Taken.{seen_of, cut_seen, one_more}

-- ---- what it sends

pub data Speaks (me : IndAddr) (o : Seen) : Seen → List Arrival → Type 0 where
  SShift : (x : Arrival) (rest : List Arrival) → NotConfirmation x → o.unsent ≡ x ∷ rest → Speaks me o (record { frames = o.frames; connection = o.connection; unsent = rest; last = o.last; delivered = o.delivered; given = o.given; kept = o.kept }) (x ∷ [])
  SAgain : (c : DeviceEnd) (v : List ℕ) (older : List (List ℕ)) → o.unsent ≡ [] → o.given ≡ v ∷ older → extra c ≡ extra o.connection → ConnIs me c o.delivered o.given → Stays o.connection c
      → Speaks me o (record { frames = o.frames; connection = c; unsent = o.unsent; last = o.last; delivered = o.delivered; given = o.given; kept = o.kept }) (Frame (Numbered (length older % 16) v) ∷ [])
  SNothing : Speaks me o o []

pops_by : (me : IndAddr) (d : DeviceState) (ds gs : List (List ℕ)) (l : List Ldata) → d.unsent ≡ l
    → Speaks me (seen_of d ds gs) (record { frames = d.frames; connection = d.connection; unsent = unsent_arrivals (drop 1 l); last = transport_if d.last; delivered = ds; given = gs; kept = d.kept }) (arrival_if (transport_if (first_frame l)))
pops_by me d ds gs [] e = subst (λ (z : List Arrival). Speaks me (seen_of d ds gs) (record { frames = d.frames; connection = d.connection; unsent = z; last = transport_if d.last; delivered = ds; given = gs; kept = d.kept }) []) (ap unsent_arrivals e) SNothing
pops_by me d ds gs (f ∷ fs) e = SShift (Frame (transport f)) (unsent_arrivals fs) tt (ap unsent_arrivals e)

-- its oldest unsent frame
pub pops_seen : (me : IndAddr) (d : DeviceState) (ds gs : List (List ℕ)) → Speaks me (seen_of d ds gs) (seen_of (pops d) ds gs) (arrival_if (transport_if (waiting_frame d)))
pops_seen me d ds gs = pops_by me d ds gs d.unsent refl

repeats_by : (me : IndAddr) (d : DeviceState) (e : DeviceEnd) (now : ℕ) (ds gs : List (List ℕ)) → d.unsent ≡ [] → ConnIs me e ds gs
    → Speaks me (record { frames = d.frames; connection = e; unsent = unsent_arrivals d.unsent; last = transport_if d.last; delivered = ds; given = gs; kept = d.kept })
    (record { frames = d.frames; connection = device_repeated e now; unsent = unsent_arrivals d.unsent; last = transport_if d.last; delivered = ds; given = gs; kept = d.kept }) (arrival_if (transport_if (outstanding_frame d.address e)))
repeats_by me d Closed now ds gs bare is = SNothing
repeats_by me d (Idle t) now ds gs bare is = SNothing
repeats_by me d (Answering t a) now ds [] bare is = absurd is
repeats_by me d (Answering t a) now ds (v ∷ gs) bare is =
    let o : Seen = record { frames = d.frames; connection = Answering t a; unsent = unsent_arrivals d.unsent; last = transport_if d.last; delivered = ds; given = v ∷ gs; kept = d.kept } in
    let n : Seen = record { frames = d.frames; connection = device_repeated (Answering t a) now; unsent = unsent_arrivals d.unsent; last = transport_if d.last; delivered = ds; given = v ∷ gs; kept = d.kept } in
    let P : TransportFrame → Type 0 = λ z. Speaks me o n (Frame z ∷ []) in
    subst P (sym is.3) (SAgain (device_repeated (Answering t a) now) v gs (ap unsent_arrivals bare) refl refl is (λ z. absurd (let q : Answering t a ≡ Closed = z in cc)))

-- its outstanding answer again
pub repeats_seen : (me : IndAddr) (d : DeviceState) (now : ℕ) (ds gs : List (List ℕ)) → d.unsent ≡ [] → ConnIs me d.connection ds gs
    → Speaks me (seen_of d ds gs) (seen_of (repeats d now) ds gs) (arrival_if (transport_if (repeat_frame d)))
repeats_seen me d now ds gs bare is = repeats_by me d d.connection now ds gs bare is

-- ---- closing, and power

pub data Shuts (o : Seen) : Seen → Type 0 where
  ShSame : Shuts o o
  ShCloses : (k l : List Arrival) → Plain k → l ≡ o.unsent ++ k → Shuts o (record { frames = o.frames; connection = Closed; unsent = l; last = o.last; delivered = o.delivered; given = o.given; kept = o.kept })
  ShCut : Shuts o (cut_seen o)

shuts_by : (d : DeviceState) (p : Option IndAddr) (ds gs : List (List ℕ)) → Shuts (seen_of d ds gs) (seen_of (shut_from d p) ds gs)
shuts_by d None ds gs = ShSame
shuts_by d (Some to) ds gs = ShCloses (Frame Disconnect ∷ []) _ ((tt, tt, tt), tt) (one_more d.unsent (own_frame d.address false to.raw disconnect) Disconnect disconnect_read)

pub shut_seen : (d : DeviceState) (ds gs : List (List ℕ)) → Shuts (seen_of d ds gs) (seen_of (shut d) ds gs)
shut_seen d ds gs = shuts_by d (partner_of d.connection) ds gs

pub cut_is : (d : DeviceState) (ds gs : List (List ℕ)) → Shuts (seen_of d ds gs) (seen_of (cut d) ds gs)
cut_is d ds gs = ShCut

on_by : (d e : DeviceState) (ds gs : List (List ℕ)) (b : Bool) → seen_of e ds gs ≡ cut_seen (seen_of d ds gs) → Shuts (seen_of d ds gs) (seen_of (cond b d e) ds gs)
on_by d e ds gs true h = ShSame
on_by d e ds gs false h = subst (λ (z : Seen). Shuts (seen_of d ds gs) z) (sym h) ShCut

pub on_seen : (d : DeviceState) (ds gs : List (List ℕ)) → Shuts (seen_of d ds gs) (seen_of (switched_on d) ds gs)
on_seen d ds gs = on_by d _ ds gs d.power refl

-- ---- whose its last frame is

-- a group telegram, or a frame of the client
abbrev pub IsMine : IndAddr → Ldata → Type 0
IsMine me frame = (frame.group ≡ true) ⊎ ((frame.group ≡ false) × (frame.source ≡ me.raw))

abbrev pub LastMine : IndAddr → Option Ldata → Type 0
LastMine me None = Unit {0}
LastMine me (Some frame) = IsMine me frame

last_so : (me : IndAddr) (d : DeviceState) (frame : Ldata) (now : ℕ) (outcome : Outcome) → IsMine me frame → LastMine me d.last → (t : Took) → LastMine me (takes_so d frame now outcome t).last
last_so me d frame now Whole f h Taken = f
last_so me d frame now (Torn fresh octets) f h Taken = tt
last_so me d frame now (Worn octets) f h Taken = f
last_so me d frame now outcome f h NotMine = h
last_so me d frame now outcome f h TooLong = h
last_so me d frame now outcome f h Off = h

pub last_mine : (me : IndAddr) (d : DeviceState) (frame : Ldata) (now : ℕ) (outcome : Outcome) → IsMine me frame → LastMine me d.last → LastMine me (takes d frame now outcome).last
last_mine me d frame now outcome f h = last_so me d frame now outcome f h (took_of d frame)

shut_last_by : (me : IndAddr) (d : DeviceState) (p : Option IndAddr) → LastMine me d.last → LastMine me (shut_from d p).last
shut_last_by me d None h = h
shut_last_by me d (Some to) h = h

pub shut_last : (me : IndAddr) (d : DeviceState) → LastMine me d.last → LastMine me (shut d).last
shut_last me d h = shut_last_by me d (partner_of d.connection) h

on_last_by : (me : IndAddr) (d e : DeviceState) (b : Bool) → LastMine me d.last → LastMine me e.last → LastMine me (cond {A = DeviceState} b d e).last
on_last_by me d e true h k = h
on_last_by me d e false h k = k

pub on_last : (me : IndAddr) (d : DeviceState) → LastMine me d.last → LastMine me (switched_on d).last
on_last me d h = on_last_by me d _ d.power h tt
