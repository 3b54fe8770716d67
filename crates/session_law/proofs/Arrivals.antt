-- What a frame or a confirmation is to a connection, and lists of these.
use Rattle.std.proofs.Common.{◌≡◌, ℕ, zero, suc, ◌⊎◌, List, [], ◌∷◌, ◌++◌, take, drop, Bool, Option, Some, None, refl, sym, ap, subst, inl, inr, if◌then◌else◌}
use Rattle.knx_model.specs.declared.frames.cemi.Ldata.{Ldata}
use Rattle.knx_model.specs.declared.connection.TransportFrame.{TransportFrame}
use Rattle.knx_model.specs.declared.connection.TransportFrame.TheVariants.{Connect, Disconnect, Ack, Nak, Numbered, Other}
use Rattle.knx_model.specs.Connection.{frame_in}
use Rattle.session_law.specs.World.{Message, Con, Ind}

pub data Arrival : Type 0 where
  Confirmation : Bool → Arrival
  Frame : TransportFrame → Arrival

abbrev pub transport : Ldata → TransportFrame
transport f = if f.group then Other else frame_in f.tpdu

abbrev pub arrival_of : Message → Arrival
arrival_of (Con error) = Confirmation error
arrival_of (Ind frame) = Frame (transport frame)

abbrev pub arrivals : List Message → List Arrival
arrivals [] = []
arrivals (x ∷ l) = arrival_of x ∷ arrivals l

abbrev pub unsent_arrivals : List Ldata → List Arrival
unsent_arrivals [] = []
unsent_arrivals (f ∷ l) = Frame (transport f) ∷ unsent_arrivals l

abbrev pub owed_arrivals : List (List ℕ) → List Arrival
owed_arrivals [] = []
owed_arrivals (r ∷ l) = Frame (frame_in r) ∷ owed_arrivals l

abbrev pub transport_if : Option Ldata → Option TransportFrame
transport_if None = None
transport_if (Some f) = Some (transport f)

abbrev pub arrival_if : Option TransportFrame → List Arrival
arrival_if None = []
arrival_if (Some f) = Frame f ∷ []

pub arrivals_append : (l k : List Message) → arrivals (l ++ k) ≡ arrivals l ++ arrivals k
arrivals_append [] k = refl
arrivals_append (x ∷ l) k = ap (λ z. arrival_of x ∷ z) (arrivals_append l k)

pub unsent_append : (l k : List Ldata) → unsent_arrivals (l ++ k) ≡ unsent_arrivals l ++ unsent_arrivals k
unsent_append [] k = refl
unsent_append (x ∷ l) k = ap (λ z. Frame (transport x) ∷ z) (unsent_append l k)

pub owed_arrivals_append : (l k : List (List ℕ)) → owed_arrivals (l ++ k) ≡ owed_arrivals l ++ owed_arrivals k
owed_arrivals_append [] k = refl
owed_arrivals_append (x ∷ l) k = ap (λ z. Frame (frame_in x) ∷ z) (owed_arrivals_append l k)

abbrev pub NotConfirmation : Arrival → Type 0
NotConfirmation (Confirmation b) = ⊥
NotConfirmation (Frame f) = Unit {0}

abbrev pub NoConfirmation : List Arrival → Type 0
NoConfirmation [] = Unit {0}
NoConfirmation (x ∷ l) = NotConfirmation x × NoConfirmation l

abbrev pub IsntAck : TransportFrame → Type 0
IsntAck Connect = Unit {0}
IsntAck Disconnect = Unit {0}
IsntAck (Ack m) = ⊥
IsntAck (Nak m) = Unit {0}
IsntAck (Numbered m apdu) = Unit {0}
IsntAck Other = Unit {0}

abbrev pub IsntData : TransportFrame → Type 0
IsntData Connect = Unit {0}
IsntData Disconnect = Unit {0}
IsntData (Ack m) = Unit {0}
IsntData (Nak m) = Unit {0}
IsntData (Numbered m apdu) = ⊥
IsntData Other = Unit {0}

abbrev pub IsntConnect : TransportFrame → Type 0
IsntConnect Connect = ⊥
IsntConnect Disconnect = Unit {0}
IsntConnect (Ack m) = Unit {0}
IsntConnect (Nak m) = Unit {0}
IsntConnect (Numbered m apdu) = Unit {0}
IsntConnect Other = Unit {0}

abbrev pub NotAck : Arrival → Type 0
NotAck (Confirmation b) = Unit {0}
NotAck (Frame f) = IsntAck f

abbrev pub NotAnswer : Arrival → Type 0
NotAnswer (Confirmation b) = Unit {0}
NotAnswer (Frame f) = IsntData f

-- frames that are neither acknowledgements nor data
abbrev pub Plain : List Arrival → Type 0
Plain [] = Unit {0}
Plain (x ∷ l) = (NotAck x × NotAnswer x × NotConfirmation x) × Plain l

abbrev pub NoData : List Arrival → Type 0
NoData [] = Unit {0}
NoData (x ∷ l) = (NotAck x × NotAnswer x) × NoData l

pub plain_nodata : (l : List Arrival) → Plain l → NoData l
plain_nodata [] h = tt
plain_nodata (x ∷ l) h = ((h.0.0, h.0.1), plain_nodata l h.1)

-- just one confirmation, with these behind it
abbrev pub Split : List Arrival → Bool → List Arrival → Type 0
Split [] b newer = ⊥
Split (Confirmation c ∷ l) b newer = (c ≡ b) × (l ≡ newer) × NoConfirmation l
Split (Frame f ∷ l) b newer = Split l b newer

pub noconf_append : (l k : List Arrival) → NoConfirmation l → NoConfirmation k → NoConfirmation (l ++ k)
noconf_append [] k h q = q
noconf_append (y ∷ l) k h q = (h.0, noconf_append l k h.1 q)

pub nodata_append : (l k : List Arrival) → NoData l → NoData k → NoData (l ++ k)
nodata_append [] k h q = q
nodata_append (y ∷ l) k h q = (h.0, nodata_append l k h.1 q)

pub split_append : (l : List Arrival) (b : Bool) (newer k : List Arrival) → Split l b newer → NoConfirmation k → Split (l ++ k) b (newer ++ k)
split_append [] b newer k h q = absurd h
split_append (Confirmation c ∷ l) b newer k h q = (h.0, ap (λ z. z ++ k) h.1, noconf_append l k h.2 q)
split_append (Frame f ∷ l) b newer k h q = split_append l b newer k h q

pub split_conf : (l : List Arrival) (b : Bool) → NoConfirmation l → Split (l ++ Confirmation b ∷ []) b []
split_conf [] b h = (refl, refl, tt)
split_conf (Confirmation c ∷ l) b h = absurd h.0
split_conf (Frame f ∷ l) b h = split_conf l b h.1

pub noconf_front : (l k : List Arrival) → NoConfirmation (l ++ k) → NoConfirmation l
noconf_front [] k h = tt
noconf_front (y ∷ l) k h = (h.0, noconf_front l k h.1)

pub nodata_front : (l k : List Arrival) → NoData (l ++ k) → NoData l
nodata_front [] k h = tt
nodata_front (y ∷ l) k h = (h.0, nodata_front l k h.1)

-- a front has the confirmation or has none
pub split_front : (l k : List Arrival) (b : Bool) (newer : List Arrival) → Split (l ++ k) b newer → NoConfirmation l ⊎ ((front : List Arrival) × Split l b front × (front ++ k ≡ newer))
split_front [] k b newer h = inl tt
split_front (Confirmation c ∷ l) k b newer h = inr (l, (h.0, refl, noconf_front l k h.2), h.1)
split_front (Frame f ∷ l) k b newer h = elim (split_front l k b newer h) [ inl q ↦ inl (tt, q) | inr q ↦ inr q ]

-- without what stands in the middle
pub noconf_middle : (f b e : List Arrival) → NoConfirmation ((f ++ b) ++ e) → NoConfirmation e → NoConfirmation (f ++ e)
noconf_middle [] b e h k = k
noconf_middle (x ∷ f) b e h k = (h.0, noconf_middle f b e h.1 k)

pub nodata_back : (b e : List Arrival) → NoData (b ++ e) → NoData e
nodata_back [] e h = h
nodata_back (x ∷ b) e h = nodata_back b e h.1

pub nodata_middle : (f b e : List Arrival) → NoData ((f ++ b) ++ e) → NoData (f ++ e)
nodata_middle [] b e h = nodata_back b e h
nodata_middle (x ∷ f) b e h = (h.0, nodata_middle f b e h.1)

-- the confirmation stood there, or is still there
pub split_middle : (f b e : List Arrival) (t : Bool) (newer : List Arrival) → NoConfirmation e → Split ((f ++ b) ++ e) t newer → NoConfirmation (f ++ e) ⊎ ((front : List Arrival) × Split (f ++ e) t front × (NoData newer → NoData front))
split_middle [] b e t newer k h = inl k
split_middle (Confirmation c ∷ f) b e t newer k h = inr (f ++ e, (h.0, refl, noconf_middle f b e h.2 k), λ d. nodata_middle f b e (subst (λ (z : List Arrival). NoData z) (sym h.1) d))
split_middle (Frame x ∷ f) b e t newer k h = elim (split_middle f b e t newer k h) [ inl q ↦ inl (tt, q) | inr q ↦ inr q ]

-- a list in two parts
pub arrivals_parts : (n : ℕ) (l : List Message) → arrivals l ≡ arrivals (take n l) ++ arrivals (drop n l)
arrivals_parts zero l = refl
arrivals_parts (suc n) [] = refl
arrivals_parts (suc n) (x ∷ l) = ap (λ (z : List Arrival). arrival_of x ∷ z) (arrivals_parts n l)
