-- What is under way in a tunnel, by kinds: of each at most one.
use Rattle.std.proofs.Common.{◌≡◌, ℕ, ◌+◌, ◌≤◌, List, [], ◌∷◌, ◌++◌, length, Option, Some, None, refl, sym, ◌∙◌, ap, arith, append-nil}
use Rattle.knx_model.specs.declared.address.IndAddr.{IndAddr}
use Rattle.knx_model.specs.declared.frames.ip.IpFrame.{IpFrame}
use Rattle.knx_model.specs.declared.frames.ip.IpFrame.TheVariants.{ConnectRequest, ConnectResponse, StateRequest, StateResponse, DisconnectRequest, DisconnectResponse, TunnellingRequest, TunnellingAck}
use Rattle.line_model.specs.Record.{Got, got_in}
use Rattle.std.specs.Prelude.{take}

-- ---- frames, of channel 1

-- of the client: a connect request, a tunnelling request, the acknowledgement of one, a heartbeat, a disconnect request
pub data Rise : Type 0 where
  Ask : Rise
  Tell : ℕ → List ℕ → Rise
  Receipt : ℕ → Rise
  Beat : Rise
  Leave : Rise

-- of the gateway: a connect response, the acknowledgement of a request, a request, the answer to a heartbeat and to a disconnect request
pub data Fall : Type 0 where
  Made : Option IndAddr → Fall
  Ack : ℕ → Fall
  Note : ℕ → List ℕ → Fall
  Alive : Fall
  Left : ℕ → Fall

abbrev pub risen : Rise → IpFrame
risen Ask = ConnectRequest
risen (Tell n cemi) = TunnellingRequest 1 n cemi
risen (Receipt n) = TunnellingAck 1 n 0
risen Beat = StateRequest 1
risen Leave = DisconnectRequest 1

abbrev pub fallen : Fall → IpFrame
fallen (Made tunnel) = ConnectResponse 1 0 tunnel
fallen (Ack n) = TunnellingAck 1 n 0
fallen (Note n cemi) = TunnellingRequest 1 n cemi
fallen Alive = StateResponse 1 0
fallen (Left status) = DisconnectResponse 1 status

-- what the client reads of a datagram
abbrev pub read_down : List ℕ → Option IpFrame
read_down octets = got_in (Got (take 512 octets))

-- ---- the members of one kind

abbrev pub joined : {B : Type 0} → Option B → List B → List B
joined None l = l
joined (Some y) l = y ∷ l

abbrev pub pick : {A B : Type 0} → (A → Option B) → List A → List B
pick f [] = []
pick f (x ∷ l) = joined (f x) (pick f l)

joined_append : {B : Type 0} (o : Option B) (l k m : List B) → m ≡ l ++ k → joined o m ≡ joined o l ++ k
joined_append None l k m e = e
joined_append (Some y) l k m e = ap (λ z. y ∷ z) e

pick_append : {A B : Type 0} (f : A → Option B) (l k : List A) → pick f (l ++ k) ≡ pick f l ++ pick f k
pick_append f [] k = refl
pick_append f (x ∷ l) k = joined_append (f x) (pick f l) (pick f k) (pick f (l ++ k)) (pick_append f l k)

-- the last is of another kind, or of this one
pub same_last : {A B : Type 0} (f : A → Option B) (l : List A) (x : A) → f x ≡ None → pick f l ≡ pick f (l ++ x ∷ [])
same_last f l x e = sym (pick_append f l (x ∷ []) ∙ ap (λ o. pick f l ++ joined o []) e ∙ append-nil (pick f l))

one_last : {A B : Type 0} (f : A → Option B) (l : List A) (x : A) (y : B) → f x ≡ Some y → pick f (l ++ x ∷ []) ≡ pick f l ++ y ∷ []
one_last f l x y e = pick_append f l (x ∷ []) ∙ ap (λ o. pick f l ++ joined o []) e

alone : {B : Type 0} (l : List B) (y z : B) → l ++ y ∷ [] ≡ z ∷ [] → (l ≡ []) × (y ≡ z)
alone [] y z e = (refl, cc)
alone (x ∷ []) y z e = absurd (cc)
alone (x ∷ w ∷ l) y z e = absurd (cc)

never : {B : Type 0} (l : List B) (y : B) → l ++ y ∷ [] ≡ [] → ⊥
never [] y e = cc
never (x ∷ l) y e = cc

-- the only one of its kind
pub only_last : {A B : Type 0} (f : A → Option B) (l : List A) (x : A) (y z : B) → f x ≡ Some y → pick f (l ++ x ∷ []) ≡ z ∷ [] → (pick f l ≡ []) × (y ≡ z)
only_last f l x y z e h = alone (pick f l) y z (sym (one_last f l x y e) ∙ h)

pub not_last : {A B : Type 0} (f : A → Option B) (l : List A) (x : A) (y : B) → f x ≡ Some y → pick f (l ++ x ∷ []) ≡ [] → ⊥
not_last f l x y e h = never (pick f l) y (sym (one_last f l x y e) ∙ h)

-- ---- the kinds

abbrev pub ask_of : Rise → Option ℕ
ask_of Ask = Some 0
ask_of (Tell n cemi) = None
ask_of (Receipt n) = None
ask_of Beat = None
ask_of Leave = None

abbrev pub tell_of : Rise → Option (ℕ × List ℕ)
tell_of Ask = None
tell_of (Tell n cemi) = Some (n, cemi)
tell_of (Receipt n) = None
tell_of Beat = None
tell_of Leave = None

abbrev pub receipt_of : Rise → Option ℕ
receipt_of Ask = None
receipt_of (Tell n cemi) = None
receipt_of (Receipt n) = Some n
receipt_of Beat = None
receipt_of Leave = None

abbrev pub beat_of : Rise → Option ℕ
beat_of Ask = None
beat_of (Tell n cemi) = None
beat_of (Receipt n) = None
beat_of Beat = Some 0
beat_of Leave = None

abbrev pub leave_of : Rise → Option ℕ
leave_of Ask = None
leave_of (Tell n cemi) = None
leave_of (Receipt n) = None
leave_of Beat = None
leave_of Leave = Some 0

abbrev pub made_of : Fall → Option ℕ
made_of (Made tunnel) = Some 0
made_of (Ack n) = None
made_of (Note n cemi) = None
made_of Alive = None
made_of (Left status) = None

abbrev pub ack_of : Fall → Option ℕ
ack_of (Made tunnel) = None
ack_of (Ack n) = Some n
ack_of (Note n cemi) = None
ack_of Alive = None
ack_of (Left status) = None

abbrev pub note_of : Fall → Option (ℕ × List ℕ)
note_of (Made tunnel) = None
note_of (Ack n) = None
note_of (Note n cemi) = Some (n, cemi)
note_of Alive = None
note_of (Left status) = None

abbrev pub alive_of : Fall → Option ℕ
alive_of (Made tunnel) = None
alive_of (Ack n) = None
alive_of (Note n cemi) = None
alive_of Alive = Some 0
alive_of (Left status) = None

abbrev pub left_of : Fall → Option ℕ
left_of (Made tunnel) = None
left_of (Ack n) = None
left_of (Note n cemi) = None
left_of Alive = None
left_of (Left status) = Some status

-- ---- all that is under way

pub record Ups (asks : List ℕ) (tells : List (ℕ × List ℕ)) (receipts beats leaves : List ℕ) (l : List Rise) : Type 0 where
  pub asks_are : pick ask_of l ≡ asks
  pub tells_are : pick tell_of l ≡ tells
  pub receipts_are : pick receipt_of l ≡ receipts
  pub beats_are : pick beat_of l ≡ beats
  pub leaves_are : pick leave_of l ≡ leaves

pub record Downs (mades acks : List ℕ) (notes : List (ℕ × List ℕ)) (alives lefts : List ℕ) (l : List Fall) : Type 0 where
  pub mades_are : pick made_of l ≡ mades
  pub acks_are : pick ack_of l ≡ acks
  pub notes_are : pick note_of l ≡ notes
  pub alives_are : pick alive_of l ≡ alives
  pub lefts_are : pick left_of l ≡ lefts

-- ---- how many there are

ups_length : (l : List Rise) → length l ≡ length (pick ask_of l) + length (pick tell_of l) + length (pick receipt_of l) + length (pick beat_of l) + length (pick leave_of l)
ups_length [] = refl
ups_length (Ask ∷ l) = let h = ups_length l in omega (arith, h)
ups_length (Tell n cemi ∷ l) = let h = ups_length l in omega (arith, h)
ups_length (Receipt n ∷ l) = let h = ups_length l in omega (arith, h)
ups_length (Beat ∷ l) = let h = ups_length l in omega (arith, h)
ups_length (Leave ∷ l) = let h = ups_length l in omega (arith, h)

downs_length : (l : List Fall) → length l ≡ length (pick made_of l) + length (pick ack_of l) + length (pick note_of l) + length (pick alive_of l) + length (pick left_of l)
downs_length [] = refl
downs_length (Made tunnel ∷ l) = let h = downs_length l in omega (arith, h)
downs_length (Ack n ∷ l) = let h = downs_length l in omega (arith, h)
downs_length (Note n cemi ∷ l) = let h = downs_length l in omega (arith, h)
downs_length (Alive ∷ l) = let h = downs_length l in omega (arith, h)
downs_length (Left status ∷ l) = let h = downs_length l in omega (arith, h)

pub ups_few : {asks : List ℕ} {tells : List (ℕ × List ℕ)} {receipts beats leaves : List ℕ} (l : List Rise) → Ups asks tells receipts beats leaves l
    → length asks ≤ 1 → length tells ≤ 1 → length receipts ≤ 1 → length beats ≤ 1 → length leaves ≤ 1 → length l ≤ 5
ups_few l h a b c d e =
    let n = ups_length l in
    let ha : length (pick ask_of l) ≤ 1 = rw h.asks_are a in
    let hb : length (pick tell_of l) ≤ 1 = rw h.tells_are b in
    let hc : length (pick receipt_of l) ≤ 1 = rw h.receipts_are c in
    let hd : length (pick beat_of l) ≤ 1 = rw h.beats_are d in
    let he : length (pick leave_of l) ≤ 1 = rw h.leaves_are e in
    omega (arith, n, ha, hb, hc, hd, he)

pub downs_few : {mades acks : List ℕ} {notes : List (ℕ × List ℕ)} {alives lefts : List ℕ} (l : List Fall) → Downs mades acks notes alives lefts l
    → length mades ≤ 1 → length acks ≤ 1 → length notes ≤ 1 → length alives ≤ 1 → length lefts ≤ 1 → length l ≤ 5
downs_few l h a b c d e =
    let n = downs_length l in
    let ha : length (pick made_of l) ≤ 1 = rw h.mades_are a in
    let hb : length (pick ack_of l) ≤ 1 = rw h.acks_are b in
    let hc : length (pick note_of l) ≤ 1 = rw h.notes_are c in
    let hd : length (pick alive_of l) ≤ 1 = rw h.alives_are d in
    let he : length (pick left_of l) ≤ 1 = rw h.lefts_are e in
    omega (arith, n, ha, hb, hc, hd, he)

-- nothing is under way
pub downs_none : (l : List Fall) → Downs [] [] [] [] [] l → l ≡ []
downs_none [] h = refl
downs_none (Made tunnel ∷ l) h = absurd (let e : 0 ∷ pick made_of l ≡ [] = h.mades_are in cc)
downs_none (Ack n ∷ l) h = absurd (let e : n ∷ pick ack_of l ≡ [] = h.acks_are in cc)
downs_none (Note n cemi ∷ l) h = absurd (let e : ◌≡◌ {A = List (ℕ × List ℕ)} ((n, cemi) ∷ pick note_of l) [] = h.notes_are in cc)
downs_none (Alive ∷ l) h = absurd (let e : 0 ∷ pick alive_of l ≡ [] = h.alives_are in cc)
downs_none (Left status ∷ l) h = absurd (let e : status ∷ pick left_of l ≡ [] = h.lefts_are in cc)
