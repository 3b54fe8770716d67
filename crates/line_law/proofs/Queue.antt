-- What is on its way to the client: the frames that the gateway put and the client hasn't taken, then those that wait at the gateway; and what of it is
-- for the session with one device.
use Rattle.std.proofs.Common.{◌≡◌, ℕ, List, [], ◌∷◌, ◌++◌, take, drop, length, Bool, true, false, not, ◌&&◌, cond, refl, sym, ◌∙◌, ap, append_assoc, if◌then◌else◌}
use Rattle.std.specs.Prelude.{◌==◌}
use Rattle.std.specs.List.{AllByRecursion}
use Rattle.knx_model.specs.declared.frames.cemi.Ldata.{Ldata}
use Rattle.knx_model.specs.Cemi.{Written as cemi_octets}
use Rattle.line_model.specs.Reading.{is_con, is_ind}
use Rattle.session_law.specs.World.{Message, Con, Ind}
use Rattle.session_law.specs.Events.{IsInd}

-- ---- what a frame is for the session with a device: the confirmation of a frame to it, or a frame that it sent

abbrev pub is_its : ℕ → Ldata → Bool
is_its a f = not f.group && (f.destination == a)

abbrev pub is_by : ℕ → Ldata → Bool
is_by a f = f.source == a

abbrev pub message : ℕ → Ldata → List Message
message a f = if is_con f.code then (if is_its a f then Con f.error ∷ [] else []) else (if is_ind f.code && is_by a f then Ind f ∷ [] else [])

abbrev pub messages : ℕ → List Ldata → List Message
messages a [] = []
messages a (f ∷ l) = message a f ++ messages a l

-- the confirmations alone
abbrev pub cons : List Ldata → List Ldata
cons [] = []
cons (f ∷ l) = if is_con f.code then f ∷ cons l else cons l

-- ---- what was put and isn't taken, with the place of its channel, the newest first

abbrev pub Items : Type 0
Items = List (ℕ × Ldata)

abbrev pub puts_of : Items → List (ℕ × List ℕ)
puts_of [] = []
puts_of (x ∷ l) = (x.0, cemi_octets x.1) ∷ puts_of l

-- the oldest first, then what waits
abbrev pub back : Items → List Ldata → List Ldata
back [] waiting = waiting
back (x ∷ l) waiting = back l (x.1 ∷ waiting)

-- ---- lists

pub messages_append : (a : ℕ) (l k : List Ldata) → messages a (l ++ k) ≡ messages a l ++ messages a k
messages_append a [] k = refl
messages_append a (f ∷ l) k = ap (λ z. message a f ++ z) (messages_append a l k) ∙ sym (append_assoc (message a f) (messages a l) (messages a k))

cons_by : (f : Ldata) (m l k : List Ldata) (b : Bool) → m ≡ l ++ k → ◌≡◌ {A = List Ldata} (cond b (f ∷ m) m) (cond b (f ∷ l) l ++ k)
cons_by f m l k true e = ap (λ z. f ∷ z) e
cons_by f m l k false e = e

pub cons_append : (l k : List Ldata) → cons (l ++ k) ≡ cons l ++ cons k
cons_append [] k = refl
cons_append (f ∷ l) k = cons_by f (cons (l ++ k)) (cons l) (cons k) (is_con f.code) (cons_append l k)

pub back_more : (l : Items) (w k : List Ldata) → back l (w ++ k) ≡ back l w ++ k
back_more [] w k = refl
back_more (x ∷ l) w k = back_more l (x.1 ∷ w) k

pub back_none : (l : Items) (w : List Ldata) → back l w ≡ back l [] ++ w
back_none l w = back_more l [] w

pub back_last : (l : Items) (k : ℕ) (f : Ldata) (w : List Ldata) → back (l ++ (k, f) ∷ []) w ≡ f ∷ back l w
back_last [] k f w = refl
back_last (x ∷ l) k f w = back_last l k f (x.1 ∷ w)

pub back_parts : (l k : Items) (w : List Ldata) → back (l ++ k) w ≡ back k [] ++ back l w
back_parts [] k w = back_none k w
back_parts (x ∷ l) k w = back_parts l k (x.1 ∷ w)

pub puts_append : (l k : Items) → puts_of (l ++ k) ≡ puts_of l ++ puts_of k
puts_append [] k = refl
puts_append (x ∷ l) k = ap (λ z. (x.0, cemi_octets x.1) ∷ z) (puts_append l k)

pub take_front : (l k : List Message) → take (length l) (l ++ k) ≡ l
take_front [] k = refl
take_front (x ∷ l) k = ap (λ z. x ∷ z) (take_front l k)

pub drop_front : (l k : List Message) → drop (length l) (l ++ k) ≡ k
drop_front [] k = refl
drop_front (x ∷ l) k = drop_front l k

-- ---- without a confirmation there are frames of the device alone

ind_by : (f : Ldata) (l : List Message) (b : Bool) → AllByRecursion IsInd l → AllByRecursion IsInd (cond {A = List Message} b (Ind f ∷ []) [] ++ l)
ind_by f l true h = (tt, h)
ind_by f l false h = h

inds_by : (f : Ldata) (c m : List Ldata) (l : List Message) (k : List Message) (b d : Bool) → ◌≡◌ {A = List Ldata} (cond b (f ∷ c) c) [] → (c ≡ [] → AllByRecursion IsInd l) → AllByRecursion IsInd (cond {A = List Message} b k (cond {A = List Message} d (Ind f ∷ []) []) ++ l)
inds_by f c m l k true d h g = absurd (let e : f ∷ c ≡ [] = h in cc)
inds_by f c m l k false d h g = ind_by f l d (g h)

pub all_inds : (a : ℕ) (l : List Ldata) → cons l ≡ [] → AllByRecursion IsInd (messages a l)
all_inds a [] h = tt
all_inds a (f ∷ l) h =
    inds_by f (cons l) [] (messages a l) (cond {A = List Message} (is_its a f) (Con f.error ∷ []) []) (is_con f.code) (is_ind f.code && is_by a f) h (λ e. all_inds a l e)

empty_front : (l k : List Ldata) → l ++ k ≡ [] → l ≡ []
empty_front [] k h = refl
empty_front (x ∷ l) k h = absurd (cc)

pub none_front : (l k : List Ldata) → cons (l ++ k) ≡ [] → cons l ≡ []
none_front l k h = empty_front (cons l) (cons k) (sym (cons_append l k) ∙ h)
