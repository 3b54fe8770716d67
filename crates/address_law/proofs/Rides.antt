-- What rides on the tunnel while an address is given on a calm bus: the client's frame that isn't over the bus yet, the frames on their way to the client, and
-- the responses that aren't sent yet, by the rounds of the talk. Each response belongs to a unit in programming mode, and of a read that is heard out
-- all have come.
use Rattle.std.proofs.Common.{◌≡◌, ◌≢◌, ℕ, suc, ◌+◌, ◌<◌, ◌⊎◌, inl, inr, List, [], ◌∷◌, ◌++◌, length, map, Bool, true, false, not, cond, Option, Some, None, refl, sym, ◌∙◌, ap, subst, arith}
use Rattle.std.specs.Prelude.{◌||◌, ◌==◌}
use Rattle.knx_model.specs.declared.address.IndAddr.{IndAddr}
use Rattle.knx_model.specs.declared.frames.cemi.Ldata.{Ldata}
use Rattle.knx_model.specs.declared.frames.tpdu.Apdu.{Apdu}
use Rattle.knx_model.specs.declared.frames.tpdu.Apdu.TheVariants.{AddressWrite, AddressResponse}
use Rattle.knx_model.specs.Cemi.{Written as cemi_octets}
use Rattle.knx_model.specs.declared.frames.cemi.LdataCode.TheVariants.{Ind}
use Rattle.knx_model.specs.ApduReading.{apdu_in, tpdu_in, service_in, apdu_octets}
use Rattle.line_law.proofs.ReadBack.{written_in}
use Rattle.line_model.specs.Reading.{ldata_in, is_con}
use Rattle.line_model.specs.World.{on_bus}
use Rattle.address_world.specs.declared.asked.Asked.{Asked}
use Rattle.address_world.specs.declared.asked.Asked.TheVariants.{Read, Connect, Disconnect, Write}
use Rattle.address_world.specs.AddressWorld.{UnitState, all_get, broadcast, changed, has_address, oldest_at, response, sends}
use Rattle.address_world.specs.Keeps.{frame_of}
use Rattle.address_talk.specs.Rounds.{Round, begun, on_newest, answer_in, confirmed_by, and_answer, with_frame}
use Rattle.address_talk.specs.Talk.{AllSilent, AsksFor, MayAsk, Writes, HeardOutBy, IsHeardOut}
use Rattle.address_law.proofs.Programmed.{programmed, given}
use Rattle.address_law.proofs.Units.{AreAs, IsIn, todo, reads as reads_unit, get_read, get_write, get_connect, get_disconnect, read_as, write_as, responds}

-- ---- the units that a round finds

abbrev pub writes_service : Option Apdu → Bool
writes_service (Some (AddressWrite address)) = true
writes_service _ = false

abbrev pub is_write : Option Ldata → Bool
is_write None = false
is_write (Some frame) = writes_service (broadcast frame)

abbrev pub AllIn : List IndAddr → List IndAddr → Type 0
AllIn l [] = Unit {0}
AllIn l (s ∷ answers) = IsIn s l × AllIn l answers

-- ---- frames on their way to the client

-- a response of this unit
pub record ReadsAnswer (source : IndAddr) (y : Ldata) : Type 0 where
  pub frame : Ldata
  pub reads : ldata_in (cemi_octets y) ≡ Some frame
  pub answers : answer_in frame ≡ Some source
  pub no_con : is_con frame.code ≡ false

-- a confirmation, with an error or without
pub record ReadsConfirmation (error : Bool) (y : Ldata) : Type 0 where
  pub frame : Ldata
  pub reads : ldata_in (cemi_octets y) ≡ Some frame
  pub answers : answer_in frame ≡ None
  pub con : is_con frame.code ≡ true
  pub error_is : frame.error ≡ error

-- so many responses of these units, and confirmations
abbrev pub Riders : List IndAddr → Bool → List Ldata → ℕ → Type 0
Riders l error [] n = n ≡ 0
Riders l error (y ∷ q) n = (ReadsConfirmation error y × Riders l error q n) ⊎ ((k : ℕ) × ((n ≡ suc k) × (((source : IndAddr) × (ReadsAnswer source y × IsIn source l)) × Riders l error q k)))

module _ (wanted : IndAddr) (start : List UnitState) where
  abbrev pub base : List Round → List UnitState
  base [] = start
  base (r ∷ rs) = cond (is_write r.frame) (map (given wanted) start) (base rs)

  -- a request to a group or to all is confirmed without error, and one to an address where a unit has it
  abbrev pub verdict : Asked → List UnitState → Bool
  verdict asked units = not ((frame_of wanted asked).group || has_address (frame_of wanted asked).destination units)

  -- ---- a round that is heard out

  abbrev pub Whole : Asked → List UnitState → Round → Type 0
  Whole Read units r = (length r.answers ≡ length (programmed units)) × AllIn (programmed units) r.answers
  Whole Connect units r = (r.confirmed ≡ Some (verdict Connect units)) × (r.answers ≡ [])
  Whole Disconnect units r = r.answers ≡ []
  Whole Write units r = r.answers ≡ []

  pub record Turn (r : Round) (rs : List Round) : Type 0 where
    pub asked : Asked
    pub asks : AsksFor wanted asked r
    pub may : MayAsk wanted rs asked

  abbrev pub Past : List Round → Type 0
  Past [] = Unit {0}
  Past (r ∷ rs) = ((turn : Turn r rs) × Whole turn.asked (base (r ∷ rs)) r) × Past rs

  -- ---- the newest round, once its frame went over the bus

  abbrev pub IsConfirmed : Bool → Option Bool → List Ldata → Type 0
  IsConfirmed error None q = (y : Ldata) × ((q ≡ y ∷ []) × ReadsConfirmation error y)
  IsConfirmed error (Some e) q = (e ≡ error) × (q ≡ [])

  -- after a read responses come; once it is confirmed and time passed since the last datagram, all have come
  pub record Reading (r : Round) (units now_units : List UnitState) (q : List Ldata) (since now : ℕ) : Type 0 where
    pub n : ℕ
    pub riders : Riders (programmed units) false q n
    pub count : length r.answers + (n + todo now_units) ≡ length (programmed units)
    pub among : AllIn (programmed units) r.answers
    pub done : r.confirmed ≢ None → since < now → (q ≡ []) × (todo now_units ≡ 0)

  pub record Asking (asked : Asked) (r : Round) (units now_units : List UnitState) (q : List Ldata) : Type 0 where
    pub none : r.answers ≡ []
    pub sent : todo now_units ≡ 0
    pub confirmed : IsConfirmed (verdict asked units) r.confirmed q

  abbrev pub Over : Asked → Round → List UnitState → List UnitState → List Ldata → ℕ → ℕ → Type 0
  Over Read r units now_units q since now = Reading r units now_units q since now
  Over Connect r units now_units q since now = Asking Connect r units now_units q
  Over Disconnect r units now_units q since now = Asking Disconnect r units now_units q
  Over Write r units now_units q since now = Asking Write r units now_units q

  -- ---- the newest round, whose frame isn't over the bus yet

  pub record Rising (f : Ldata) (r : Round) (q : List Ldata) (now_units : List UnitState) : Type 0 where
    pub is : r.frame ≡ Some f
    pub unconfirmed : r.confirmed ≡ None
    pub none : r.answers ≡ []
    pub empty : q ≡ []
    pub sent : todo now_units ≡ 0

  abbrev pub Newest : Asked → Round → List Round → List UnitState → Option Ldata → List Ldata → ℕ → ℕ → Type 0
  Newest asked r rs now_units (Some f) q since now = Rising f r q now_units × AreAs (base rs) now_units
  Newest asked r rs now_units None q since now = Over asked r (base (r ∷ rs)) now_units q since now × AreAs (base (r ∷ rs)) now_units

  -- ---- all of it, by the rounds, when a datagram came last, and the time

  abbrev pub Rides : List Round → ℕ → ℕ → List UnitState → Option Ldata → List Ldata → Type 0
  Rides [] since now now_units fly q = (fly ≡ None) × ((q ≡ []) × ((todo now_units ≡ 0) × AreAs start now_units))
  Rides (r ∷ rs) since now now_units fly q = (turn : Turn r rs) × (Past rs × Newest turn.asked r rs now_units fly q since now)

  -- ---- heard out

  no_riders : (l : List IndAddr) (error : Bool) (q : List Ldata) (n : ℕ) → q ≡ [] → Riders l error q n → n ≡ 0
  no_riders l error [] n e h = h
  no_riders l error (y ∷ q) n e h = absurd (cc)

  read_whole : (r : Round) (units now_units : List UnitState) (q : List Ldata) (since now : ℕ) → Reading r units now_units q since now → r.confirmed ≢ None → since < now → Whole Read units r × (q ≡ [])
  read_whole r units now_units q since now h c lt =
      let d = h.done c lt in
      let n = no_riders (programmed units) false q h.n d.0 h.riders in
      let t = d.1 in
      let k = h.count in
      ((omega (arith, n, t, k), h.among), d.0)

  confirmed_so : (error : Bool) (c : Option Bool) (q : List Ldata) → IsConfirmed error c q → c ≢ None → (c ≡ Some error) × (q ≡ [])
  confirmed_so error None q h some = absurd (some refl)
  confirmed_so error (Some e) q h some = (ap (λ b. Some b) h.0, h.1)

  over_whole : (asked : Asked) (r : Round) (units now_units : List UnitState) (q : List Ldata) (since now : ℕ) → AsksFor wanted asked r → Over asked r units now_units q since now → IsHeardOut wanted r since now → Whole asked units r × ((q ≡ []) × (todo now_units ≡ 0))
  over_whole Read r units now_units q since now asks h out =
      let le = out.quiet asks in
      let lt : since < now = omega (arith, le) in
      let w = read_whole r units now_units q since now h out.confirmed lt in
      (w.0, (w.1, (h.done out.confirmed lt).1))
  over_whole Connect r units now_units q since now asks h out = let c = confirmed_so (verdict Connect units) r.confirmed q h.confirmed out.confirmed in ((c.0, h.none), (c.1, h.sent))
  over_whole Disconnect r units now_units q since now asks h out = let c = confirmed_so (verdict Disconnect units) r.confirmed q h.confirmed out.confirmed in (h.none, (c.1, h.sent))
  over_whole Write r units now_units q since now asks h out = let c = confirmed_so (verdict Write units) r.confirmed q h.confirmed out.confirmed in (h.none, (c.1, h.sent))

  -- the newest round is heard out: it is whole, and nothing is on its way
  pub record AllHeard (rs : List Round) (now_units : List UnitState) (fly : Option Ldata) (q : List Ldata) : Type 0 where
    pub past : Past rs
    pub rests : fly ≡ None
    pub empty : q ≡ []
    pub sent : todo now_units ≡ 0
    pub held : AreAs (base rs) now_units

  pub heard_all : (rs : List Round) (since now : ℕ) (now_units : List UnitState) (fly : Option Ldata) (q : List Ldata) → Rides rs since now now_units fly q → HeardOutBy wanted rs since now → AllHeard rs now_units fly q
  heard_all [] since now now_units fly q h out = record { past = tt; rests = h.0; empty = h.1.0; sent = h.1.1.0; held = h.1.1.1 }
  heard_all (r ∷ rs) since now now_units (Some f) q h out = absurd (out.confirmed h.1.1.0.unconfirmed)
  heard_all (r ∷ rs) since now now_units None q h out =
      let turn = h.0 in
      let w = over_whole turn.asked r (base (r ∷ rs)) now_units q since now turn.asks h.1.1.0 out in
      record { past = ((turn, w.0), h.1.0); rests = refl; empty = w.1.0; sent = w.1.1; held = h.1.1.1 }

-- ---- the events

module _ (wanted : IndAddr) (start : List UnitState) where
  abbrev Now : List Round → ℕ → ℕ → List UnitState → Option Ldata → List Ldata → Type 0
  Now = Rides wanted start

  -- a request is put, where all is heard
  pub puts_rides : (rs : List Round) (since now : ℕ) (units : List UnitState) (q : List Ldata) (cemi : List ℕ) (f : Ldata) (asked : Asked) → ldata_in cemi ≡ Some f → ldata_in cemi ≡ Some (frame_of wanted asked) → MayAsk wanted rs asked → AllHeard wanted start rs units None q
      → Now (begun cemi ∷ rs) since now units (Some f) q
  puts_rides rs since now units q cemi f asked is reads may h = (record { asked = asked; asks = reads; may = may }, (h.past, (record { is = is; unconfirmed = refl; none = refl; empty = h.empty; sent = h.sent }, h.held)))

  -- nothing is taken, and no time passes but since a datagram came
  over_later : (asked : Asked) (r : Round) (units now_units : List UnitState) (q : List Ldata) (since now then later : ℕ) → (then < later → since < now) → Over wanted start asked r units now_units q since now → Over wanted start asked r units now_units q then later
  over_later Read r units now_units q since now then later back h = record { n = h.n; riders = h.riders; count = h.count; among = h.among; done = λ c lt. h.done c (back lt) }
  over_later Connect r units now_units q since now then later back h = h
  over_later Disconnect r units now_units q since now then later back h = h
  over_later Write r units now_units q since now then later back h = h

  pub later_rides : (rs : List Round) (since now then later : ℕ) (units : List UnitState) (fly : Option Ldata) (q : List Ldata) → (then < later → since < now) → Now rs since now units fly q → Now rs then later units fly q
  later_rides [] since now then later units fly q back h = h
  later_rides (r ∷ rs) since now then later units (Some f) q back h = h
  later_rides (r ∷ rs) since now then later units None q back h = (h.0, (h.1.0, (over_later h.0.asked r (base wanted start (r ∷ rs)) units q since now then later back h.1.1.0, h.1.1.1)))

  -- ---- a frame is taken

  in_last : (l answers : List IndAddr) (s : IndAddr) → AllIn l answers → IsIn s l → AllIn l (answers ++ s ∷ [])
  in_last l [] s h i = (i, tt)
  in_last l (a ∷ answers) s h i = (h.0, in_last l answers s h.1 i)

  last_length : (answers : List IndAddr) (s : IndAddr) → length (answers ++ s ∷ []) ≡ suc (length answers)
  last_length [] s = refl
  last_length (a ∷ answers) s = ap suc (last_length answers s)

  abbrev Taken : Option Ldata → Round → Round
  Taken o r = with_frame o r

  reading_takes : (r : Round) (units now_units : List UnitState) (y : Ldata) (q : List Ldata) (since now then : ℕ) → Reading wanted start r units now_units (y ∷ q) since now → Reading wanted start (Taken (ldata_in (cemi_octets y)) r) units now_units q then then
  reading_takes r units now_units y q since now then h = by_rider h.riders where
    by_rider : (ReadsConfirmation false y × Riders (programmed units) false q h.n) ⊎ ((k : ℕ) × ((h.n ≡ suc k) × (((source : IndAddr) × (ReadsAnswer source y × IsIn source (programmed units))) × Riders (programmed units) false q k)))
        → Reading wanted start (Taken (ldata_in (cemi_octets y)) r) units now_units q then then
    by_rider (inl c) =
        let same : and_answer r.answers (answer_in c.0.frame) ≡ r.answers = ap (and_answer r.answers) c.0.answers in
        subst (λ o. Reading wanted start (Taken o r) units now_units q then then) (sym c.0.reads) (record {
          n = h.n;
          riders = c.1;
          count = ap (λ (l : List IndAddr). length l + (h.n + todo now_units)) same ∙ h.count;
          among = subst (AllIn (programmed units)) (sym same) h.among;
          done = λ some lt. absurd (let z : ⊥ = omega (arith, lt) in z);
        })
    by_rider (inr a) =
        let it = a.1.1.0 in
        let same : and_answer r.answers (answer_in it.1.0.frame) ≡ r.answers ++ it.0 ∷ [] = ap (and_answer r.answers) it.1.0.answers in
        let long : length (and_answer r.answers (answer_in it.1.0.frame)) ≡ suc (length r.answers) = ap length same ∙ last_length r.answers it.0 in
        let is = a.1.0 in
        let all = h.count in
        subst (λ o. Reading wanted start (Taken o r) units now_units q then then) (sym it.1.0.reads) (record {
          n = a.0;
          riders = a.1.1.1;
          count = omega (arith, long, is, all);
          among = subst (AllIn (programmed units)) (sym same) (in_last (programmed units) r.answers it.0 h.among it.1.1);
          done = λ some lt. absurd (let z : ⊥ = omega (arith, lt) in z);
        })

  asking_takes : (asked : Asked) (r : Round) (units now_units : List UnitState) (y : Ldata) (q : List Ldata) → Asking wanted start asked r units now_units (y ∷ q) → Asking wanted start asked (Taken (ldata_in (cemi_octets y)) r) units now_units q
  asking_takes asked r units now_units y q h = by_confirmed r.confirmed refl h.confirmed where
    by_confirmed : (c : Option Bool) → r.confirmed ≡ c → IsConfirmed wanted start (verdict wanted start asked units) c (y ∷ q) → Asking wanted start asked (Taken (ldata_in (cemi_octets y)) r) units now_units q
    by_confirmed (Some e) is c = absurd (let z : y ∷ q ≡ [] = c.1 in cc)
    by_confirmed None is c =
        let first : c.0 ≡ y = cc in
        let empty : q ≡ [] = cc in
        let x : ReadsConfirmation (verdict wanted start asked units) y = subst (ReadsConfirmation (verdict wanted start asked units)) first c.1.1 in
        let same : and_answer r.answers (answer_in x.frame) ≡ [] = ap (and_answer r.answers) x.answers ∙ h.none in
        let told : confirmed_by r.confirmed x.frame ≡ Some x.frame.error = ap (λ z. confirmed_by z x.frame) is ∙ ap (λ b. cond b (Some x.frame.error) None) x.con in
        subst (λ o. Asking wanted start asked (Taken o r) units now_units q) (sym x.reads) (record {
          none = same;
          sent = h.sent;
          confirmed = subst (λ z. IsConfirmed wanted start (verdict wanted start asked units) z q) (sym told) (x.error_is, empty);
        })

  over_takes : (asked : Asked) (r : Round) (units now_units : List UnitState) (y : Ldata) (q : List Ldata) (since now then : ℕ) → Over wanted start asked r units now_units (y ∷ q) since now → Over wanted start asked (Taken (ldata_in (cemi_octets y)) r) units now_units q then then
  over_takes Read r units now_units y q since now then h = reading_takes r units now_units y q since now then h
  over_takes Connect r units now_units y q since now then h = asking_takes Connect r units now_units y q h
  over_takes Disconnect r units now_units y q since now then h = asking_takes Disconnect r units now_units y q h
  over_takes Write r units now_units y q since now then h = asking_takes Write r units now_units y q h

  same_frame : (o : Option Ldata) (r : Round) → (Taken o r).frame ≡ r.frame
  same_frame None r = refl
  same_frame (Some frame) r = refl

  same_base : (o : Option Ldata) (r : Round) (rs : List Round) → base wanted start (Taken o r ∷ rs) ≡ base wanted start (r ∷ rs)
  same_base o r rs = ap (λ z. cond (is_write z) (map (given wanted) start) (base wanted start rs)) (same_frame o r)

  pub takes_rides : (rs : List Round) (since now then : ℕ) (units : List UnitState) (fly : Option Ldata) (y : Ldata) (q : List Ldata) → Now rs since now units fly (y ∷ q) → Now (on_newest (with_frame (ldata_in (cemi_octets y))) rs) then then units fly q
  takes_rides [] since now then units fly y q h = absurd (let z : y ∷ q ≡ [] = h.1.0 in cc)
  takes_rides (r ∷ rs) since now then units (Some f) y q h = absurd (let z : y ∷ q ≡ [] = h.1.1.0.empty in cc)
  takes_rides (r ∷ rs) since now then units None y q h =
      let o : Option Ldata = ldata_in (cemi_octets y) in
      let turn = h.0 in (
        record { asked = turn.asked; asks = same_frame o r ∙ turn.asks; may = turn.may },
        (
          h.1.0,
          (
            subst (λ b. Over wanted start turn.asked (Taken o r) b units q then then) (sym (same_base o r rs)) (over_takes turn.asked r (base wanted start (r ∷ rs)) units y q since now then h.1.1.0),
            subst (λ b. AreAs b units) (sym (same_base o r rs)) h.1.1.1,
          ),
        ),
      )

  -- ---- time passes, where nothing is on its way and each response is sent

  over_passes : (asked : Asked) (r : Round) (units now_units : List UnitState) (since now then later : ℕ) → todo now_units ≡ 0 → Over wanted start asked r units now_units [] since now → Over wanted start asked r units now_units [] then later
  over_passes Read r units now_units since now then later sent h = record { n = h.n; riders = h.riders; count = h.count; among = h.among; done = λ c lt. (refl, sent) }
  over_passes Connect r units now_units since now then later sent h = h
  over_passes Disconnect r units now_units since now then later sent h = h
  over_passes Write r units now_units since now then later sent h = h

  pub passes_rides : (rs : List Round) (since now then later : ℕ) (units : List UnitState) → todo units ≡ 0 → Now rs since now units None [] → Now rs then later units None []
  passes_rides [] since now then later units sent h = h
  passes_rides (r ∷ rs) since now then later units sent h = (h.0, (h.1.0, (over_passes h.0.asked r (base wanted start (r ∷ rs)) units since now then later sent h.1.1.0, h.1.1.1)))

-- ---- the bus

read_no_write : (wanted : IndAddr) → is_write (Some (frame_of wanted Read)) ≡ false
unfolding service_in tpdu_in apdu_in
read_no_write wanted = refl

pub write_is : (wanted : IndAddr) → is_write (Some (frame_of wanted Write)) ≡ true
unfolding service_in tpdu_in apdu_in
write_is wanted = refl

pub no_write : (wanted : IndAddr) (asked : Asked) → (asked ≡ Write → ⊥) → is_write (Some (frame_of wanted asked)) ≡ false
no_write wanted Read h = read_no_write wanted
no_write wanted Connect h = refl
no_write wanted Disconnect h = refl
no_write wanted Write h = absurd (h refl)

pub has_as : (raw : ℕ) (base units : List UnitState) → AreAs base units → has_address raw units ≡ has_address raw base
has_as raw [] [] h = refl
has_as raw [] (u ∷ units) h = absurd h
has_as raw (b ∷ base) [] h = absurd h
has_as raw (b ∷ base) (u ∷ units) h = ap (λ (a : IndAddr). (a.raw == raw) || has_address raw units) h.0.address ∙ ap (λ t. (b.address.raw == raw) || t) (has_as raw base units h.1)

-- the units after the client's frame went over the bus
abbrev pub carried_so : IndAddr → IndAddr → Asked → List UnitState → List UnitState
carried_so me wanted asked units = all_get 0 [] (on_bus me (frame_of wanted asked)) units

module _ (wanted : IndAddr) (start : List UnitState) where
  abbrev Units : List Round → List UnitState
  Units = base wanted start

  pub base_on : (asked : Asked) (r : Round) (rs : List Round) → (asked ≡ Write → ⊥) → AsksFor wanted asked r → Units (r ∷ rs) ≡ Units rs
  base_on asked r rs n asks = ap (λ z. cond (is_write z) (map (given wanted) start) (Units rs)) asks ∙ ap (λ t. cond t (map (given wanted) start) (Units rs)) (no_write wanted asked n)

  pub silent_base : (before : List Round) → AllSilent wanted before → Units before ≡ start
  silent_base [] h = refl
  silent_base (r ∷ before) h = base_on Read r before (λ e. cc) h.0.reads ∙ silent_base before h.1

  write_base : (rs : List Round) → MayAsk wanted rs Write → Units rs ≡ start
  write_base [] h = elim h [ ]
  write_base (d ∷ []) h = elim h [ ]
  write_base (d ∷ (c ∷ [])) h = elim h [ ]
  write_base (d ∷ c ∷ r ∷ before) (Writes searches asks ends ok one) =
      base_on Disconnect d (c ∷ r ∷ before) (λ e. cc) ends ∙ (base_on Connect c (r ∷ before) (λ e. cc) asks ∙ (base_on Read r before (λ e. cc) searches.reads ∙ silent_base before searches.silent))

  pub written_base : (r : Round) (rs : List Round) → AsksFor wanted Write r → Units (r ∷ rs) ≡ map (given wanted) start
  written_base r rs asks = ap (λ z. cond (is_write z) (map (given wanted) start) (Units rs)) asks ∙ ap (λ t. cond t (map (given wanted) start) (Units rs)) (write_is wanted)

  -- after its frame went over the bus, with its confirmation on its way
  abbrev Carried : Asked → Round → List UnitState → List UnitState → Ldata → ℕ → ℕ → Type 0
  Carried asked r units now_units con since now = Over wanted start asked r units now_units (con ∷ []) since now × AreAs units now_units

  asks_none : (error : Bool) (c : Option Bool) (con : Ldata) → c ≡ None → ReadsConfirmation error con → IsConfirmed wanted start error c (con ∷ [])
  asks_none error None con e h = (con, (refl, h))
  asks_none error (Some x) con e h = absurd (cc)

  pub carried_over : (me : IndAddr) (asked : Asked) (f : Ldata) (r : Round) (rs : List Round) (units : List UnitState) (q : List Ldata) (con : Ldata) (since now : ℕ) → AsksFor wanted asked r → MayAsk wanted rs asked → Rising wanted start f r q units → AreAs (Units rs) units
      → ReadsConfirmation (verdict wanted start asked (Units rs)) con → Carried asked r (Units (r ∷ rs)) (carried_so me wanted asked units) con since now
  carried_over me Read f r rs units q con since now asks may h held reads =
      let x = read_as (Units rs) units held h.sent in
      let none : length r.answers ≡ 0 = ap length h.none in
      let all : todo (map reads_unit units) ≡ length (programmed (Units rs)) = x.1 in
      let there : Carried Read r (Units rs) (map reads_unit units) con since now = (record { n = 0; riders = inl (reads, refl); count = omega (arith, none, all); among = subst (AllIn (programmed (Units rs))) (sym h.none) tt; done = λ some lt. absurd (some h.unconfirmed) }, x.0) in
      subst (λ z. Carried Read r z (carried_so me wanted Read units) con since now) (sym (base_on Read r rs (λ e. cc) asks)) (subst (λ z. Carried Read r (Units rs) z con since now) (sym (get_read me wanted 0 units)) there)
  carried_over me Connect f r rs units q con since now asks may h held reads =
      let there : Carried Connect r (Units rs) units con since now = (record { none = h.none; sent = h.sent; confirmed = asks_none (verdict wanted start Connect (Units rs)) r.confirmed con h.unconfirmed reads }, held) in
      subst (λ z. Carried Connect r z (carried_so me wanted Connect units) con since now) (sym (base_on Connect r rs (λ e. cc) asks)) (subst (λ z. Carried Connect r (Units rs) z con since now) (sym (get_connect me wanted 0 units)) there)
  carried_over me Disconnect f r rs units q con since now asks may h held reads =
      let there : Carried Disconnect r (Units rs) units con since now = (record { none = h.none; sent = h.sent; confirmed = asks_none (verdict wanted start Disconnect (Units rs)) r.confirmed con h.unconfirmed reads }, held) in
      subst (λ z. Carried Disconnect r z (carried_so me wanted Disconnect units) con since now) (sym (base_on Disconnect r rs (λ e. cc) asks)) (subst (λ z. Carried Disconnect r (Units rs) z con since now) (sym (get_disconnect me wanted 0 units)) there)
  carried_over me Write f r rs units q con since now asks may h held reads =
      let x = write_as wanted (Units rs) units held h.sent in
      let began : map (given wanted) (Units rs) ≡ Units (r ∷ rs) = ap (map (given wanted)) (write_base rs may) ∙ sym (written_base r rs asks) in
      let there : Carried Write r (map (given wanted) (Units rs)) (map (given wanted) units) con since now = (record { none = h.none; sent = x.1; confirmed = asks_none false r.confirmed con h.unconfirmed reads }, x.0) in
      subst (λ z. Carried Write r z (carried_so me wanted Write units) con since now) began (subst (λ z. Carried Write r (map (given wanted) (Units rs)) z con since now) (sym (get_write me wanted 0 units)) there)

  -- ---- a response

  more_riders : (l : List IndAddr) (error : Bool) (q : List Ldata) (n : ℕ) (y : Ldata) (s : IndAddr) → ReadsAnswer s y → IsIn s l → Riders l error q n → Riders l error (q ++ y ∷ []) (suc n)
  more_riders l error [] n y s reads among h = inr (n, (refl, ((s, (reads, among)), h)))
  more_riders l error (x ∷ q) n y s reads among (inl c) = inl (c.0, more_riders l error q n y s reads among c.1)
  more_riders l error (x ∷ q) n y s reads among (inr a) = inr (suc a.0, (ap suc a.1.0, (a.1.1.0, more_riders l error q a.0 y s reads among a.1.1.1)))

  pub responds_over : (r : Round) (units now_units : List UnitState) (q : List Ldata) (since now at : ℕ) (y : Ldata) → ((s : IndAddr) → ReadsAnswer s (response s)) → AreAs units now_units → oldest_at at now_units ≡ Some y → Reading wanted start r units now_units q since now
      → Reading wanted start r units (changed at sends now_units) (q ++ y ∷ []) since now × AreAs units (changed at sends now_units)
  responds_over r units now_units q since now at y back held old h =
      let x = responds at units now_units y held old in
      let fewer = x.fewer in
      let count = h.count in (
        record {
          n = suc h.n;
          riders = more_riders (programmed units) false q h.n y x.source (subst (ReadsAnswer x.source) (sym x.is) (back x.source)) x.among h.riders;
          count = omega (arith, fewer, count);
          among = h.among;
          done = λ some lt. absurd (let none : todo now_units ≡ 0 = (h.done some lt).1 in let z : ⊥ = omega (arith, none, fewer) in z);
        },
        x.held,
      )

-- what the client reads of a response
pub reads_back : (s : IndAddr) → ReadsAnswer s (response s)
unfolding service_in tpdu_in apdu_in
reads_back s = record { frame = response s; reads = written_in Ind false true s.raw 0 (apdu_octets AddressResponse) (omega arith) (omega arith) refl; answers = refl; no_con = refl }
