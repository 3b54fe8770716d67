-- All devices of a calm line: what rides on the tunnel is, for each device, what its session awaits.
use Rattle.std.proofs.Common.{◌≡◌, ℕ, ◌+◌, ◌≤◌, ◌⊎◌, inl, inr, List, [], ◌∷◌, ◌++◌, Bool, true, false, cond, Option, Some, None, refl, sym, ◌∙◌, ap, subst, arith}
use Rattle.knx_model.specs.declared.address.IndAddr.{IndAddr}
use Rattle.knx_model.specs.declared.connection.TransportFrame.{TransportFrame}
use Rattle.knx_model.specs.declared.frames.cemi.Ldata.{Ldata}
use Rattle.knx_model.specs.Connection.{frame_in}
use Rattle.knx_model.specs.Device.{answer_in}
use Rattle.knx_model.specs.GoodPlan.{AnswersAll}
use Rattle.knx_model.specs.DeviceState.{DeviceState}
use Rattle.knx_model.specs.Plans.{Plan}
use Rattle.knx_model.specs.declared.frames.cemi.LdataCode.TheVariants.{Req}
use Rattle.knx_model.specs.declared.connection.TransportFrame.TheVariants.{Connect, Other}
use Rattle.knx_model.specs.Cemi.{Written as cemi_octets}
use Rattle.line_model.specs.Reading.{is_con, ldata_in}
use Rattle.line_model.specs.Moments.{Moment, is_to, is_from}
use Rattle.line_model.specs.Attempts.{Attempts, Resting, Running, put_so, confirmed_attempt, confirmed_so, heard_so, MayPut}
use Rattle.calm_law.proofs.State.{is_con_frame, one_if, cons_in}
use Rattle.calm_law.proofs.Phases.{Item, Told, Heard, items_if, items_of, Phase, Rests, Opens, Ready, Sends, Served, Awaits, Owes, Acks, Leaves, fly_at, stream_at, attempts_at, Goes, Wants, Line}
use Rattle.calm_law.proofs.SessionPuts.{NothingFlies, Put, put_kept}
use Rattle.calm_law.proofs.SessionTakes.{taken_item, SaysItem, Got, got_kept}
use Rattle.calm_law.proofs.Books.{Says, tried, tried_more, One, IsLeft, Decided, IsntOpening}
use Rattle.calm_law.proofs.Spending.{Ledger, ledger_more}
use Rattle.calm_law.proofs.SessionRests.{flies_or_told}

-- ---- what of it is a device's

abbrev pub told_if : Bool → List Item
told_if true = Told ∷ []
told_if false = []

abbrev pub heard_if : Bool → TransportFrame → List Item
heard_if true f = Heard f ∷ []
heard_if false f = []

-- the confirmation of a frame to it, or a frame of it
abbrev pub item_in : ℕ → Ldata → List Item
item_in a y = cond (is_con y.code) (told_if (is_to a y)) (heard_if (is_from a y) (frame_in y.tpdu))

abbrev pub items_in : ℕ → List Ldata → List Item
items_in a [] = []
items_in a (y ∷ q) = item_in a y ++ items_in a q

abbrev pub to_it : Bool → TransportFrame → Option TransportFrame
to_it true f = Some f
to_it false f = None

abbrev pub fly_to : ℕ → Option Ldata → Option TransportFrame
fly_to a None = None
fly_to a (Some f) = to_it (is_to a f) (frame_in f.tpdu)

-- a frame on its way to the client is read as it was written, or is none of a connection; a confirmation has no error
pub record IsTold (y : Ldata) : Type 0 where
  pub con_is : is_con_frame y ≡ is_con y.code
  pub not_req : y.code ≡ Req → ⊥
  pub reads : (ldata_in (cemi_octets y) ≡ Some y) ⊎ ((ldata_in (cemi_octets y) ≡ None) × (frame_in y.tpdu ≡ Other))
  pub error : is_con y.code ≡ true → y.error ≡ false

abbrev pub AreTold : List Ldata → Type 0
AreTold [] = Unit {0}
AreTold (y ∷ q) = IsTold y × AreTold q

-- what it is where it is taken
abbrev pub con_in : Ldata → Option Bool
con_in y = cond (is_con y.code) (Some y.error) None

abbrev pub frame_from : ℕ → Ldata → Option TransportFrame
frame_from a y = cond (is_con y.code) None (to_it (is_from a y) (frame_in y.tpdu))

abbrev pub flying : Option Ldata → ℕ
flying None = 0
flying (Some f) = 1

-- ---- one device: its plan, the moments since then, and what is on its way

-- the device as it was when the job was taken gives each wanted answer
abbrev pub Willing : Plan → Option DeviceState → Type 0
Willing plan None = Unit {0}
Willing plan (Some d) = AnswersAll (answer_in d.frames) plan d.kept

pub record Row (me : IndAddr) (a : ℕ) (plan : Plan) (old : Option DeviceState) (l : List Moment) (fly : Option Ldata) (q : List Ldata) (d : DeviceState) (now : ℕ) : Type 0 where
  pub k : ℕ
  pub n : ℕ
  pub e : ℕ
  pub phase : Phase
  pub flies : fly_at n phase ≡ fly_to a fly
  pub line : Line me d.address plan k n e phase (tried a plan l) (items_in a q ++ items_of d.unsent) d.connection d.frames d.kept now
  pub books : Ledger (Willing plan old) a plan k n e phase l
  pub wants : Wants (Willing plan old) plan k phase d.frames d.kept
  pub address : d.address.raw ≡ a
  pub power : d.power ≡ true

-- ---- all of them: what rides on the tunnel

abbrev pub Devices : Type 0
Devices = ℕ → Option DeviceState

pub record Riders (me : IndAddr) (plans : ℕ → Plan) (olds : ℕ → Option DeviceState) (since : ℕ → List Moment) (devices : Devices) (now : ℕ) (fly : Option Ldata) (q : List Ldata) : Type 0 where
  pub rows : (a : ℕ) (d : DeviceState) → devices a ≡ Some d → Row me a (plans a) (olds a) (since a) fly q d now
  pub told : AreTold q
  pub one : flying fly + cons_in q ≤ 1

-- ---- without a confirmation on its way none comes

not_con : (y : Ldata) (q : List Ldata) → is_con_frame y ≡ is_con y.code → cons_in (y ∷ q) ≡ 0 → (is_con y.code ≡ false) × (cons_in q ≡ 0)
not_con y q told none = by_code (is_con_frame y) refl where
  by_code : (b : Bool) → is_con_frame y ≡ b → (is_con y.code ≡ false) × (cons_in q ≡ 0)
  by_code true h = absurd (let c : one_if (is_con_frame y) ≡ 1 = ap one_if h in omega (arith, c, none))
  by_code false h = (sym told ∙ h, (let c : one_if (is_con_frame y) ≡ 0 = ap one_if h in omega (arith, c, none)))

-- none of these is a confirmation
abbrev NoneTold : List Item → Type 0
NoneTold [] = Unit {0}
NoneTold (Told ∷ l) = ⊥
NoneTold (Heard f ∷ l) = NoneTold l

none_append : (l k : List Item) → NoneTold l → NoneTold k → NoneTold (l ++ k)
none_append [] k h g = g
none_append (Told ∷ l) k h g = absurd h
none_append (Heard f ∷ l) k h g = none_append l k h g

heard_none : (b : Bool) (f : TransportFrame) → NoneTold (heard_if b f)
heard_none true f = tt
heard_none false f = tt

item_none : (a : ℕ) (y : Ldata) → is_con y.code ≡ false → NoneTold (item_in a y)
item_none a y h = subst (λ b. NoneTold (cond b (told_if (is_to a y)) (heard_if (is_from a y) (frame_in y.tpdu)))) (sym h) (heard_none (is_from a y) (frame_in y.tpdu))

in_none : (a : ℕ) (q : List Ldata) → AreTold q → cons_in q ≡ 0 → NoneTold (items_in a q)
in_none a [] told none = tt
in_none a (y ∷ q) told none = let two = not_con y q told.0.con_is none in none_append (item_in a y) (items_in a q) (item_none a y two.0) (in_none a q told.1 two.1)

of_none : (l : List Ldata) → NoneTold (items_of l)
of_none [] = tt
of_none (f ∷ l) = by_group f.group (of_none l) where
  by_group : (b : Bool) → NoneTold (items_of l) → NoneTold (items_if b (frame_in f.tpdu) (items_of l))
  by_group true h = h
  by_group false h = h

told_not : (l rest : List Item) → NoneTold l → l ≡ Told ∷ rest → ⊥
told_not l rest h e = subst NoneTold e h

-- so a frame of the client is on its way or nothing of its session flies
nothing_flies : (me : IndAddr) (a : ℕ) (plan : Plan) (old : Option DeviceState) (l : List Moment) (fly : Option Ldata) (q : List Ldata) (d : DeviceState) (now : ℕ) → Row me a plan old l fly q d now → fly_to a fly ≡ None → AreTold q → cons_in q ≡ 0 → NothingFlies (tried a plan l)
nothing_flies me a plan old l fly q d now row none told cons =
    let x = row.line in
    let no_told : (rest : List Item) → stream_at row.n row.e row.phase ≡ Told ∷ rest → ⊥
    = λ rest e. told_not (items_in a q ++ items_of d.unsent) rest (none_append (items_in a q) (items_of d.unsent) (in_none a q told cons) (of_none d.unsent)) (x.stream_is ∙ e) in
    subst NothingFlies (sym x.attempts_are) (flies_or_told me d.address plan row.n row.e now row.k row.phase (row.flies ∙ none) no_told)

not_opening : (me device : IndAddr) (plan : Plan) (k n e now : ℕ) (phase : Phase) → NothingFlies (attempts_at me device plan k n e now phase) → IsntOpening phase
not_opening me device plan k n e now Rests h = tt
not_opening me device plan k n e now (Opens fly) h = absurd (cc)
not_opening me device plan k n e now (Ready left closing) h = tt
not_opening me device plan k n e now (Sends place apdu expect next) h = tt
not_opening me device plan k n e now (Served told place apdu expect next o) h = tt
not_opening me device plan k n e now (Awaits place apdu expect next v) h = tt
not_opening me device plan k n e now (Owes left closing v m) h = tt
not_opening me device plan k n e now (Acks fly left closing v m) h = tt
not_opening me device plan k n e now (Leaves fly left) h = tt

-- each frame that is awaited is one of a connection
other_not : (n e : ℕ) (phase : Phase) (rest : List Item) → Heard Other ∷ rest ≡ stream_at n e phase → ⊥
other_not n e Rests rest h = cc
other_not n e (Opens true) rest h = cc
other_not n e (Opens false) rest h = cc
other_not n e (Ready left closing) rest h = cc
other_not n e (Sends place apdu expect next) rest h = cc
other_not n e (Served true place apdu expect next o) rest h = cc
other_not n e (Served false place apdu expect next o) rest h = cc
other_not n e (Awaits place apdu expect next v) rest h = cc
other_not n e (Owes left closing v m) rest h = cc
other_not n e (Acks true left closing v m) rest h = cc
other_not n e (Acks false left closing v m) rest h = cc
other_not n e (Leaves true left) rest h = cc
other_not n e (Leaves false left) rest h = cc

-- ---- the attempts, by what a moment is

confirmed_no : (now : ℕ) (t : Attempts) → confirmed_so now t None ≡ t
confirmed_no now (Resting k) = refl
confirmed_no now (Running k a) = refl

heard_no : (now : ℕ) (t : Attempts) → heard_so now t None ≡ t
heard_no now (Resting k) = refl
heard_no now (Running k a) = refl

confirmed_none : (now : ℕ) (error : Bool) (t : Attempts) → NothingFlies t → confirmed_so now t (Some error) ≡ t
confirmed_none now error (Resting k) h = refl
confirmed_none now error (Running k x) h = ap (λ z. confirmed_attempt k x now error z) h

module _ (me : IndAddr) (a : ℕ) (plan : Plan) (old : Option DeviceState) (l : List Moment) (m : Moment) (now : ℕ) (at : m.now ≡ now) where
  abbrev W : Type 0
  W = Willing plan old

  abbrev device : IndAddr
  device = record { raw = a }

  pub nothing_tried : Says a m None None None → tried a plan (m ∷ l) ≡ tried a plan l
  nothing_tried says = tried_more a plan m l None None None says ∙ ap (λ z. heard_so m.now z None) (confirmed_no m.now (tried a plan l)) ∙ heard_no m.now (tried a plan l)

  put_tried : (x : TransportFrame) → Says a m (Some x) None None → tried a plan (m ∷ l) ≡ put_so device plan now (tried a plan l) (Some x)
  put_tried x says =
      tried_more a plan m l (Some x) None None says ∙ ap (λ z. heard_so m.now z None) (confirmed_no m.now (put_so device plan m.now (tried a plan l) (Some x))) ∙ heard_no m.now (put_so device plan m.now (tried a plan l) (Some x))
      ∙ ap (λ z. put_so device plan z (tried a plan l) (Some x)) at

  confirmed_tried : (error : Bool) → Says a m None (Some error) None → tried a plan (m ∷ l) ≡ confirmed_so now (tried a plan l) (Some error)
  confirmed_tried error says = tried_more a plan m l None (Some error) None says ∙ heard_no m.now (confirmed_so m.now (tried a plan l) (Some error)) ∙ ap (λ z. confirmed_so z (tried a plan l) (Some error)) at

  item_tried : (item : Item) → SaysItem a m item → tried a plan (m ∷ l) ≡ taken_item now (tried a plan l) item
  item_tried Told says = confirmed_tried false says
  item_tried (Heard f) says = tried_more a plan m l None None (Some f) says ∙ ap (λ z. heard_so m.now z (Some f)) (confirmed_no m.now (tried a plan l)) ∙ ap (λ z. heard_so z (tried a plan l) (Some f)) at

  -- a moment that is nothing to the device
  pub row_nothing : (fly : Option Ldata) (q : List Ldata) (d : DeviceState) → Says a m None None None → Row me a plan old l fly q d now → Row me a plan old (m ∷ l) fly q d now
  row_nothing fly q d says row =
      let x = row.line in
      record {
        k = row.k;
        n = row.n;
        e = row.e;
        phase = row.phase;
        flies = row.flies;
        line = record { attempts_are = nothing_tried says ∙ x.attempts_are; stream_is = x.stream_is; connection_is = x.connection_is; good = x.good; numbers = x.numbers };
        books = ledger_more W a plan m None says row.n row.e row.k row.phase l (inl refl) row.books;
        wants = row.wants;
        address = row.address;
        power = row.power;
      }

  -- or the confirmation of another's frame
  row_confirmed : (error : Bool) (fly : Option Ldata) (q : List Ldata) (d : DeviceState) → Says a m None (Some error) None → NothingFlies (tried a plan l) → Row me a plan old l fly q d now → Row me a plan old (m ∷ l) fly q d now
  row_confirmed error fly q d says none row =
      let x = row.line in
      let there : NothingFlies (attempts_at me d.address plan row.k row.n row.e now row.phase) = subst NothingFlies x.attempts_are none in
      record {
        k = row.k;
        n = row.n;
        e = row.e;
        phase = row.phase;
        flies = row.flies;
        line = record { attempts_are = confirmed_tried error says ∙ confirmed_none now error (tried a plan l) none ∙ x.attempts_are; stream_is = x.stream_is; connection_is = x.connection_is; good = x.good; numbers = x.numbers };
        books = ledger_more W a plan m (Some error) says row.n row.e row.k row.phase l (inr (not_opening me d.address plan row.k row.n row.e now row.phase there)) row.books;
        wants = row.wants;
        address = row.address;
        power = row.power;
      }

  -- ---- the client puts a frame to this device

  pub row_put : (f : Ldata) (q : List Ldata) (d : DeviceState) → AreTold q → cons_in q ≡ 0 → Says a m (Some (frame_in f.tpdu)) None None → (frame_in f.tpdu ≡ Connect → One a l (IsLeft (Decided W a plan)) → ⊥) → Row me a plan old l None q d now → is_to a f ≡ true
      → Goes plan false d.frames d.kept → MayPut (tried a plan l) now f.tpdu (frame_in f.tpdu) → Row me a plan old (m ∷ l) (Some f) q d now
  row_put f q d told cons says undecided row to whole may =
      let x = row.line in
      let none : NothingFlies (tried a plan l) = nothing_flies me a plan old l None q d now row refl told cons in
      let p : Put me d.address plan row.n row.e now d.frames d.kept W row.k row.phase (frame_in f.tpdu)
      = put_kept me d.address plan row.n row.e now d.frames d.kept W row.k row.phase f.tpdu (frame_in f.tpdu) x.numbers refl whole x.good (subst NothingFlies x.attempts_are none) (subst (λ z. MayPut z now f.tpdu (frame_in f.tpdu)) x.attempts_are may) in
      let is_it : device ≡ d.address = ap (λ (n : ℕ). let z : IndAddr = record { raw = n } in z) (sym row.address) in
      record {
        k = p.begun;
        n = row.n;
        e = row.e;
        phase = p.next;
        flies = p.flies ∙ sym (ap (λ b. to_it b (frame_in f.tpdu)) to);
        line = record {
          attempts_are = put_tried (frame_in f.tpdu) says ∙ ap (λ z. put_so z plan now (tried a plan l) (Some (frame_in f.tpdu))) is_it ∙ ap (λ z. put_so d.address plan now z (Some (frame_in f.tpdu))) x.attempts_are ∙ p.is;
          stream_is = x.stream_is ∙ sym p.stream;
          connection_is = x.connection_is ∙ sym p.connection;
          good = p.good;
          numbers = x.numbers;
        };
        books = (p.books a m l says undecided row.books row.wants).0;
        wants = (p.books a m l says undecided row.books row.wants).1;
        address = row.address;
        power = row.power;
      }

  -- or to another one, or to a group
  pub row_other : (f : Ldata) (q : List Ldata) (d : DeviceState) → Says a m None None None → Row me a plan old l None q d now → is_to a f ≡ false → Row me a plan old (m ∷ l) (Some f) q d now
  row_other f q d says row to =
      let r = row_nothing None q d says row in
      record { k = r.k; n = r.n; e = r.e; phase = r.phase; flies = r.flies ∙ sym (ap (λ b. to_it b (frame_in f.tpdu)) to); line = r.line; books = r.books; wants = r.wants; address = r.address; power = r.power }

  -- ---- the client takes a frame

  module _ (fly : Option Ldata) (q : List Ldata) (d : DeviceState) (y : Ldata) where
    -- it was awaited
    row_item : (item : Item) → SaysItem a m item → item_in a y ≡ item ∷ [] → Row me a plan old l fly (y ∷ q) d now → Row me a plan old (m ∷ l) fly q d now
    row_item item says is row =
        let x = row.line in
        let stream : item ∷ (items_in a q ++ items_of d.unsent) ≡ stream_at row.n row.e row.phase = ap (λ z. z ++ items_in a q ++ items_of d.unsent) (sym is) ∙ x.stream_is in
        let g : Got me d.address plan row.k now d.frames d.kept W row.n row.e row.phase item (items_in a q ++ items_of d.unsent) = got_kept me d.address plan row.k now d.frames d.kept W row.n row.e row.phase item (items_in a q ++ items_of d.unsent) x.numbers x.good stream in
        record {
          k = row.k;
          n = g.number;
          e = g.expected;
          phase = g.next;
          flies = g.lands ∙ sym g.flew ∙ row.flies;
          line = record { attempts_are = item_tried item says ∙ ap (λ z. taken_item now z item) x.attempts_are ∙ g.is; stream_is = g.stream; connection_is = x.connection_is ∙ g.connection; good = g.good; numbers = g.numbers };
          books = g.books a m l says row.books;
          wants = g.wants row.wants;
          address = row.address;
          power = row.power;
        }

    -- it is another's
    row_skip : item_in a y ≡ [] → Row me a plan old l fly (y ∷ q) d now → Row me a plan old l fly q d now
    row_skip is row =
        let x = row.line in
        record {
          k = row.k;
          n = row.n;
          e = row.e;
          phase = row.phase;
          flies = row.flies;
          line = record { attempts_are = x.attempts_are; stream_is = ap (λ z. z ++ items_in a q ++ items_of d.unsent) (sym is) ∙ x.stream_is; connection_is = x.connection_is; good = x.good; numbers = x.numbers };
          books = row.books;
          wants = row.wants;
          address = row.address;
          power = row.power;
        }

    pub row_take : Says a m None (con_in y) (frame_from a y) → Row me a plan old l fly (y ∷ q) d now → AreTold q → (is_con y.code ≡ true → (y.error ≡ false) × (fly ≡ None) × (cons_in q ≡ 0)) → Row me a plan old (m ∷ l) fly q d now
    row_take says row told con = by_code (is_con y.code) refl where
      item_is : (b : Bool) → is_con y.code ≡ b → item_in a y ≡ cond b (told_if (is_to a y)) (heard_if (is_from a y) (frame_in y.tpdu))
      item_is b code = ap (λ z. cond z (told_if (is_to a y)) (heard_if (is_from a y) (frame_in y.tpdu))) code

      of_con : is_con y.code ≡ true → (b : Bool) → is_to a y ≡ b → Row me a plan old (m ∷ l) fly q d now
      of_con code true to = row_item Told (told_says code) (item_is true code ∙ ap told_if to) row where
        told_says : is_con y.code ≡ true → Says a m None (Some false) None
        told_says c = subst (λ z. Says a m None z None) (ap (λ b. cond b (Some y.error) None) c ∙ ap (λ z. Some z) (con c).0) (subst (λ z. Says a m None (con_in y) z) (ap (λ b. cond b None (to_it (is_from a y) (frame_in y.tpdu))) c) says)
      of_con code false to =
          let skipped : Row me a plan old l fly q d now = row_skip (item_is true code ∙ ap told_if to) row in
          let c = con code in
          let none : NothingFlies (tried a plan l) = nothing_flies me a plan old l fly q d now skipped (ap (λ z. fly_to a z) c.1) told c.2 in
          let s : Says a m None (Some y.error) None = subst (λ z. Says a m None z None) (ap (λ b. cond b (Some y.error) None) code) (subst (λ z. Says a m None (con_in y) z) (ap (λ b. cond b None (to_it (is_from a y) (frame_in y.tpdu))) code) says) in
          row_confirmed y.error fly q d s none skipped

      ind_says : is_con y.code ≡ false → (b : Bool) → is_from a y ≡ b → Says a m None None (to_it b (frame_in y.tpdu))
      ind_says code b from =
          subst (λ z. Says a m None z (to_it b (frame_in y.tpdu))) (ap (λ z. cond z (Some y.error) None) code)
          (subst (λ z. Says a m None (con_in y) z) (ap (λ z. cond z None (to_it (is_from a y) (frame_in y.tpdu))) code ∙ ap (λ z. to_it z (frame_in y.tpdu)) from) says)

      of_ind : is_con y.code ≡ false → (b : Bool) → is_from a y ≡ b → Row me a plan old (m ∷ l) fly q d now
      of_ind code true from = row_item (Heard (frame_in y.tpdu)) (ind_says code true from) (item_is false code ∙ ap (λ z. heard_if z (frame_in y.tpdu)) from) row
      of_ind code false from = row_nothing fly q d (ind_says code false from) (row_skip (item_is false code ∙ ap (λ z. heard_if z (frame_in y.tpdu)) from) row)

      by_code : (b : Bool) → is_con y.code ≡ b → Row me a plan old (m ∷ l) fly q d now
      by_code true code = of_con code (is_to a y) refl
      by_code false code = of_ind code (is_from a y) refl

    -- it is none of a connection, and the client doesn't read it
    row_unread : Says a m None None None → is_con y.code ≡ false → frame_in y.tpdu ≡ Other → Row me a plan old l fly (y ∷ q) d now → Row me a plan old (m ∷ l) fly q d now
    row_unread says code other row = by_from (is_from a y) refl where
      by_from : (b : Bool) → is_from a y ≡ b → Row me a plan old (m ∷ l) fly q d now
      by_from true from =
          let is : item_in a y ≡ Heard Other ∷ [] = ap (λ z. cond z (told_if (is_to a y)) (heard_if (is_from a y) (frame_in y.tpdu))) code ∙ ap (λ z. heard_if z (frame_in y.tpdu)) from ∙ ap (λ z. heard_if true z) other in
          absurd (other_not row.n row.e row.phase (items_in a q ++ items_of d.unsent) (ap (λ z. z ++ items_in a q ++ items_of d.unsent) (sym is) ∙ row.line.stream_is))
      by_from false from = row_nothing fly q d says (row_skip (ap (λ z. cond z (told_if (is_to a y)) (heard_if (is_from a y) (frame_in y.tpdu))) code ∙ ap (λ z. heard_if z (frame_in y.tpdu)) from) row)

-- ---- all of them

abbrev pub more : Moment → (ℕ → List Moment) → ℕ → List Moment
more m since a = m ∷ since a

-- the client takes a frame, which it reads or doesn't
abbrev pub IsTaken : ℕ → Moment → Ldata → Type 0
IsTaken a m y = Says a m None (con_in y) (frame_from a y) ⊎ (Says a m None None None × (is_con y.code ≡ false) × (frame_in y.tpdu ≡ Other))

pub riders_take : (me : IndAddr) (plans : ℕ → Plan) (olds : ℕ → Option DeviceState) (since : ℕ → List Moment) (devices : Devices) (now : ℕ) (fly : Option Ldata) (y : Ldata) (q : List Ldata) (m : Moment) → m.now ≡ now → ((a : ℕ) → IsTaken a m y)
    → Riders me plans olds since devices now fly (y ∷ q) → Riders me plans olds (more m since) devices now fly q
riders_take me plans olds since devices now fly y q m at says h =
    record {
      rows = λ a d is. by_says a d (says a) (h.rows a d is);
      told = h.told.1;
      one = (let o : flying fly + (one_if (is_con_frame y) + cons_in q) ≤ 1 = h.one in omega (arith, o));
    }
  where
    no_flight : (f : Option Ldata) → flying f ≡ 0 → f ≡ None
    no_flight None e = refl
    no_flight (Some f) e = absurd (let g : 1 ≡ 0 = e in omega (arith, g))

    alone : is_con y.code ≡ true → (fly ≡ None) × (cons_in q ≡ 0)
    alone code =
        let o : flying fly + (one_if (is_con_frame y) + cons_in q) ≤ 1 = h.one in
        let c : one_if (is_con_frame y) ≡ 1 = ap one_if (h.told.0.con_is ∙ code) in
        (no_flight fly (omega (arith, o, c)), omega (arith, o, c))

    by_says : (a : ℕ) (d : DeviceState) → IsTaken a m y → Row me a (plans a) (olds a) (since a) fly (y ∷ q) d now → Row me a (plans a) (olds a) (m ∷ since a) fly q d now
    by_says a d (inl s) row = row_take me a (plans a) (olds a) (since a) m now at fly q d y s row h.told.1 (λ code. let n = alone code in (h.told.0.error code, n.0, n.1))
    by_says a d (inr u) row = row_unread me a (plans a) (olds a) (since a) m now at fly q d y u.0 u.1 u.2 row

-- the client puts a frame
pub record PutsTo (a : ℕ) (plan : Plan) (old : Option DeviceState) (l : List Moment) (now : ℕ) (f : Ldata) (d : DeviceState) : Type 0 where
  pub whole : Goes plan false d.frames d.kept
  pub may : MayPut (tried a plan l) now f.tpdu (frame_in f.tpdu)
  pub undecided : frame_in f.tpdu ≡ Connect → One a l (IsLeft (Decided (Willing plan old) a plan)) → ⊥

pub riders_put : (me : IndAddr) (plans : ℕ → Plan) (olds : ℕ → Option DeviceState) (since : ℕ → List Moment) (devices : Devices) (now : ℕ) (f : Ldata) (q : List Ldata) (m : Moment) → m.now ≡ now → ((a : ℕ) → Says a m (to_it (is_to a f) (frame_in f.tpdu)) None None) → Riders me plans olds since devices now None q → cons_in q ≡ 0
    → ((a : ℕ) (d : DeviceState) → devices a ≡ Some d → is_to a f ≡ true → PutsTo a (plans a) (olds a) (since a) now f d) → Riders me plans olds (more m since) devices now (Some f) q
riders_put me plans olds since devices now f q m at says h cons to =
    record {
      rows = λ a d is. by_to a d is (h.rows a d is) (is_to a f) refl;
      told = h.told;
      one = omega (arith, cons);
    }
  where
    by_to : (a : ℕ) (d : DeviceState) → devices a ≡ Some d → Row me a (plans a) (olds a) (since a) None q d now → (b : Bool) → is_to a f ≡ b → Row me a (plans a) (olds a) (m ∷ since a) (Some f) q d now
    by_to a d is row true e =
        let x = to a d is e in
        row_put me a (plans a) (olds a) (since a) m now at f q d h.told cons (subst (λ b. Says a m (to_it b (frame_in f.tpdu)) None None) e (says a)) x.undecided row e x.whole x.may
    by_to a d is row false e = row_other me a (plans a) (olds a) (since a) m now at f q d (subst (λ b. Says a m (to_it b (frame_in f.tpdu)) None None) e (says a)) row e

-- nothing comes and none goes
pub riders_nothing : (me : IndAddr) (plans : ℕ → Plan) (olds : ℕ → Option DeviceState) (since : ℕ → List Moment) (devices : Devices) (now : ℕ) (fly : Option Ldata) (q : List Ldata) (m : Moment) → m.now ≡ now → ((a : ℕ) → Says a m None None None) → Riders me plans olds since devices now fly q → Riders me plans olds (more m since) devices now fly q
riders_nothing me plans olds since devices now fly q m at says h = record { rows = λ a d is. row_nothing me a (plans a) (olds a) (since a) m now at fly q d (says a) (h.rows a d is); told = h.told; one = h.one }
