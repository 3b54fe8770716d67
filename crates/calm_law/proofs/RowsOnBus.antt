-- All devices of a calm line: frames go over the bus.
use Rattle.std.proofs.Common.{◌≡◌, ℕ, ◌+◌, ◌≤◌, ◌⊎◌, List, [], ◌∷◌, ◌++◌, Bool, true, false, cond, not, ◌&&◌, Option, Some, None, refl, sym, ◌∙◌, ap, subst, arith, inl, inr, append_assoc, append-nil, drop}
use Rattle.std.specs.Prelude.{◌==◌}
use Rattle.std.proofs.lemmas.Bool.{eq-eqb, eqb-true}
use Rattle.knx_model.specs.declared.address.IndAddr.{IndAddr}
use Rattle.knx_model.specs.declared.connection.TransportFrame.{TransportFrame}
use Rattle.knx_model.specs.declared.device.Took.TheVariants.{Taken}
use Rattle.knx_model.specs.declared.frames.cemi.Ldata.{Ldata}
use Rattle.knx_model.specs.declared.frames.cemi.LdataCode.TheVariants.{Req, Con, Ind}
use Rattle.knx_model.specs.declared.connection.TransportFrame.TheVariants.{Other}
use Rattle.knx_model.specs.Cemi.{Written as cemi_octets}
use Rattle.line_model.specs.ChannelLost.{is_confirmation}
use Rattle.line_law.proofs.ReadBack.{IsRead, Read, Unread, own_read}
use Rattle.knx_model.specs.ApduReading.{option_map}
use Rattle.knx_model.specs.Connection.{frame_in}
use Rattle.knx_model.specs.DeviceConnection.{DeviceEnd}
use Rattle.knx_model.specs.DeviceState.{DeviceState}
use Rattle.knx_model.specs.DeviceFrames.{Whole, own_frame, took_of, takes}
use Rattle.knx_model.specs.DeviceSending.{pops}
use Rattle.knx_model.specs.Plans.{Plan}
use Rattle.line_model.specs.Reading.{is_con, ldata_in}
use Rattle.line_model.specs.Moments.{Moment, is_to, is_from}
use Rattle.line_model.specs.World.{on_bus, all_take, changed, others_take, is_among}
use Rattle.line_law.proofs.Coupled.{IsFrameOf}
use Rattle.calm_law.proofs.State.{is_con_frame, one_if, cons_in}
use Rattle.calm_law.proofs.Events.{cons_append, ind_is}
use Rattle.calm_law.proofs.Phases.{Item, Told, items_if, items_of, Phase, Rests, Opens, Ready, Sends, Served, Awaits, Owes, Acks, Leaves, fly_at, stream_at, connection_at, Wants, IsGood, Line}
use Rattle.calm_law.proofs.Books.{tried}
use Rattle.calm_law.proofs.SessionBus.{TakesIt, taken}
use Rattle.calm_law.proofs.SessionRests.{SameSession, group_taken, other_taken}
use Rattle.calm_law.proofs.Rows.{told_if, heard_if, item_in, items_in, to_it, fly_to, IsTold, AreTold, Willing, Row, Devices, Riders}

-- ---- the queue grows

in_append : (a : ℕ) (q k : List Ldata) → items_in a (q ++ k) ≡ items_in a q ++ items_in a k
in_append a [] k = refl
in_append a (y ∷ q) k = ap (λ z. item_in a y ++ z) (in_append a q k) ∙ sym (append_assoc (item_in a y) (items_in a q) (items_in a k))

in_one : (a : ℕ) (q : List Ldata) (y : Ldata) → items_in a (q ++ y ∷ []) ≡ items_in a q ++ item_in a y
in_one a q y = in_append a q (y ∷ []) ∙ ap (λ z. items_in a q ++ z) (append-nil (item_in a y))

told_append : (q : List Ldata) (y : Ldata) → AreTold q → IsTold y → AreTold (q ++ y ∷ [])
told_append [] y h g = (g, tt)
told_append (x ∷ q) y h g = (h.0, told_append q y h.1 g)

-- ---- one device

module _ (me : IndAddr) (a : ℕ) (plan : Plan) (old : Option DeviceState) (since : List Moment) (q : List Ldata) (now : ℕ) where
  -- a frame that is not its own joins the queue
  row_more : (fly : Option Ldata) (d : DeviceState) (y : Ldata) → item_in a y ≡ [] → Row me a plan old since fly q d now → Row me a plan old since fly (q ++ y ∷ []) d now
  row_more fly d y is row =
      let l = row.line in
      let same : items_in a (q ++ y ∷ []) ≡ items_in a q = in_one a q y ∙ ap (λ z. items_in a q ++ z) is ∙ append-nil (items_in a q) in
      record {
        k = row.k;
        n = row.n;
        e = row.e;
        phase = row.phase;
        flies = row.flies;
        line = record { attempts_are = l.attempts_are; stream_is = ap (λ z. z ++ items_of d.unsent) same ∙ l.stream_is; connection_is = l.connection_is; good = l.good; numbers = l.numbers };
        books = row.books;
        wants = row.wants;
        address = row.address;
        power = row.power;
      }

  -- nothing of its session changes
  row_same : (fly : Option Ldata) (d n : DeviceState) → SameSession d n → Row me a plan old since fly q d now → Row me a plan old since fly q n now
  row_same fly d n s row =
      let l = row.line in
      let address : n.address ≡ d.address = s.address in
      let L : Line me d.address plan row.k row.n row.e row.phase (tried a plan since) (items_in a q ++ items_of n.unsent) n.connection n.frames n.kept now
      = record {
        attempts_are = l.attempts_are;
        stream_is = ap (λ z. items_in a q ++ z) s.items ∙ l.stream_is;
        connection_is = s.connection ∙ l.connection_is;
        good = subst (λ z. IsGood plan row.e row.phase z n.kept) (sym s.frames) (subst (λ z. IsGood plan row.e row.phase d.frames z) (sym s.kept) l.good);
        numbers = l.numbers;
      } in
      record {
        k = row.k;
        n = row.n;
        e = row.e;
        phase = row.phase;
        flies = row.flies;
        line = subst (λ z. Line me z plan row.k row.n row.e row.phase (tried a plan since) (items_in a q ++ items_of n.unsent) n.connection n.frames n.kept now) (sym address) L;
        books = row.books;
        wants = subst (λ z. Wants (Willing plan old) plan row.k row.phase z n.kept) (sym s.frames) (subst (λ z. Wants (Willing plan old) plan row.k row.phase d.frames z) (sym s.kept) row.wants);
        address = ap (λ (z : IndAddr). z.raw) address ∙ row.address;
        power = s.power ∙ row.power;
      }

  -- its oldest unsent frame comes to the gateway
  own_item : (f : Ldata) (rest : List Ldata) → IsFrameOf a f → item_in a f ++ items_of rest ≡ items_of (f ∷ rest)
  own_item f rest own =
      let ind : is_con f.code ≡ false = ap (λ (z : Ldata). is_con z.code) own.1 in
      let at : (f.source == a) ≡ true = eq-eqb f.source a own.0 in
      ap (λ b. cond b (told_if (is_to a f)) (heard_if (is_from a f) (frame_in f.tpdu)) ++ items_of rest) ind ∙ ap (λ b. heard_if (not f.group && b) (frame_in f.tpdu) ++ items_of rest) at ∙ by_group f.group
    where
      by_group : (b : Bool) → heard_if (not b && true) (frame_in f.tpdu) ++ items_of rest ≡ items_if b (frame_in f.tpdu) (items_of rest)
      by_group true = refl
      by_group false = refl

  row_pops : (fly : Option Ldata) (d : DeviceState) (f : Ldata) (rest : List Ldata) → d.unsent ≡ f ∷ rest → IsFrameOf a f → Row me a plan old since fly q d now → Row me a plan old since fly (q ++ f ∷ []) (pops d) now
  row_pops fly d f rest is own row =
      let l = row.line in
      let left : (pops d).unsent ≡ rest = ap (λ z. drop 1 z) is in
      let stream : items_in a (q ++ f ∷ []) ++ items_of (pops d).unsent ≡ items_in a q ++ items_of d.unsent
      = ap (λ z. items_in a (q ++ f ∷ []) ++ items_of z) left ∙ ap (λ z. z ++ items_of rest) (in_one a q f) ∙ append_assoc (items_in a q) (item_in a f) (items_of rest)
      ∙ ap (λ z. items_in a q ++ z) (own_item f rest own) ∙ ap (λ z. items_in a q ++ items_of z) (sym is) in
      record {
        k = row.k;
        n = row.n;
        e = row.e;
        phase = row.phase;
        flies = row.flies;
        line = record { attempts_are = l.attempts_are; stream_is = stream ∙ l.stream_is; connection_is = l.connection_is; good = l.good; numbers = l.numbers };
        books = row.books;
        wants = row.wants;
        address = row.address;
        power = row.power;
      }

  other_item : (b : ℕ) (f : Ldata) → IsFrameOf b f → (b == a) ≡ false → item_in a f ≡ []
  other_item b f own apart =
      let ind : is_con f.code ≡ false = ap (λ (z : Ldata). is_con z.code) own.1 in
      let at : (f.source == a) ≡ false = ap (λ z. z == a) own.0 ∙ apart in
      ap (λ z. cond z (told_if (is_to a f)) (heard_if (is_from a f) (frame_in f.tpdu))) ind ∙ ap (λ z. heard_if (not f.group && z) (frame_in f.tpdu)) at ∙ by_group f.group
    where
      by_group : (g : Bool) → heard_if (not g && false) (frame_in f.tpdu) ≡ []
      by_group true = refl
      by_group false = refl

  -- ---- the client's frame goes over the bus

  abbrev con_of : Ldata → Bool → Ldata
  con_of f error = record (on_bus me f) { code = Con; error = error }

  con_item : (f : Ldata) (error : Bool) → item_in a (con_of f error) ≡ told_if (is_to a f)
  con_item f error = refl

  -- and is none of this device
  row_passes : (d : DeviceState) (f : Ldata) (error : Bool) → is_to a f ≡ false → Row me a plan old since (Some f) q d now → Row me a plan old since None (q ++ con_of f error ∷ []) d now
  row_passes d f error to row =
      let none : fly_to a (Some f) ≡ None = ap (λ b. to_it b (frame_in f.tpdu)) to in
      let landed : Row me a plan old since None q d now = record { k = row.k; n = row.n; e = row.e; phase = row.phase; flies = row.flies ∙ none; line = row.line; books = row.books; wants = row.wants; address = row.address; power = row.power } in
      row_more None d (con_of f error) (con_item f error ∙ ap told_if to) landed

  -- a frame that flies comes alone
  alone : (n e : ℕ) (phase : Phase) (f : TransportFrame) → fly_at n phase ≡ Some f → stream_at n e phase ≡ []
  alone n e Rests f h = refl
  alone n e (Opens true) f h = refl
  alone n e (Opens false) f h = absurd (cc)
  alone n e (Ready left closing) f h = refl
  alone n e (Sends place apdu expect next) f h = refl
  alone n e (Served told place apdu expect next o) f h = absurd (cc)
  alone n e (Awaits place apdu expect next v) f h = absurd (cc)
  alone n e (Owes left closing v m) f h = refl
  alone n e (Acks true left closing v m) f h = refl
  alone n e (Acks false left closing v m) f h = absurd (cc)
  alone n e (Leaves true left) f h = refl
  alone n e (Leaves false left) f h = absurd (cc)

  both_empty : (l k : List Item) → l ++ k ≡ [] → (l ≡ []) × (k ≡ [])
  both_empty [] k h = (refl, h)
  both_empty (x ∷ l) k h = absurd (cc)

  -- and is this device's
  row_lands : (d : DeviceState) (f : Ldata) → f.group ≡ false → f.destination ≡ a → is_to a f ≡ true → Row me a plan old since (Some f) q d now
      → (took_of d (on_bus me f) ≡ Taken) × Row me a plan old since None (q ++ con_of f false ∷ []) (takes d (on_bus me f) now Whole) now
  row_lands d f group at to row =
      let l = row.line in
      let fr : TransportFrame = frame_in f.tpdu in
      let flies : fly_at row.n row.phase ≡ Some fr = row.flies ∙ ap (λ b. to_it b fr) to in
      let empty = both_empty (items_in a q) (items_of d.unsent) (l.stream_is ∙ alone row.n row.e row.phase fr flies) in
      let it : TakesIt me d.address plan row.n row.e now l.numbers d.frames d.kept d.values d.unsent d.last (Willing plan old) row.phase f.tpdu
      = taken me d.address plan row.n row.e now l.numbers d.frames d.kept d.values d.unsent d.last (Willing plan old) row.phase fr f.tpdu flies refl empty.1 l.good in
      let F : Ldata = own_frame me false d.address.raw f.tpdu in
      let frame_is : on_bus me f ≡ F = ap (λ g. own_frame me g f.destination f.tpdu) group ∙ ap (λ z. own_frame me false z f.tpdu) (at ∙ sym row.address) in
      let on : d.power ≡ true = row.power in
      let C : DeviceEnd = connection_at me d.address plan row.n row.e now row.phase in
      let D : DeviceState = record d { power = true; connection = C } in
      let d_is : d ≡ D = ap (λ (p : Bool). let z : DeviceState = record d { power = p } in z) on ∙ ap (λ (c : DeviceEnd). let z : DeviceState = record d { power = true; connection = c } in z) l.connection_is in
      let after_is : takes d (on_bus me f) now Whole ≡ it.after = ap (λ z. takes z (on_bus me f) now Whole) d_is ∙ ap (λ z. takes D z now Whole) frame_is ∙ it.is in
      let took : took_of d (on_bus me f) ≡ Taken = ap (λ z. took_of z (on_bus me f)) d_is ∙ ap (λ z. took_of D z) frame_is ∙ it.taken in
      let queue : items_in a (q ++ con_of f false ∷ []) ≡ Told ∷ [] = in_one a q (con_of f false) ∙ ap (λ z. z ++ item_in a (con_of f false)) empty.0 ∙ con_item f false ∙ ap told_if to in
      let L : Line me d.address plan row.k row.n row.e it.next (tried a plan since) (items_in a (q ++ con_of f false ∷ []) ++ items_of it.after.unsent) it.after.connection d.frames it.after.kept now
      = record {
        attempts_are = l.attempts_are ∙ sym (it.attempts row.k);
        stream_is = ap (λ z. z ++ items_of it.after.unsent) queue ∙ it.stream;
        connection_is = it.connection;
        good = it.good;
        numbers = l.numbers;
      } in
      let L2 : Line me it.after.address plan row.k row.n row.e it.next (tried a plan since) (items_in a (q ++ con_of f false ∷ []) ++ items_of it.after.unsent) it.after.connection it.after.frames it.after.kept now
      = subst (λ z. Line me z plan row.k row.n row.e it.next (tried a plan since) (items_in a (q ++ con_of f false ∷ []) ++ items_of it.after.unsent) it.after.connection it.after.frames it.after.kept now) (sym it.same.2)
      (subst (λ z. Line me d.address plan row.k row.n row.e it.next (tried a plan since) (items_in a (q ++ con_of f false ∷ []) ++ items_of it.after.unsent) it.after.connection z it.after.kept now) (sym it.same.0) L) in
      let there : Row me a plan old since None (q ++ con_of f false ∷ []) it.after now
      = record { k = row.k; n = row.n; e = row.e; phase = it.next; flies = it.lands; line = L2; books = it.books row.k a since row.books; wants = subst (λ z. Wants (Willing plan old) plan row.k it.next z it.after.kept) (sym it.same.0) (it.wants row.k row.wants); address = ap (λ (z : IndAddr). z.raw) it.same.2 ∙ row.address; power = it.same.1 } in
      (took, subst (λ z. Row me a plan old since None (q ++ con_of f false ∷ []) z now) (sym after_is) there)

-- ---- all of them

record Mapped (g : DeviceState → DeviceState) (o : Option DeviceState) (d : DeviceState) : Type 0 where
  from : DeviceState
  there : o ≡ Some from
  is : d ≡ g from

mapped : (g : DeviceState → DeviceState) (o : Option DeviceState) (d : DeviceState) → option_map g o ≡ Some d → Mapped g o d
mapped g None d h = absurd (cc)
mapped g (Some x) d h = record { from = x; there = refl; is = (let e : g x ≡ d = cc in sym e) }

-- the client's frame goes over the bus
pub riders_bus : (me : IndAddr) (plans : ℕ → Plan) (olds : ℕ → Option DeviceState) (since : ℕ → List Moment) (devices : Devices) (now : ℕ) (f : Ldata) (q : List Ldata) → Riders me plans olds since devices now (Some f) q → ldata_in (cemi_octets (record (on_bus me f) { code = Con; error = false })) ≡ Some (record (on_bus me f) { code = Con; error = false })
    → Riders me plans olds since (all_take now [] (Some (on_bus me f)) devices) now None (q ++ record (on_bus me f) { code = Con; error = false } ∷ [])
riders_bus me plans olds since devices now f q h reads =
    let con : Ldata = record (on_bus me f) { code = Con; error = false } in
    let is_one : is_con_frame con ≡ true = ap is_confirmation reads in
    record {
      rows = λ a d is. (let m : Mapped (λ d. takes d (on_bus me f) now Whole) (devices a) d = mapped (λ d. takes d (on_bus me f) now Whole) (devices a) d is in
          subst (λ z. Row me a (plans a) (olds a) (since a) None (q ++ con ∷ []) z now) (sym m.is) (by_group a m.from (h.rows a m.from m.there) f.group refl));
      told = told_append q con h.told (record { con_is = is_one; not_req = λ c. cc; reads = inl reads; error = λ c. refl });
      one = (let o : 1 + cons_in q ≤ 1 = h.one in let c = cons_append q (con ∷ []) in let b : one_if (is_con_frame con) ≡ 1 = ap one_if is_one in omega (arith, o, c, b));
    }
  where
    by_to : (a : ℕ) (d : DeviceState) → Row me a (plans a) (olds a) (since a) (Some f) q d now → f.group ≡ false → (b : Bool) → (f.destination == a) ≡ b → Row me a (plans a) (olds a) (since a) None (q ++ record (on_bus me f) { code = Con; error = false } ∷ []) (takes d (on_bus me f) now Whole) now
    by_to a d row group true at =
        let to : is_to a f ≡ true = rw (group, at) refl in
        (row_lands me a (plans a) (olds a) (since a) q now d f group (eqb-true f.destination a at) to row).1
    by_to a d row group false at =
        let to : is_to a f ≡ false = rw (group, at) refl in
        let apart : (f.destination == d.address.raw) ≡ false = ap (λ z. f.destination == z) row.address ∙ at in
        subst (λ z. Row me a (plans a) (olds a) (since a) None (q ++ record (on_bus me f) { code = Con; error = false } ∷ []) z now) (sym (other_taken d (on_bus me f) now group apart)) (row_passes me a (plans a) (olds a) (since a) q now d f false to row)

    by_group : (a : ℕ) (d : DeviceState) → Row me a (plans a) (olds a) (since a) (Some f) q d now → (b : Bool) → f.group ≡ b → Row me a (plans a) (olds a) (since a) None (q ++ record (on_bus me f) { code = Con; error = false } ∷ []) (takes d (on_bus me f) now Whole) now
    by_group a d row true group =
        let to : is_to a f ≡ false = rw group refl in
        row_same me a (plans a) (olds a) (since a) (q ++ record (on_bus me f) { code = Con; error = false } ∷ []) now None d (takes d (on_bus me f) now Whole) (group_taken d (on_bus me f) now group) (row_passes me a (plans a) (olds a) (since a) q now d f false to row)
    by_group a d row false group = by_to a d row group (f.destination == a) refl

-- so the device that it is for took it
pub one_took : (me : IndAddr) (plans : ℕ → Plan) (olds : ℕ → Option DeviceState) (since : ℕ → List Moment) (devices : Devices) (now : ℕ) (f : Ldata) (q : List Ldata) (d : DeviceState) → Riders me plans olds since devices now (Some f) q → f.group ≡ false → devices f.destination ≡ Some d
    → took_of d (on_bus me f) ≡ Taken
one_took me plans olds since devices now f q d h group is =
    let to : is_to f.destination f ≡ true = rw (group, eq-eqb f.destination f.destination refl) refl in
    (row_lands me f.destination (plans f.destination) (olds f.destination) (since f.destination) q now d f group refl to (h.rows f.destination d is)).0

-- ---- a device's frame goes over the bus: to the gateway, and one to a group to the other devices too

record Others (devices : Devices) (b a : ℕ) (d : DeviceState) : Type 0 where
  from : DeviceState
  there : devices a ≡ Some from
  same : SameSession from d
  itself : (b == a) ≡ true → d ≡ from

module _ (devices : Devices) (b now : ℕ) (f : Ldata) where
  unchanged : (a : ℕ) (d : DeviceState) → devices a ≡ Some d → Others devices b a d
  unchanged a d is = record { from = d; there = is; same = record { connection = refl; kept = refl; frames = refl; power = refl; address = refl; items = refl }; itself = λ e. refl }

  taken_by : (a : ℕ) (d : DeviceState) → f.group ≡ true → (s : Bool) → (b == a) ≡ s → cond s (devices a) (option_map (λ x. takes x f now Whole) (devices a)) ≡ Some d → Others devices b a d
  taken_by a d group true at is = unchanged a d is
  taken_by a d group false at is =
      let m : Mapped (λ x. takes x f now Whole) (devices a) d = mapped (λ x. takes x f now Whole) (devices a) d is in
      record { from = m.from; there = m.there; same = subst (λ z. SameSession m.from z) (sym m.is) (group_taken m.from f now group); itself = λ e. absurd (let x : false ≡ true = sym at ∙ e in cc) }

  others : (a : ℕ) (d : DeviceState) → others_take now (b ∷ []) (Some f) devices a ≡ Some d → Others devices b a d
  others a d is = by_group f.group refl is where
    among : (s : Bool) → (b == a) ≡ s → is_among (b ∷ []) a ≡ s
    among true e = rw e refl
    among false e = rw e refl

    by_group : (g : Bool) → f.group ≡ g → (cond g (all_take now (b ∷ []) (Some f) devices) devices) a ≡ Some d → Others devices b a d
    by_group true group h = taken_by a d group (b == a) refl (sym (ap (λ z. cond z (devices a) (option_map (λ x. takes x f now Whole) (devices a))) (among (b == a) refl)) ∙ h)
    by_group false group h = unchanged a d h

pub riders_send : (me : IndAddr) (plans : ℕ → Plan) (olds : ℕ → Option DeviceState) (since : ℕ → List Moment) (devices : Devices) (b now : ℕ) (fly : Option Ldata) (f : Ldata) (q rest : List Ldata) (sender : DeviceState) → Riders me plans olds since devices now fly q
    → devices b ≡ Some sender → sender.unsent ≡ f ∷ rest → IsFrameOf b f → Riders me plans olds since (changed b pops (others_take now (b ∷ []) (Some f) devices)) now fly (q ++ f ∷ [])
riders_send me plans olds since devices b now fly f q rest sender h there unsent own =
    record {
      rows = λ a d is. by_self a d (a == b) refl is;
      told = told_append q f h.told (record { con_is = ind_is f code ∙ sym ind; not_req = λ c. (let x : Ind ≡ Req = sym code ∙ c in cc); reads = by_read (own_read f own.1); error = λ c. absurd (let x : false ≡ true = sym ind ∙ c in cc) });
      one = (let o = h.one in let c = cons_append q (f ∷ []) in let z : one_if (is_con_frame f) ≡ 0 = ap one_if (ind_is f code) in omega (arith, o, c, z));
    }
  where
    code : f.code ≡ Ind
    code = ap (λ (z : Ldata). z.code) own.1

    ind : is_con f.code ≡ false
    ind = ap (λ (z : Ldata). is_con z.code) own.1

    by_read : IsRead f → (ldata_in (cemi_octets f) ≡ Some f) ⊎ ((ldata_in (cemi_octets f) ≡ None) × (frame_in f.tpdu ≡ Other))
    by_read (Read e) = inl e
    by_read (Unread e o) = inr (e, o)

    by_self : (a : ℕ) (d : DeviceState) → (s : Bool) → (a == b) ≡ s → cond s (option_map pops (others_take now (b ∷ []) (Some f) devices a)) (others_take now (b ∷ []) (Some f) devices a) ≡ Some d → Row me a (plans a) (olds a) (since a) fly (q ++ f ∷ []) d now
    by_self a d true at is =
        let m : Mapped pops (others_take now (b ∷ []) (Some f) devices a) d = mapped pops (others_take now (b ∷ []) (Some f) devices a) d is in
        let o : Others devices b a m.from = others devices b now f a m.from m.there in
        let same : a ≡ b = eqb-true a b at in
        let it : m.from ≡ o.from = o.itself (eq-eqb b a (sym same)) in
        let first : o.from ≡ sender = (let x : Some o.from ≡ Some sender = sym o.there ∙ ap devices same ∙ there in cc) in
        let left : o.from.unsent ≡ f ∷ rest = ap (λ (z : DeviceState). z.unsent) first ∙ unsent in
        let row : Row me a (plans a) (olds a) (since a) fly (q ++ f ∷ []) (pops o.from) now = row_pops me a (plans a) (olds a) (since a) q now fly o.from f rest left (subst (λ z. IsFrameOf z f) (sym same) own) (h.rows a o.from o.there) in
        subst (λ z. Row me a (plans a) (olds a) (since a) fly (q ++ f ∷ []) z now) (sym (m.is ∙ ap pops it)) row
    by_self a d false at is =
        let o : Others devices b a d = others devices b now f a d is in
        let apart : (b == a) ≡ false = not_same a b at in
        row_same me a (plans a) (olds a) (since a) (q ++ f ∷ []) now fly o.from d o.same (row_more me a (plans a) (olds a) (since a) q now fly o.from f (other_item me a (plans a) (olds a) (since a) q now b f own apart) (h.rows a o.from o.there))
      where
        not_same : (x y : ℕ) → (x == y) ≡ false → (y == x) ≡ false
        not_same x y e = grind (arith, e)
