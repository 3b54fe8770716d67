-- On a calm line a frame of a device is taken only while a job of the device is held.
use Rattle.std.proofs.Common.{◌≡◌, ◌≢◌, ℕ, suc, List, [], ◌∷◌, ◌++◌, Bool, true, false, cond, Option, Some, None, refl, sym, ◌∙◌, ap, subst, inl, inr, ◌⊎◌}
use Rattle.knx_model.specs.declared.address.IndAddr.{IndAddr}
use Rattle.knx_model.specs.declared.connection.TransportFrame.TheVariants.{Other}
use Rattle.knx_model.specs.declared.frames.cemi.Ldata.{Ldata}
use Rattle.knx_model.specs.declared.frames.cemi.LdataCode.{LdataCode}
use Rattle.knx_model.specs.declared.frames.cemi.LdataCode.TheVariants.{Req, Con, Ind}
use Rattle.knx_model.specs.Cemi.{Written as cemi_octets}
use Rattle.knx_model.specs.Connection.{frame_in}
use Rattle.knx_model.specs.DeviceState.{DeviceState}
use Rattle.line_model.specs.declared.log.LogEntry.{LogEntry}
use Rattle.line_model.specs.ChannelLost.{is_lost, is_new_request, last_frame}
use Rattle.line_model.specs.ClientView.{ClientChannel, Fresh, Sought, RefusedBy, Unanswered, Open, Lost, Deed, Puts, Takes, Loses, Nothing, own_address, as_counted, channel, counts, deed, deed_in, deed_of, or_takes}
use Rattle.line_model.specs.Leaves.{StaysOpen}
use Rattle.line_model.specs.Log.{Job, log_before}
use Rattle.line_model.specs.Moments.{heard_from, is_from, is_to, transport_of, where_is}
use Rattle.line_model.specs.Reading.{RequestFrame, is_con, is_ind, ldata_in, request_in}
use Rattle.line_model.specs.Record.{Entry, Item, Put, Renewed, Got, Quiet, Placed, entries, entry, item_of, noted, placed_if, put_in}
use Rattle.line_model.specs.Tunnel as tunnel
use Rattle.line_model.specs.Tunnel.{Tunnel, TunnelEvent, Send, From, Renew, Up, UpRefused, Down, LoseUp, LoseDown, Carried, Repeat, Close, Pass, Elsewhere, Commissions, MayHappen, step}
use Rattle.line_model.specs.World.{World}
use Rattle.line_model.specs.Waiting.{IsResting}
use Rattle.calm_law.specs.CalmCounts.{EachHeard, HeardSo, NoneHeld}
use Rattle.calm_law.specs.CalmTunnel.{IsCalm}
use Rattle.calm_law.proofs.Books.{tried}
use Rattle.calm_law.proofs.Held.{HeldJob}
use Rattle.calm_law.proofs.Joined.{step_now}
use Rattle.calm_law.proofs.JoinedTime.{phase_rests}
use Rattle.calm_law.proofs.Phases.{Phase, Rests, Item as StreamItem, Heard, items_of, stream_at}
use Rattle.calm_law.proofs.Rows.{Devices, IsTold, Row, heard_if, item_in, items_in, told_if}
use Rattle.calm_law.proofs.Sessions.{Whole}
use Rattle.calm_law.proofs.State.{NoStrays, Steps, none_strays, ridden}
use Rattle.calm_law.proofs.Law.{Inv, May, step_kept}

-- ---- a frame that is taken

-- one that is taken of a device is no confirmation, and comes from it
pub record IsOf (a : ℕ) (y : Ldata) : Type 0 where
  pub no_con : is_con y.code ≡ false
  pub from : is_from a y ≡ true

ind_not : (code : LdataCode) → is_ind code ≡ true → is_con code ≡ false
ind_not Req h = refl
ind_not Con h = absurd (cc)
ind_not Ind h = refl

of_frame : (a : ℕ) (y : Ldata) → transport_of (where_is (is_from a) (where_is (λ (f : Ldata). is_ind f.code) (Some y))) ≢ None → IsOf a y
of_frame a y some = by_code (is_ind y.code) refl some where
  by_from : is_ind y.code ≡ true → (b : Bool) → is_from a y ≡ b → transport_of (cond b (Some y) None) ≢ None → IsOf a y
  by_from ind true from h = record { no_con = ind_not y.code ind; from = from }
  by_from ind false from h = absurd (h refl)

  by_code : (b : Bool) → is_ind y.code ≡ b → transport_of (where_is (is_from a) (cond b (Some y) None)) ≢ None → IsOf a y
  by_code true ind h = by_from ind (is_from a y) refl h
  by_code false ind h = absurd (h refl)

taken_of : (a : ℕ) (y : Ldata) → IsTold y → heard_from a (Takes (cemi_octets y)) ≢ None → IsOf a y
taken_of a y told some = by_reads told.reads where
  by_reads : (ldata_in (cemi_octets y) ≡ Some y) ⊎ ((ldata_in (cemi_octets y) ≡ None) × (frame_in y.tpdu ≡ Other)) → IsOf a y
  by_reads (inl reads) = of_frame a y (subst (λ o. transport_of (where_is (is_from a) (where_is (λ (f : Ldata). is_ind f.code) o)) ≢ None) reads some)
  by_reads (inr x) = absurd (subst (λ o. transport_of (where_is (is_from a) (where_is (λ (f : Ldata). is_ind f.code) o)) ≢ None) x.0 some refl)

-- ---- it was awaited

rests_not : (n e : ℕ) (phase : Phase) (item : StreamItem) (rest : List StreamItem) → item ∷ rest ≡ stream_at n e phase → phase ≡ Rests → ⊥
rests_not n e phase item rest stream is = let none : item ∷ rest ≡ [] = stream ∙ ap (stream_at n e) is in cc

module _ (jobs : List Job) (then : ℕ → Devices) (me : IndAddr) (log : List LogEntry) (places : List Placed) (devices : Devices) (now : ℕ) where
  pub took_held : (a : ℕ) (fly : Option Ldata) (y : Ldata) (q : List Ldata) → Whole jobs then me log places devices now fly (y ∷ q) → heard_from a (Takes (cemi_octets y)) ≢ None → devices a ≢ None → NoneHeld jobs log a → ⊥
  took_held a fly y q w some there none = by_device (devices a) refl where
    of : IsOf a y
    of = taken_of a y w.riders.told.0 some

    free : HeldJob jobs log a → ⊥
    free h = none h.number h.worker h.since h.job h.there h.of_device h.held

    item_is : item_in a y ≡ Heard (frame_in y.tpdu) ∷ []
    item_is = ap (λ z. cond z (told_if (is_to a y)) (heard_if (is_from a y) (frame_in y.tpdu))) of.no_con ∙ ap (λ z. heard_if z (frame_in y.tpdu)) of.from

    by_device : (o : Option DeviceState) → devices a ≡ o → ⊥
    by_device None is = there is
    by_device (Some d) is =
        let row : Row me a (w.plans a) (w.olds a) (w.since a) fly (y ∷ q) d now = w.riders.rows a d is in
        let rest : IsResting (tried a (w.plans a) (w.since a)) = w.free a free in
        let stream : Heard (frame_in y.tpdu) ∷ (items_in a q ++ items_of d.unsent) ≡ stream_at row.n row.e row.phase = ap (λ z. (z ++ items_in a q) ++ items_of d.unsent) (sym item_is) ∙ row.line.stream_is in
        rests_not row.n row.e row.phase (Heard (frame_in y.tpdu)) (items_in a q ++ items_of d.unsent) stream (phase_rests me d.address (w.plans a) row.k row.n row.e now row.phase (subst IsResting row.line.attempts_are rest))

-- ---- what rode on the tunnel before it was taken

pub record TookSo (E : Option Ldata → List Ldata → Type 0) (octets : List ℕ) : Type 0 where
  pub fly : Option Ldata
  pub frame : Ldata
  pub queue : List Ldata
  pub same : cemi_octets frame ≡ octets
  pub so : E fly (frame ∷ queue)

abbrev pub Took : (Option Ldata → List Ldata → Type 0) → Deed → Type 0
Took E (Takes octets) = TookSo E octets
Took E (Puts octets) = Unit {0}
Took E Loses = Unit {0}
Took E Nothing = Unit {0}

pub took_steps : (E : Option Ldata → List Ldata → Type 0) (what : Deed) → Steps E (λ fly q. Took E what) what
took_steps E (Puts octets) = λ f q e c h. tt
took_steps E (Takes octets) = λ fly y q same h. record { fly = fly; frame = y; queue = q; same = same; so = h }
took_steps E Loses = tt
took_steps E Nothing = λ fly q h. tt

-- ---- nothing is taken in an entry in which nothing was got

abbrev pub IsPut : Item → Type 0
IsPut (Put octets) = Unit {0}
IsPut Renewed = Unit {0}
IsPut Quiet = Unit {0}
IsPut _ = ⊥

same_item : (x y : Item) → Some x ≡ Some y → x ≡ y
same_item x y e = cc

module _ (E : Option Ldata → List Ldata → Type 0) where
  either_took : (what : Deed) → Took E what → Took E (or_takes what Nothing)
  either_took (Puts octets) h = tt
  either_took (Takes octets) h = h
  either_took Loses h = tt
  either_took Nothing h = tt

  puts_took : (b : Bool) (o : Option RequestFrame) → Took E (deed_of Puts b o)
  puts_took b None = tt
  puts_took true (Some q) = tt
  puts_took false (Some q) = tt

  counted_took : (address : Option IndAddr) (last : Option Ldata) (what : Deed) → Took E what → Took E (as_counted address last what)
  counted_took address last (Puts octets) h = tt
  counted_took address last (Takes octets) h = by_test (counts address last (ldata_in octets)) where
    by_test : (b : Bool) → Took E (cond b (Takes octets) Nothing)
    by_test true = h
    by_test false = tt
  counted_took address last Loses h = tt
  counted_took address last Nothing h = tt

  put_took : (ch : ClientChannel) (item : Item) (now : ℕ) → IsPut item → Took E (deed ch (entry item now))
  unfolding deed
  put_took Fresh item now put = tt
  put_took (Sought since) item now put = tt
  put_took (RefusedBy status) item now put = tt
  put_took Unanswered item now put = tt
  put_took (Lost c) item now put = tt
  put_took (Open c l) (Put octets) now put =
      let what : Deed = deed_of Puts (is_new_request c l (entry (Put octets) now)) (request_in (put_in (Put octets))) in
      counted_took (own_address l) (last_frame c l) (or_takes what Nothing) (either_took what (puts_took (is_new_request c l (entry (Put octets) now)) (request_in (put_in (Put octets)))))
  put_took (Open c l) Renewed now put = tt
  put_took (Open c l) (Got octets) now put = absurd put
  put_took (Open c l) Quiet now put = by_test (is_lost c l (entry Quiet now)) where
    by_test : (b : Bool) → Took E (cond b Loses (as_counted (own_address l) (last_frame c l) (deed_in c l (entry Quiet now))))
    by_test true = tt
    by_test false = tt

  -- ---- at each event, while the channel isn't asked to end

  module _ (r : List Entry) (t : Tunnel) where
    abbrev TookAt : TunnelEvent → Item → Type 0
    TookAt te item = StaysOpen (entry item (step t te).now ∷ r) → Took E (deed (channel r) (entry item (step t te).now))

    put_at : (te : TunnelEvent) (item : Item) → IsPut item → TookAt te item
    put_at te item put = λ stays. put_took (channel r) item (step t te).now put

    got_at : (age : ℕ) → NoStrays (channel r) t.gateway.channel → Inv E r t → MayHappen Commissions t (Down age) → IsCalm t (Down age) → May r (item_of t (Down age)) (step t (Down age)).now → (item : Item) → item_of t (Down age) ≡ Some item → TookAt (Down age) item
    got_at age none inv can calm may item is = λ stays.
        (let now_is : (step t (Down age)).now ≡ t.now = step_now t (Down age) in
        let what : Deed = deed (channel r) (entry item t.now) in
        let after_it : Inv (λ fly q. Took E (deed (channel r) (entry item t.now))) (noted (item_of t (Down age)) (step t (Down age)).now r) (step t (Down age))
        = step_kept E (λ fly q. Took E (deed (channel r) (entry item t.now))) r t (Down age) inv can calm may
        (λ it got_is. subst (λ z. Steps E (λ fly q. Took E (deed (channel r) (entry item t.now))) (deed (channel r) (entry z t.now))) (same_item item it (sym is ∙ got_is)) (took_steps E (deed (channel r) (entry item t.now))), none_strays E (λ fly q. Took E (deed (channel r) (entry item t.now))) (channel r) t.gateway.channel none) in
        let noted_is : noted (item_of t (Down age)) (step t (Down age)).now r ≡ entry item (step t (Down age)).now ∷ r = ap (λ o. noted o (step t (Down age)).now r) is in
        subst (λ n. Took E (deed (channel r) (entry item n))) (sym now_is)
        (by_inv (noted (item_of t (Down age)) (step t (Down age)).now r) (step t (Down age)) (deed (channel r) (entry item t.now)) after_it (subst StaysOpen (sym noted_is) stays)))
      where
        by_inv : (x : List Entry) (u : Tunnel) (what : Deed) → Inv (λ fly q. Took E what) x u → StaysOpen x → Took E what
        by_inv x u what (inl l) stays = (ridden (λ fly q. Took E what) x u l).so
        by_inv x u what (inr (inl p)) stays = absurd (p.up.asks.1 stays)
        by_inv x u what (inr (inr g)) stays = absurd (g.asked stays)

    pub took_at : (te : TunnelEvent) → NoStrays (channel r) t.gateway.channel → Inv E r t → MayHappen Commissions t te → IsCalm t te → May r (item_of t te) (step t te).now → (item : Item) → item_of t te ≡ Some item → TookAt te item
    took_at (Down age) none inv can calm may item is = got_at age none inv can calm may item is
    took_at (Send octets) none inv can calm may item is = put_at (Send octets) item (subst IsPut (same_item (Put octets) item is) tt)
    took_at (From endpoint octets) none inv can calm may item is = put_at (From endpoint octets) item (subst IsPut (same_item (Put octets) item is) tt)
    took_at Renew none inv can calm may item is = put_at Renew item (subst IsPut (same_item Renewed item is) tt)
    took_at (Pass ms) none inv can calm may item is = put_at (Pass ms) item (subst IsPut (same_item Quiet item is) tt)
    took_at (Up age) none inv can calm may item is = absurd (cc)
    took_at (UpRefused age status) none inv can calm may item is = absurd (cc)
    took_at (LoseUp age) none inv can calm may item is = absurd (cc)
    took_at (LoseDown age) none inv can calm may item is = absurd (cc)
    took_at (Carried con) none inv can calm may item is = absurd (cc)
    took_at (tunnel.Heard frames) none inv can calm may item is = absurd (cc)
    took_at Repeat none inv can calm may item is = absurd (cc)
    took_at Close none inv can calm may item is = absurd (cc)
    took_at Elsewhere none inv can calm may item is = absurd (cc)

-- ---- each event

module _ (jobs : List Job) (then : ℕ → Devices) (start : World) (me : IndAddr) (log : List LogEntry) (places : List Placed) (devices : Devices) (m : ℕ) (t : Tunnel) (there : (a : ℕ) → start.devices a ≢ None → devices a ≢ None) where
  abbrev r : List Entry
  r = entries places

  abbrev E : Option Ldata → List Ldata → Type 0
  E = Whole jobs then me log places devices t.now

  took_means : (a : ℕ) (what : Deed) → Took E what → heard_from a what ≢ None → start.devices a ≢ None → NoneHeld jobs log a → ⊥
  took_means a (Puts octets) took some on none = some refl
  took_means a (Takes octets) took some on none =
      took_held jobs then me log places devices t.now a took.fly took.frame took.queue took.so (subst (λ (o : List ℕ). heard_from a (Takes o) ≢ None) (sym took.same) some) (there a on) none
  took_means a Loses took some on none = some refl
  took_means a Nothing took some on none = some refl

  abbrev HearsAt : TunnelEvent → Item → Type 0
  HearsAt te item = HeardSo jobs start log places (record { at = suc m; what = entry item (step t te).now })

  pub hears : (te : TunnelEvent) → NoStrays (channel r) t.gateway.channel → Inv E r t → MayHappen Commissions t te → IsCalm t te → May r (item_of t te) (step t te).now → (item : Item) → item_of t te ≡ Some item → HearsAt te item
  hears te none inv can calm may item is = λ stays a some on held. took_means a (deed (channel r) (entry item (step t te).now)) (took_at E r t te none inv can calm may item is stays) some on held

  pub heard_if_noted : (te : TunnelEvent) (now_log : List LogEntry) (o : Option Item) → item_of t te ≡ o → ((item : Item) → item_of t te ≡ Some item → HearsAt te item) → EachHeard jobs start now_log places → log_before (suc m) now_log ≡ log → EachHeard jobs start now_log (placed_if (suc m) (step t te).now o places)
  heard_if_noted te now_log None is f h same = h
  heard_if_noted te now_log (Some item) is f h same = (subst (λ l. HeardSo jobs start l places (record { at = suc m; what = entry item (step t te).now })) (sym same) (f item is), h)
