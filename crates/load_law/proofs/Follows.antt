-- Each event of a client that goes through a plan, and what this promises.
use Rattle.std.proofs.Common.{◌≡◌, ℕ, suc, ◌≤◌, List, [], ◌∷◌, length, Bool, true, false, cond, Option, Some, None, refl, sym, ◌∙◌, ap, subst, arith, inl, inr}
use Rattle.std.proofs.lemmas.Bool.{false≢true}
use Rattle.knx_model.specs.declared.address.IndAddr.{IndAddr}
use Rattle.knx_model.specs.declared.device.FrameSupport.{FrameSupport}
use Rattle.knx_model.specs.declared.frames.cemi.Ldata.{Ldata}
use Rattle.knx_model.specs.declared.connection.TransportFrame.{TransportFrame}
use Rattle.knx_model.specs.declared.connection.TransportFrame.TheVariants.{Other}
use Rattle.knx_model.specs.declared.connection.ClientExpired.{ClientExpired}
use Rattle.knx_model.specs.declared.connection.ClientExpired.TheVariants as over
use Rattle.knx_model.specs.Connection.{frame_in}
use Rattle.knx_model.specs.ClientConnection.{ClientEnd, Asked, Up, Asking, Awaiting, Ended, awaits_nothing, client_sent, client_expired}
use Rattle.knx_model.specs.Device.{NonVolatile}
use Rattle.knx_model.specs.DeviceState.{DeviceState}
use Rattle.knx_model.specs.DeviceFrames.{Outcome, Whole, took_of, is_taken}
use Rattle.knx_model.specs.Plans.{Plan, Over, Asks as Operation}
use Rattle.session_law.specs.World.{Message, Con, Ind, World, fresh}
use Rattle.session_law.specs.Client.{asks_so, waits_so, replies_so, takes_oldest}
use Rattle.session_law.specs.Device.{took_alone, gets, carries, carries_lost, gets_again}
use Rattle.session_law.specs.Events.{Event, Connects, Asks, Waits, Replies, Leaves, Takes, Loses, Joins, Drops, Bus, BusLost, BusAgain, Group, Elsewhere, DevSend, DevRepeat, DevClose, GwAgain, Cut, On as PowerOn, Pass, step, MayHappen, replay, IsLegal, AtEveryMoment}
use Rattle.session_law.proofs.Arrivals.{Arrival, transport_if}
use Rattle.session_law.proofs.Seen.{Seen}
use Rattle.session_law.proofs.Taken.{seen_of, Got, GNot, GWhole, GTorn, HOpens, GotIs, got_mine, got_group, or_anew}
use Rattle.session_law.proofs.Spoken.{LastMine, pops_seen, repeats_seen, shut_seen, cut_is, on_seen}
use Rattle.session_law.proofs.Invariant.{Side, InSession, LastIs, FlyIs, PhaseIs, tail_length}
use Rattle.session_law.proofs.Sides.{fly_ready}
use Rattle.session_law.proofs.Heard.{tail_same}
use Rattle.session_law.proofs.Books.{Books, empty, asks_book, carries_book, again_book, gets_book, books_after, books}
use Rattle.session_law.proofs.Steps.{items, FlyMine, WorldInv, fly_small, ready_small, transport_alone, fresh_inv, always}
use Rattle.load_law.specs.Download.{Went, MayAsk, Follows, IsDone}
use Rattle.load_law.proofs.Answers.{Texts, want}
use Rattle.load_law.proofs.Walked.{AllGoodFor, Trail, On, count, few, walked}
use Rattle.load_law.proofs.Loads.{InStep, Load, got_load, shut_load, spoke_load}

-- a frame that comes again opens only where nothing was delivered
pub again_opens : (me : IndAddr) (outcome : Outcome) (s : TransportFrame) (o : Seen) (asked : Texts) (b taken : Bool) (n : Seen) → LastIs (Some s) asked o.delivered o.given → Got me outcome s o b taken n → b ≡ true → (o.delivered ≡ []) × (o.given ≡ [])
again_opens me outcome s o asked b taken n l GNot e = absurd (false≢true e)
again_opens me outcome s o asked true taken n l (GWhole b2 n2 (HOpens t se ci) w) e = (subst (λ (z : TransportFrame). LastIs (Some z) asked o.delivered o.given) se l).1
again_opens me outcome s o asked false taken n l (GWhole b2 n2 h w) e = absurd (false≢true e)
again_opens me outcome s o asked true taken n l (GTorn b2 m (HOpens t se ci)) e = (subst (λ (z : TransportFrame). LastIs (Some z) asked o.delivered o.given) se l).1
again_opens me outcome s o asked false taken n l (GTorn b2 m h) e = absurd (false≢true e)

pub opens_other : (me : IndAddr) (outcome : Outcome) (o : Seen) (b taken : Bool) (n : Seen) → Got me outcome Other o b taken n → b ≡ true → ⊥
opens_other me outcome o b taken n GNot e = false≢true e
opens_other me outcome o true taken n (GWhole b2 n2 (HOpens t se ci) w) e = cc
opens_other me outcome o false taken n (GWhole b2 n2 h w) e = false≢true e
opens_other me outcome o true taken n (GTorn b2 m (HOpens t se ci)) e = cc
opens_other me outcome o false taken n (GTorn b2 m h) e = false≢true e

-- what was asked is what was delivered, and what was given is what the client accepted
pub record AllOver (sent accepted asked : Texts) (o : Seen) : Type 0 where
  pub sent_is : asked ≡ sent
  pub delivered_is : o.delivered ≡ sent
  pub given_is : o.given ≡ accepted

-- the content is right, and where an attempt of a job is done, the device keeps what that is for
pub record IsRightFor (IsJob : Plan → Type 0) (Case : NonVolatile → Type 0) (Ends : Plan → NonVolatile → Type 0) (w : World) : Type 0 where
  pub case : Case w.device.kept
  pub done : (plan : Plan) → IsJob plan → IsDone plan w → Ends plan w.device.kept

module _ (IsJob : Plan → Type 0) (Holds Case : NonVolatile → Type 0) (Ends : Plan → NonVolatile → Type 0) (frames : FrameSupport) (good : AllGoodFor IsJob Holds Case Ends) where
  abbrev Loaded : Texts → Seen → Type 0
  Loaded = Load IsJob Holds Case Ends frames good

  session_over : (me : IndAddr) (asked : Texts) (fly : Option TransportFrame) (coming : List Arrival) (owed : Texts) (number expected : ℕ) (sent accepted : Texts) (o : Seen) (plan rest : Plan) → IsJob plan → Side me asked fly o → Loaded asked o
      → InSession asked fly coming owed false number expected sent accepted o → Went plan sent accepted rest → AllOver sent accepted asked o
  session_over me asked fly coming owed number expected sent accepted o plan rest job side load ss went =
      let wait : length sent ≡ ss.done = ss.waiting in
      let told : ss.done ≤ length o.delivered = ss.told in
      let len : length asked ≡ length sent = ap (λ (z : Texts). length z) ss.same in
      let short : length o.delivered ≤ length asked = tail_length o.delivered asked side.prefix in
      let same : o.delivered ≡ asked = tail_same o.delivered asked asked side.prefix ([], refl) (omega arith) in
      let fewer : length o.given ≤ want o.delivered = few frames load.start o.delivered o.given load.latest load.trail in
      let wants : want o.delivered ≡ want sent = ap want (same ∙ ss.same) in
      let all : length accepted ≡ want sent = count plan rest sent accepted (good.sendable plan job) went in
      let most : length accepted ≤ length o.given = tail_length accepted o.given ss.heard_is in
      record { sent_is = ss.same; delivered_is = same ∙ ss.same; given_is = sym (tail_same accepted o.given o.given ss.heard_is ([], refl) (omega arith)) }

  -- a client that awaits nothing
  pub over_by : (me : IndAddr) (asked : Texts) (fly : Option TransportFrame) (coming : List Arrival) (o : Seen) (end : ClientEnd) (joined pending : Bool) (owed sent accepted : Texts) (plan rest : Plan) → IsJob plan → Side me asked fly o → Loaded asked o
      → PhaseIs end joined pending owed sent accepted asked fly coming o → awaits_nothing end ≡ true → Went plan sent accepted rest → AllOver sent accepted asked o
  over_by me asked fly coming o (Asked device) joined pending owed sent accepted plan rest job side load h up went = absurd (false≢true up)
  over_by me asked fly coming o (Up s) joined pending owed sent accepted plan rest job side load h up went = session_over me asked fly coming owed s.number s.expected sent accepted o plan rest job side load h.1 went
  over_by me asked fly coming o (Asking s q) joined pending owed sent accepted plan rest job side load h up went = absurd (false≢true up)
  over_by me asked fly coming o (Awaiting s) joined pending owed sent accepted plan rest job side load h up went = absurd (false≢true up)
  over_by me asked fly coming o Ended joined pending owed sent accepted plan rest job side load h up went = absurd (false≢true up)

  abbrev pub LoadInv : World → Books → Type 0
  LoadInv w b = Loaded b.asked (seen_of w.device b.delivered b.given)

  pub over_at : (w : World) (b : Books) (plan rest : Plan) → IsJob plan → WorldInv w b → LoadInv w b → awaits_nothing w.client.end ≡ true → Went plan w.client.sent w.client.accepted rest → AllOver w.client.sent w.client.accepted b.asked (seen_of w.device b.delivered b.given)
  over_at w b plan rest job h l up went =
      over_by w.me b.asked (transport_if w.flying) (items w) (seen_of w.device b.delivered b.given) w.client.end w.client.joined w.client.pending w.client.owed w.client.sent w.client.accepted plan rest job h.inv.side l h.inv.phase up went

  -- what it keeps is then what it kept after the last service
  pub latest_is : (asked : Texts) (o : Seen) (sent accepted : Texts) → AllOver sent accepted asked o → (l : Loaded asked o) → l.latest ≡ o.kept
  latest_is asked o sent accepted over l = elim l.reached [
    | inl e ↦ e
    | inr s ↦ absurd (let g : length asked ≡ suc (length o.delivered) = s.0 in let e : length asked ≡ length o.delivered = ap (λ (z : Texts). length z) (over.sent_is ∙ sym over.delivered_is) in omega arith)
  ]

  leads_on : (asked : Texts) (o : Seen) (sent accepted : Texts) (plan rest : Plan) → IsJob plan → AllOver sent accepted asked o → Loaded asked o → Went plan sent accepted rest → On Case (Ends plan) frames rest o.kept
  leads_on asked o sent accepted plan rest job over l went =
      let t : Trail frames l.start sent accepted o.kept
      = subst (λ (z : NonVolatile). Trail frames l.start sent accepted z) (latest_is asked o sent accepted over l)
      (subst (λ (z : Texts). Trail frames l.start sent z l.latest) over.given_is (subst (λ (z : Texts). Trail frames l.start z o.given l.latest) over.delivered_is l.trail)) in
      walked Case (Ends plan) frames Holds plan (good.good plan job) (good.sendable plan job) rest sent accepted l.start o.kept l.began l.held went t

  -- ---- each event

  asks_load : (w : World) (b : Books) (apdu : List ℕ) (o : Option (List ℕ)) → WorldInv w b → LoadInv w b → MayAsk IsJob w (Asks apdu) → LoadInv (asks_so w apdu o) (asks_book b apdu o)
  asks_load w b apdu None h l may = l
  asks_load w b apdu (Some tpdu) h l (plan, job, may) =
      let over = over_at w b plan (Operation may.place apdu may.expect may.next) job h l may.free may.went in
      record {
        same_frames = l.same_frames;
        case = l.case;
        holds = l.holds;
        in_step = (
          record { plan = plan; job = job; place = may.place; expect = may.expect; next = may.next; accepted = w.client.accepted; went = subst (λ (z : Texts). Went plan z w.client.accepted (Operation may.place apdu may.expect may.next)) (sym over.sent_is) may.went },
          λ len. over.given_is,
        );
        start = l.start;
        latest = l.latest;
        began = l.began;
        held = l.held;
        trail = l.trail;
        reached = inl (latest_is b.asked (seen_of w.device b.delivered b.given) w.client.sent w.client.accepted over l);
      }

  waits_load : (w : World) (b : Books) (x : ClientExpired) → LoadInv w b → LoadInv (waits_so w x) b
  waits_load w b over.Nothing l = l
  waits_load w b (over.Repeat tpdu) l = l
  waits_load w b (over.Silent ms) l = l

  replies_load : (w : World) (b : Books) (r : Texts) → LoadInv w b → LoadInv (replies_so w r) b
  replies_load w b [] l = l
  replies_load w b (x ∷ rest) l = l

  takes_load : (w : World) (b : Books) (r : List Message) → LoadInv w b → LoadInv (takes_oldest w r) b
  takes_load w b [] l = l
  takes_load w b (Con error ∷ rest) l = l
  takes_load w b (Ind frame ∷ rest) l = l

  anew_same : (b : Bool) (asked asked' : Texts) → asked' ≡ cond b [] asked → b ≡ false → asked' ≡ asked
  anew_same true asked asked' e z = absurd (false≢true (sym z))
  anew_same false asked asked' e z = e

  anew_step : (b : Bool) (asked asked' : Texts) → asked' ≡ cond b [] asked → b ≡ true → InStep IsJob asked' [] []
  anew_step true asked asked' e z = subst (λ (x : Texts). InStep IsJob x [] []) (sym e) tt
  anew_step false asked asked' e z = absurd (false≢true z)

  bus_load : (w : World) (b : Books) (fl : Option Ldata) (outcome : Outcome) → w.flying ≡ fl → WorldInv w b → LoadInv w b → LoadInv (carries w fl outcome) (carries_book w b fl outcome)
  bus_load w b None outcome e h l = l
  bus_load w b (Some frame) outcome e h l =
      let mine : (frame.group ≡ false) × (frame.source ≡ w.me.raw) = subst (λ (z : Option Ldata). FlyMine w.me z) e h.flying in
      let o : Seen = seen_of w.device b.delivered b.given in
      let s : TransportFrame = frame_in frame.tpdu in
      let at : transport_if w.flying ≡ Some s = ap transport_if e ∙ ap (λ (z : TransportFrame). Some z) (transport_alone frame mine.0) in
      let fly : FlyIs (Some s) b.asked = subst (λ (z : Option TransportFrame). FlyIs z b.asked) at h.inv.side.fly_is in
      let got : GotIs w.me w.device frame w.now outcome b.delivered b.given s = got_mine w.me w.device frame w.now outcome b.delivered b.given mine.0 mine.1 (fly_small s b.asked fly) h.inv.side.connection in
      let asked' : Texts = or_anew (took_alone w.device frame) b.asked in
      got_load IsJob Holds Case Ends frames good w.me b.asked asked' s o _ got.0 (is_taken (took_of w.device frame)) (fly_ready s b.asked b.delivered h.inv.side.prefix h.inv.side.one fly)
      (anew_same got.0 b.asked asked' (got.2 b.asked)) (anew_step got.0 b.asked asked' (got.2 b.asked)) l got.1

  lost_load : (w : World) (b : Books) (fl : Option Ldata) → LoadInv w b → LoadInv (carries_lost w fl) b
  lost_load w b None l = l
  lost_load w b (Some frame) l = l

  group_load : (w : World) (b : Books) (frame : Ldata) → frame.group ≡ true → WorldInv w b → LoadInv w b → LoadInv (gets w frame Whole) (gets_book w b frame Whole)
  group_load w b frame g h l =
      let o : Seen = seen_of w.device b.delivered b.given in
      let got : GotIs w.me w.device frame w.now Whole b.delivered b.given Other = got_group w.me w.device frame w.now b.delivered b.given g h.inv.side.connection in
      got_load IsJob Holds Case Ends frames good w.me b.asked b.asked Other o _ got.0 (is_taken (took_of w.device frame)) tt (λ z. refl) (λ z. absurd (opens_other w.me Whole o got.0 (is_taken (took_of w.device frame)) _ got.1 z)) l got.1

  again_load : (w : World) (b : Books) (r : Option Ldata) → w.device.last ≡ r → LastMine w.me r → WorldInv w b → LoadInv w b → LoadInv (gets_again w r) (again_book w b r)
  again_load w b None e mine h l = l
  again_load w b (Some frame) e (inl g) h l = group_load w b frame g h l
  again_load w b (Some frame) e (inr mine) h l =
      let o : Seen = seen_of w.device b.delivered b.given in
      let s : TransportFrame = frame_in frame.tpdu in
      let at : transport_if w.device.last ≡ Some s = ap transport_if e ∙ ap (λ (z : TransportFrame). Some z) (transport_alone frame mine.0) in
      let last : LastIs (Some s) b.asked b.delivered b.given = subst (λ (z : Option TransportFrame). LastIs z b.asked b.delivered b.given) at h.inv.side.last_is in
      let got : GotIs w.me w.device frame w.now Whole b.delivered b.given s = got_mine w.me w.device frame w.now Whole b.delivered b.given mine.0 mine.1 (ready_small s b.asked b.delivered last.0) h.inv.side.connection in
      let opens : got.0 ≡ true → InStep IsJob b.asked [] [] = λ z.
      let none = again_opens w.me Whole s o b.asked got.0 (is_taken (took_of w.device frame)) _ last got.1 z in
      subst (λ (x : Texts). InStep IsJob b.asked x []) none.0 (subst (λ (y : Texts). InStep IsJob b.asked b.delivered y) none.1 l.in_step) in
      got_load IsJob Holds Case Ends frames good w.me b.asked b.asked s o _ got.0 (is_taken (took_of w.device frame)) last.0 (λ z. refl) opens l got.1

  pub step_load : (w : World) (b : Books) (e : Event) → MayHappen w e → MayAsk IsJob w e → WorldInv w b → LoadInv w b → LoadInv (step w e) (books_after w b e)
  step_load w b Connects may al h l = l
  step_load w b (Asks apdu) may al h l = asks_load w b apdu (client_sent w.client.end apdu) h l al
  step_load w b Waits may al h l = waits_load w b (client_expired w.client.end w.now) l
  step_load w b Replies may al h l = replies_load w b w.client.owed l
  step_load w b Leaves may al h l = l
  step_load w b Takes may al h l = takes_load w b w.coming l
  step_load w b Loses may al h l = l
  step_load w b (Joins n) may al h l = l
  step_load w b (Drops n) may al h l = l
  step_load w b (Bus outcome) may al h l = bus_load w b w.flying outcome refl h l
  step_load w b BusLost may al h l = lost_load w b w.flying l
  step_load w b BusAgain may al h l = again_load w b w.device.last refl h.last h l
  step_load w b (Group frame) may al h l = group_load w b frame may h l
  step_load w b Elsewhere may al h l = l
  step_load w b (DevSend gateway) may al h l = spoke_load IsJob Holds Case Ends frames good w.me b.asked (seen_of w.device b.delivered b.given) _ _ l (pops_seen w.me w.device b.delivered b.given)
  step_load w b (DevRepeat gateway) may al h l = spoke_load IsJob Holds Case Ends frames good w.me b.asked (seen_of w.device b.delivered b.given) _ _ l (repeats_seen w.me w.device w.now b.delivered b.given may h.inv.side.connection)
  step_load w b DevClose may al h l = shut_load IsJob Holds Case Ends frames good b.asked (seen_of w.device b.delivered b.given) _ l (shut_seen w.device b.delivered b.given)
  step_load w b GwAgain may al h l = l
  step_load w b Cut may al h l = shut_load IsJob Holds Case Ends frames good b.asked (seen_of w.device b.delivered b.given) _ l (cut_is w.device b.delivered b.given)
  step_load w b PowerOn may al h l = shut_load IsJob Holds Case Ends frames good b.asked (seen_of w.device b.delivered b.given) _ l (on_seen w.device b.delivered b.given)
  step_load w b (Pass ms) may al h l = l

  -- ---- what it promises

  pub right_at : (w : World) (b : Books) → WorldInv w b → LoadInv w b → IsRightFor IsJob Case Ends w
  right_at w b h l =
      record {
        case = l.case;
        done = λ plan job d. (leads_on b.asked (seen_of w.device b.delivered b.given) w.client.sent w.client.accepted plan Over job (over_at w b plan Over job h l d.over d.all) l d.all).1;
      }

  pub load_always : (start : World) (events : List Event) → WorldInv start empty → LoadInv start empty → IsLegal start events → Follows IsJob start events → LoadInv (replay start events) (books start events)
  load_always start [] h l legal f = l
  load_always start (e ∷ events) h l legal f = step_load (replay start events) (books start events) e legal.0 f.0 (always start events h legal.1) (load_always start events h l legal.1 f.1)

  pub right_always : (start : World) (events : List Event) → WorldInv start empty → LoadInv start empty → IsLegal start events → Follows IsJob start events → AtEveryMoment (λ past. IsRightFor IsJob Case Ends (replay start past)) events
  right_always start [] h l legal f = right_at start empty h l
  right_always start (e ∷ events) h l legal f =
      (right_at (replay start (e ∷ events)) (books start (e ∷ events)) (always start (e ∷ events) h legal) (load_always start (e ∷ events) h l legal f), right_always start events h l legal.1 f.1)

  pub fresh_load : (me : IndAddr) (d : DeviceState) → d.frames ≡ frames → Case d.kept → Holds d.kept → LoadInv (fresh me d) empty
  fresh_load me d e f holds = record { same_frames = e; case = f; holds = holds; in_step = tt; start = d.kept; latest = d.kept; began = f; held = holds; trail = (refl, refl); reached = inl refl }

pub each_moment : (IsJob : Plan → Type 0) (Holds Case : NonVolatile → Type 0) (Ends : Plan → NonVolatile → Type 0) (me : IndAddr) (d : DeviceState) (events : List Event) → AllGoodFor IsJob Holds Case Ends → Holds d.kept → Case d.kept → IsLegal (fresh me d) events
    → Follows IsJob (fresh me d) events → AtEveryMoment (λ past. IsRightFor IsJob Case Ends (replay (fresh me d) past)) events
each_moment IsJob Holds Case Ends me d events good holds case legal f =
    right_always IsJob Holds Case Ends d.frames good (fresh me d) events (fresh_inv me d) (fresh_load IsJob Holds Case Ends d.frames good me d refl case holds) legal f
