-- While a client goes through plans that change nothing, from a moment on at which nothing was asked that isn't delivered, what a device keeps stays.
use Rattle.std.proofs.Common.{◌≡◌, ℕ, ◌≤◌, ◌⊎◌, List, [], ◌∷◌, length, Bool, true, false, cond, Option, Some, None, refl, sym, ◌∙◌, ap, subst, arith, inl, inr}
use Rattle.knx_model.specs.declared.address.IndAddr.{IndAddr}
use Rattle.knx_model.specs.declared.connection.ClientExpired.{ClientExpired}
use Rattle.knx_model.specs.declared.connection.ClientExpired.TheVariants as over
use Rattle.knx_model.specs.declared.connection.TransportFrame.{TransportFrame}
use Rattle.knx_model.specs.declared.connection.TransportFrame.TheVariants.{Other}
use Rattle.knx_model.specs.declared.device.FrameSupport.{FrameSupport}
use Rattle.knx_model.specs.declared.frames.cemi.Ldata.{Ldata}
use Rattle.knx_model.specs.ClientConnection.{ClientEnd, Asked, Up, Asking, Awaiting, Ended, awaits_nothing, client_sent, client_expired}
use Rattle.knx_model.specs.Connection.{frame_in}
use Rattle.knx_model.specs.Device.{NonVolatile, answer_in}
use Rattle.knx_model.specs.DeviceFrames.{Outcome, Whole, took_of, is_taken}
use Rattle.knx_model.specs.DeviceState.{DeviceState}
use Rattle.knx_model.specs.GoodPlan.{Beginning, IsSendable}
use Rattle.knx_model.specs.Plans.{Plan, Over, Asks as Operation}
use Rattle.knx_model.proofs.Leads.{Leads-now}
use Rattle.session_law.specs.World.{Message, Con, Ind, World, fresh}
use Rattle.session_law.specs.Client.{asks_so, waits_so, replies_so, takes_oldest}
use Rattle.session_law.specs.Device.{took_alone, gets, carries, carries_lost, gets_again}
use Rattle.session_law.specs.Events.{Event, Connects, Asks, Waits, Replies, Leaves, Takes, Loses, Joins, Drops, Bus, BusLost, BusAgain, Group, Elsewhere, DevSend, DevRepeat, DevClose, GwAgain, Cut, On as PowerOn, Pass, step, MayHappen}
use Rattle.session_law.proofs.Arrivals.{Arrival, transport_if}
use Rattle.session_law.proofs.Seen.{Seen}
use Rattle.session_law.proofs.Taken.{seen_of, Hears, HOpens, HDelivers, HAnswers, HAgain, HSpeaks, HAcked, HCloses, Got, GNot, GWhole, GTorn, GotIs, got_mine, got_group, or_anew}
use Rattle.session_law.proofs.Spoken.{Speaks, SShift, SAgain, SNothing, Shuts, ShSame, ShCloses, ShCut, LastMine, pops_seen, repeats_seen, shut_seen, cut_is, on_seen}
use Rattle.session_law.proofs.Invariant.{InSession, LastIs, Ready, FlyIs, PhaseIs, tail_length}
use Rattle.session_law.proofs.Sides.{fly_ready}
use Rattle.session_law.proofs.Heard.{tail_same}
use Rattle.session_law.proofs.Books.{Books, asks_book, carries_book, again_book, gets_book, books_after}
use Rattle.session_law.proofs.Steps.{items, FlyMine, WorldInv, fly_small, ready_small, transport_alone}
use Rattle.load_law.specs.Download.{Went, MayAsk, IsDone}
use Rattle.load_law.proofs.Answers.{Texts, want}
use Rattle.load_law.proofs.Follows.{AllOver, again_opens, opens_other, LoadInv, over_at, latest_is, step_load}
use Rattle.load_law.proofs.Quiet.{nothing_new}
use Rattle.load_law.proofs.Walked.{IsGoodFor, AllGoodFor, Trail, count, few, walked}

-- ---- all that was asked is delivered

pub record Settled (first : NonVolatile) (frames : FrameSupport) (asked : Texts) (o : Seen) : Type 0 where
  pub same_frames : o.frames ≡ frames
  pub kept : o.kept ≡ first
  pub quiet : asked ≡ o.delivered
  pub start : NonVolatile  -- what it kept when its session began
  pub trail : Trail frames start o.delivered o.given first

-- at the beginning
pub settled_first : (me : IndAddr) (d : DeviceState) (frames : FrameSupport) → d.frames ≡ frames → Settled d.kept frames [] (seen_of (fresh me d).device [] [])
settled_first me d frames e = record { same_frames = e; kept = refl; quiet = refl; start = d.kept; trail = (refl, refl) }

-- where an attempt is done
pub settled_done : (IsJob : Plan → Type 0) (Holds Case : NonVolatile → Type 0) (Ends : Plan → NonVolatile → Type 0) (frames : FrameSupport) (good : AllGoodFor IsJob Holds Case Ends) (w : World) (b : Books) (plan : Plan) → IsJob plan → WorldInv w b
    → LoadInv IsJob Holds Case Ends frames good w b → IsDone plan w → Settled w.device.kept frames b.asked (seen_of w.device b.delivered b.given)
settled_done IsJob Holds Case Ends frames good w b plan job h l done =
    let o : Seen = seen_of w.device b.delivered b.given in
    let all : AllOver w.client.sent w.client.accepted b.asked o = over_at IsJob Holds Case Ends frames good w b plan Over job h l done.over done.all in
    record {
      same_frames = l.same_frames;
      kept = refl;
      quiet = all.sent_is ∙ sym all.delivered_is;
      start = l.start;
      trail = subst (λ (z : NonVolatile). Trail frames l.start b.delivered b.given z) (latest_is IsJob Holds Case Ends frames good b.asked o w.client.sent w.client.accepted all l) l.trail;
    }

-- ---- what happens to a device then, where nothing more is asked

shuts_settled : (first : NonVolatile) (frames : FrameSupport) (asked : Texts) (o n : Seen) → Settled first frames asked o → Shuts o n → Settled first frames asked n
shuts_settled first frames asked o n h ShSame = h
shuts_settled first frames asked o n h (ShCloses k l pl le) = record { same_frames = h.same_frames; kept = h.kept; quiet = h.quiet; start = h.start; trail = h.trail }
shuts_settled first frames asked o n h ShCut = record { same_frames = h.same_frames; kept = h.kept; quiet = h.quiet; start = h.start; trail = h.trail }

spoke_settled : (me : IndAddr) (first : NonVolatile) (frames : FrameSupport) (asked : Texts) (o n : Seen) (k : List Arrival) → Settled first frames asked o → Speaks me o n k → Settled first frames asked n
spoke_settled me first frames asked o n k h (SShift x rest q e) = record { same_frames = h.same_frames; kept = h.kept; quiet = h.quiet; start = h.start; trail = h.trail }
spoke_settled me first frames asked o n k h (SAgain c v older bare ge ex ci st) = record { same_frames = h.same_frames; kept = h.kept; quiet = h.quiet; start = h.start; trail = h.trail }
spoke_settled me first frames asked o n k h SNothing = h

module _ (me : IndAddr) (first : NonVolatile) (frames : FrameSupport) (asked : Texts) (s : TransportFrame) (o : Seen) (r : Ready s asked o.delivered) (h : Settled first frames asked o) where
  opened : {outcome : Outcome} → (n : Seen) → Hears me outcome s o true n → Settled first frames [] n × Settled first frames [] (record { frames = n.frames; connection = n.connection; unsent = []; last = None; delivered = []; given = []; kept = n.kept })
  opened n (HOpens t se ci) = (
    record { same_frames = h.same_frames; kept = h.kept; quiet = refl; start = first; trail = (refl, refl) },
    record { same_frames = h.same_frames; kept = h.kept; quiet = refl; start = first; trail = (refl, refl) },
  )

  heard : {outcome : Outcome} → (n : Seen) → Hears me outcome s o false n → (n.frames ≡ o.frames) × (n.kept ≡ o.kept) × (n.delivered ≡ o.delivered) × (n.given ≡ o.given)
  heard n (HDelivers u apdu l ex se ci le ai) = absurd (nothing_new me asked s o r h.quiet apdu se)
  heard n (HAnswers u a apdu v l ex se ci le ai) = absurd (nothing_new me asked s o r h.quiet apdu se)
  heard n (HAgain c k apdu l se ne nx ex ci le st) = (refl, refl, refl, refl)
  heard n (HSpeaks c k l sc pl ex ci le st) = (refl, refl, refl, refl)
  heard n (HAcked u v older ex ge se ci nc) = (refl, refl, refl, refl)
  heard n (HCloses k l sc pl le) = (refl, refl, refl, refl)

  same : (n : Seen) → n.frames ≡ o.frames → n.kept ≡ o.kept → n.delivered ≡ o.delivered → n.given ≡ o.given → Settled first frames asked n
  same n fe ke de ge =
      record {
        same_frames = fe ∙ h.same_frames;
        kept = ke ∙ h.kept;
        quiet = h.quiet ∙ sym de;
        start = h.start;
        trail = subst (λ (z : Texts). Trail frames h.start z n.given first) (sym de) (subst (λ (z : Texts). Trail frames h.start o.delivered z first) (sym ge) h.trail);
      }

  -- the device gets a frame: asked' is what was asked, or anew
  pub got_settled : {outcome : Outcome} → (asked' : Texts) (n : Seen) (b taken : Bool) → (b ≡ false → asked' ≡ asked) → (b ≡ true → asked' ≡ []) → Got me outcome s o b taken n → Settled first frames asked' n
  got_settled asked' n b taken e p GNot = subst (λ (z : Texts). Settled first frames z o) (sym (e refl)) h
  got_settled asked' n true taken e p (GWhole b2 n2 hr w) = subst (λ (z : Texts). Settled first frames z n) (sym (p refl)) (opened n hr).0
  got_settled asked' n false taken e p (GWhole b2 n2 hr w) = let q = heard n hr in subst (λ (z : Texts). Settled first frames z n) (sym (e refl)) (same n q.0 q.1 q.2 q.3)
  got_settled asked' n true taken e p (GTorn b2 m hr) =
      let q : Settled first frames [] m = (opened m hr).0 in
      subst (λ (z : Texts). Settled first frames z n) (sym (p refl)) (record { same_frames = q.same_frames; kept = q.kept; quiet = refl; start = first; trail = (refl, refl) })
  got_settled asked' n false taken e p (GTorn b2 m hr) = let q = heard m hr in subst (λ (z : Texts). Settled first frames z n) (sym (e refl)) (same n q.0 q.1 refl refl)

-- ---- plans that change nothing

abbrev Any : NonVolatile → Type 0
Any nv = Unit {0}

abbrev pub Stays : NonVolatile → NonVolatile → Type 0
Stays first nv = nv ≡ first

abbrev pub Nothing : Plan → NonVolatile → Type 0
Nothing plan nv = Unit {0}

abbrev pub ChangesNothing : Plan → Type 0
ChangesNothing plan = (frames : FrameSupport) (start end : NonVolatile) → Beginning (answer_in frames) plan start end → end ≡ start

module _ (IsCheck : Plan → Type 0) (checks : (plan : Plan) → IsCheck plan → ChangesNothing plan) (can : (plan : Plan) → IsCheck plan → IsSendable plan) (first : NonVolatile) (frames : FrameSupport) where
  check_for : (from : NonVolatile) (plan : Plan) → IsCheck plan → IsGoodFor Any (Stays from) (Nothing plan) plan
  check_for from plan check = record { beginnings = λ fs start end holds case b. checks plan check fs start end b ∙ case; whole_runs = λ fs start end holds case r. tt }

  pub checks_good : AllGoodFor IsCheck Any (Stays first) Nothing
  checks_good = record { kept = λ nv apdu outcome holds. tt; good = λ plan check. check_for first plan check; sendable = can }

  abbrev pub Checking : World → Books → Type 0
  Checking = LoadInv IsCheck Any (Stays first) Nothing frames checks_good

  abbrev pub SettledAt : World → Books → Type 0
  SettledAt w b = Settled first frames b.asked (seen_of w.device b.delivered b.given)

  -- all is delivered, or a plan that changes nothing is gone through
  abbrev pub Unchanged : World → Books → Type 0
  Unchanged w b = SettledAt w b ⊎ Checking w b

  pub unchanged_kept : (w : World) (b : Books) → Unchanged w b → w.device.kept ≡ first
  unchanged_kept w b (inl h) = h.kept
  unchanged_kept w b (inr l) = l.case

  -- ---- a service of such a plan is sent

  session_settled : (me : IndAddr) (asked : Texts) (fly : Option TransportFrame) (coming : List Arrival) (owed : Texts) (number expected : ℕ) (sent accepted : Texts) (o : Seen) (plan rest : Plan) → IsCheck plan → Settled first frames asked o
      → InSession asked fly coming owed false number expected sent accepted o → Went plan sent accepted rest → AllOver sent accepted asked o
  session_settled me asked fly coming owed number expected sent accepted o plan rest check h ss went =
      let fewer : length o.given ≤ want o.delivered = few frames h.start o.delivered o.given first h.trail in
      let wants : want o.delivered ≡ want sent = ap want (sym h.quiet ∙ ss.same) in
      let all : length accepted ≡ want sent = count plan rest sent accepted (can plan check) went in
      let most : length accepted ≤ length o.given = tail_length accepted o.given ss.heard_is in
      record { sent_is = ss.same; delivered_is = sym h.quiet ∙ ss.same; given_is = sym (tail_same accepted o.given o.given ss.heard_is ([], refl) (omega arith)) }

  settled_over : (me : IndAddr) (asked : Texts) (fly : Option TransportFrame) (coming : List Arrival) (o : Seen) (end : ClientEnd) (joined pending : Bool) (owed sent accepted : Texts) (plan rest : Plan) → IsCheck plan → Settled first frames asked o
      → PhaseIs end joined pending owed sent accepted asked fly coming o → awaits_nothing end ≡ true → Went plan sent accepted rest → AllOver sent accepted asked o
  settled_over me asked fly coming o (Asked device) joined pending owed sent accepted plan rest check q h up went = cc
  settled_over me asked fly coming o (Up s) joined pending owed sent accepted plan rest check q h up went = session_settled me asked fly coming owed s.number s.expected sent accepted o plan rest check q h.1 went
  settled_over me asked fly coming o (Asking s z) joined pending owed sent accepted plan rest check q h up went = cc
  settled_over me asked fly coming o (Awaiting s) joined pending owed sent accepted plan rest check q h up went = cc
  settled_over me asked fly coming o Ended joined pending owed sent accepted plan rest check q h up went = cc

  -- what its session began with is what is kept
  began_so : (plan rest : Plan) (sent given : Texts) (start kept : NonVolatile) → IsCheck plan → Went plan sent given rest → Trail frames start sent given kept → kept ≡ start
  began_so plan rest sent given start kept check went t =
      Leads-now (answer_in frames) (Stays start) (Nothing plan) rest kept (walked (Stays start) (Nothing plan) frames Any plan (check_for start plan check) (can plan check) rest sent given start kept refl tt went t)

  asks_settled : (w : World) (b : Books) (apdu : List ℕ) (o : Option (List ℕ)) → WorldInv w b → SettledAt w b → MayAsk IsCheck w (Asks apdu) → Unchanged (asks_so w apdu o) (asks_book b apdu o)
  asks_settled w b apdu None h q may = inl q
  asks_settled w b apdu (Some tpdu) h q (plan, check, may) =
      let o : Seen = seen_of w.device b.delivered b.given in
      let over : AllOver w.client.sent w.client.accepted b.asked o
      = settled_over w.me b.asked (transport_if w.flying) (items w) o w.client.end w.client.joined w.client.pending w.client.owed w.client.sent w.client.accepted plan (Operation may.place apdu may.expect may.next) check q h.inv.phase may.free may.went in
      let went : Went plan b.asked w.client.accepted (Operation may.place apdu may.expect may.next) = subst (λ (z : Texts). Went plan z w.client.accepted (Operation may.place apdu may.expect may.next)) (sym over.sent_is) may.went in
      let through : Went plan b.delivered b.given (Operation may.place apdu may.expect may.next)
      = subst (λ (z : Texts). Went plan b.delivered z (Operation may.place apdu may.expect may.next)) (sym over.given_is) (subst (λ (z : Texts). Went plan z w.client.accepted (Operation may.place apdu may.expect may.next)) q.quiet went) in
      let began : q.start ≡ first = sym (began_so plan (Operation may.place apdu may.expect may.next) b.delivered b.given q.start first check through q.trail) in
      inr (record {
        same_frames = q.same_frames;
        case = q.kept;
        holds = tt;
        in_step = (record { plan = plan; job = check; place = may.place; expect = may.expect; next = may.next; accepted = w.client.accepted; went = went }, λ len. over.given_is);
        start = q.start;
        latest = first;
        began = began;
        held = tt;
        trail = q.trail;
        reached = inl (sym q.kept);
      })

  -- ---- each event

  anew_none : (b : Bool) (asked asked' : Texts) → asked' ≡ cond b [] asked → b ≡ true → asked' ≡ []
  anew_none true asked asked' e z = e
  anew_none false asked asked' e z = cc

  anew_same : (b : Bool) (asked asked' : Texts) → asked' ≡ cond b [] asked → b ≡ false → asked' ≡ asked
  anew_same true asked asked' e z = cc
  anew_same false asked asked' e z = e

  bus_settled : (w : World) (b : Books) (fl : Option Ldata) (outcome : Outcome) → w.flying ≡ fl → WorldInv w b → SettledAt w b → SettledAt (carries w fl outcome) (carries_book w b fl outcome)
  bus_settled w b None outcome e h q = q
  bus_settled w b (Some frame) outcome e h q =
      let mine : (frame.group ≡ false) × (frame.source ≡ w.me.raw) = subst (λ (z : Option Ldata). FlyMine w.me z) e h.flying in
      let o : Seen = seen_of w.device b.delivered b.given in
      let s : TransportFrame = frame_in frame.tpdu in
      let at : transport_if w.flying ≡ Some s = ap transport_if e ∙ ap (λ (z : TransportFrame). Some z) (transport_alone frame mine.0) in
      let fly : FlyIs (Some s) b.asked = subst (λ (z : Option TransportFrame). FlyIs z b.asked) at h.inv.side.fly_is in
      let got : GotIs w.me w.device frame w.now outcome b.delivered b.given s = got_mine w.me w.device frame w.now outcome b.delivered b.given mine.0 mine.1 (fly_small s b.asked fly) h.inv.side.connection in
      let asked' : Texts = or_anew (took_alone w.device frame) b.asked in
      got_settled w.me first frames b.asked s o (fly_ready s b.asked b.delivered h.inv.side.prefix h.inv.side.one fly) q asked' _ got.0 (is_taken (took_of w.device frame))
      (anew_same got.0 b.asked asked' (got.2 b.asked)) (anew_none got.0 b.asked asked' (got.2 b.asked)) got.1

  group_settled : (w : World) (b : Books) (frame : Ldata) → frame.group ≡ true → WorldInv w b → SettledAt w b → SettledAt (gets w frame Whole) (gets_book w b frame Whole)
  group_settled w b frame g h q =
      let o : Seen = seen_of w.device b.delivered b.given in
      let got : GotIs w.me w.device frame w.now Whole b.delivered b.given Other = got_group w.me w.device frame w.now b.delivered b.given g h.inv.side.connection in
      got_settled w.me first frames b.asked Other o tt q b.asked _ got.0 (is_taken (took_of w.device frame)) (λ z. refl) (λ z. absurd (opens_other w.me Whole o got.0 (is_taken (took_of w.device frame)) _ got.1 z)) got.1

  again_settled : (w : World) (b : Books) (r : Option Ldata) → w.device.last ≡ r → LastMine w.me r → WorldInv w b → SettledAt w b → SettledAt (gets_again w r) (again_book w b r)
  again_settled w b None e mine h q = q
  again_settled w b (Some frame) e (inl g) h q = group_settled w b frame g h q
  again_settled w b (Some frame) e (inr mine) h q =
      let o : Seen = seen_of w.device b.delivered b.given in
      let s : TransportFrame = frame_in frame.tpdu in
      let at : transport_if w.device.last ≡ Some s = ap transport_if e ∙ ap (λ (z : TransportFrame). Some z) (transport_alone frame mine.0) in
      let last : LastIs (Some s) b.asked b.delivered b.given = subst (λ (z : Option TransportFrame). LastIs z b.asked b.delivered b.given) at h.inv.side.last_is in
      let got : GotIs w.me w.device frame w.now Whole b.delivered b.given s = got_mine w.me w.device frame w.now Whole b.delivered b.given mine.0 mine.1 (ready_small s b.asked b.delivered last.0) h.inv.side.connection in
      got_settled w.me first frames b.asked s o last.0 q b.asked _ got.0 (is_taken (took_of w.device frame)) (λ z. refl)
      (λ z. q.quiet ∙ (again_opens w.me Whole s o b.asked got.0 (is_taken (took_of w.device frame)) _ last got.1 z).0) got.1

  lost_settled : (w : World) (b : Books) (fl : Option Ldata) → SettledAt w b → SettledAt (carries_lost w fl) b
  lost_settled w b None q = q
  lost_settled w b (Some frame) q = q

  waits_settled : (w : World) (b : Books) (x : ClientExpired) → SettledAt w b → SettledAt (waits_so w x) b
  waits_settled w b over.Nothing q = q
  waits_settled w b (over.Repeat tpdu) q = q
  waits_settled w b (over.Silent ms) q = q

  replies_settled : (w : World) (b : Books) (r : Texts) → SettledAt w b → SettledAt (replies_so w r) b
  replies_settled w b [] q = q
  replies_settled w b (x ∷ rest) q = q

  takes_settled : (w : World) (b : Books) (r : List Message) → SettledAt w b → SettledAt (takes_oldest w r) b
  takes_settled w b [] q = q
  takes_settled w b (Con error ∷ rest) q = q
  takes_settled w b (Ind frame ∷ rest) q = q

  settled_step : (w : World) (b : Books) (e : Event) → MayHappen w e → MayAsk IsCheck w e → WorldInv w b → SettledAt w b → Unchanged (step w e) (books_after w b e)
  settled_step w b Connects may al h q = inl q
  settled_step w b (Asks apdu) may al h q = asks_settled w b apdu (client_sent w.client.end apdu) h q al
  settled_step w b Waits may al h q = inl (waits_settled w b (client_expired w.client.end w.now) q)
  settled_step w b Replies may al h q = inl (replies_settled w b w.client.owed q)
  settled_step w b Leaves may al h q = inl q
  settled_step w b Takes may al h q = inl (takes_settled w b w.coming q)
  settled_step w b Loses may al h q = inl q
  settled_step w b (Joins n) may al h q = inl q
  settled_step w b (Drops n) may al h q = inl q
  settled_step w b (Bus outcome) may al h q = inl (bus_settled w b w.flying outcome refl h q)
  settled_step w b BusLost may al h q = inl (lost_settled w b w.flying q)
  settled_step w b BusAgain may al h q = inl (again_settled w b w.device.last refl h.last h q)
  settled_step w b (Group frame) may al h q = inl (group_settled w b frame may h q)
  settled_step w b Elsewhere may al h q = inl q
  settled_step w b (DevSend gateway) may al h q = inl (spoke_settled w.me first frames b.asked (seen_of w.device b.delivered b.given) _ _ q (pops_seen w.me w.device b.delivered b.given))
  settled_step w b (DevRepeat gateway) may al h q = inl (spoke_settled w.me first frames b.asked (seen_of w.device b.delivered b.given) _ _ q (repeats_seen w.me w.device w.now b.delivered b.given may h.inv.side.connection))
  settled_step w b DevClose may al h q = inl (shuts_settled first frames b.asked (seen_of w.device b.delivered b.given) _ q (shut_seen w.device b.delivered b.given))
  settled_step w b GwAgain may al h q = inl q
  settled_step w b Cut may al h q = inl (shuts_settled first frames b.asked (seen_of w.device b.delivered b.given) _ q (cut_is w.device b.delivered b.given))
  settled_step w b PowerOn may al h q = inl (shuts_settled first frames b.asked (seen_of w.device b.delivered b.given) _ q (on_seen w.device b.delivered b.given))
  settled_step w b (Pass ms) may al h q = inl q

  pub unchanged_step : (w : World) (b : Books) (e : Event) → MayHappen w e → MayAsk IsCheck w e → WorldInv w b → Unchanged w b → Unchanged (step w e) (books_after w b e)
  unchanged_step w b e may al h (inl q) = settled_step w b e may al h q
  unchanged_step w b e may al h (inr l) = inr (step_load IsCheck Any (Stays first) Nothing frames checks_good w b e may al h l)
