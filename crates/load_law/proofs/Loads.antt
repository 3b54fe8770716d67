-- What the device keeps while a client goes through a plan: what happens to the device.
use Rattle.std.proofs.Common.{◌≡◌, ℕ, suc, ◌%◌, ◌⊎◌, List, [], ◌∷◌, length, Bool, true, false, Option, Some, None, refl, sym, ◌∙◌, ap, subst, arith, inl, inr}
use Rattle.std.proofs.lemmas.Bool.{false≢true}
use Rattle.knx_model.specs.declared.address.IndAddr.{IndAddr}
use Rattle.knx_model.specs.declared.device.FrameSupport.{FrameSupport}
use Rattle.knx_model.specs.declared.plan.Expect.{Expect}
use Rattle.knx_model.specs.declared.connection.TransportFrame.{TransportFrame}
use Rattle.knx_model.specs.declared.connection.TransportFrame.TheVariants.{Numbered}
use Rattle.knx_model.specs.DeviceConnection.{DeviceEnd, Closed, Idle}
use Rattle.knx_model.specs.Device.{NonVolatile, effect_in, answer_in}
use Rattle.knx_model.specs.DeviceFrames.{Outcome, Whole, Torn, Worn, kept_after}
use Rattle.knx_model.specs.GoodPlan.{IsNotTorn}
use Rattle.knx_model.specs.Plans.{Plan, Asks as Operation}
use Rattle.session_law.proofs.Arrivals.{Arrival}
use Rattle.session_law.proofs.Seen.{Seen, extra}
use Rattle.session_law.proofs.Taken.{is_torn, and_octets, Hears, HOpens, HDelivers, HAnswers, HAgain, HSpeaks, HAcked, HCloses, Got, GNot, GWhole, GTorn, torn_seen}
use Rattle.session_law.proofs.Spoken.{Speaks, SShift, SAgain, SNothing, Shuts, ShSame, ShCloses, ShCut}
use Rattle.session_law.proofs.Invariant.{Ready}
use Rattle.session_law.proofs.Sides.{next_one, ready_numbered}
use Rattle.load_law.specs.Download.{Went}
use Rattle.load_law.proofs.Answers.{Texts}
use Rattle.load_law.proofs.Walked.{AllGoodFor, Trail, On, walked}

-- a power cut tore the next one
abbrev pub Spoiled : Texts → Texts → DeviceEnd → Type 0
Spoiled asked delivered connection = (length asked ≡ suc (length delivered)) × (connection ≡ Closed)

whole_not_torn : (outcome : Outcome) → is_torn outcome ≡ false → IsNotTorn outcome
whole_not_torn Whole h = tt
whole_not_torn (Torn fresh octets) h = absurd (false≢true (sym h))
whole_not_torn (Worn octets) h = tt

-- the service that was asked last is a plan's operation after those before it, whose answers are all given
pub record Planned (IsJob : Plan → Type 0) (apdu : List ℕ) (older : Texts) : Type 0 where
  pub plan : Plan
  pub job : IsJob plan
  pub place : ℕ
  pub expect : Expect
  pub next : Option (List ℕ) → Plan
  pub accepted : Texts
  pub went : Went plan older accepted (Operation place apdu expect next)

abbrev pub InStep : (Plan → Type 0) → Texts → Texts → Texts → Type 0
InStep IsJob [] delivered given = Unit {0}
InStep IsJob (apdu ∷ older) delivered given = (p : Planned IsJob apdu older) × (length delivered ≡ length older → given ≡ p.accepted)

module _ (IsJob : Plan → Type 0) (Holds Case : NonVolatile → Type 0) (Ends : Plan → NonVolatile → Type 0) (frames : FrameSupport) (all : AllGoodFor IsJob Holds Case Ends) where
  pub record Load (asked : Texts) (o : Seen) : Type 0 where
    pub same_frames : o.frames ≡ frames
    pub case : Case o.kept
    pub holds : Holds o.kept
    pub in_step : InStep IsJob asked o.delivered o.given
    pub start : NonVolatile  -- what it kept when its session began
    pub latest : NonVolatile  -- and after the service that it delivered last
    pub began : Case start
    pub held : Holds start
    pub trail : Trail frames start o.delivered o.given latest
    pub reached : (latest ≡ o.kept) ⊎ Spoiled asked o.delivered o.connection

  -- the next operation leads on from what the device keeps
  pub record Next (apdu : List ℕ) (kept : NonVolatile) : Type 0 where
    pub plan : Plan
    pub place : ℕ
    pub expect : Expect
    pub next : Option (List ℕ) → Plan
    pub on : On Case (Ends plan) frames (Operation place apdu expect next) kept

  not_closed : (o : Seen) → extra o.connection ≡ 0 → o.connection ≡ Closed → ⊥
  not_closed o ex e = let h : extra o.connection ≡ 1 = ap extra e in omega arith

  latest_kept : (asked : Texts) (o : Seen) → extra o.connection ≡ 0 → (h : Load asked o) → h.latest ≡ o.kept
  latest_kept asked o ex h = elim h.reached [ inl e ↦ e | inr s ↦ absurd (not_closed o ex s.1) ]

  next_by : (asked : Texts) (apdu : List ℕ) (delivered given : Texts) (start kept : NonVolatile) → asked ≡ apdu ∷ delivered → InStep IsJob asked delivered given → Case start → Holds start → Trail frames start delivered given kept → Next apdu kept
  next_by asked apdu delivered given start kept e step case held t =
      let s : InStep IsJob (apdu ∷ delivered) delivered given = subst (λ (z : Texts). InStep IsJob z delivered given) e step in
      let same : given ≡ s.0.accepted = s.1 refl in
      record { plan = s.0.plan; place = s.0.place; expect = s.0.expect; next = s.0.next; on = walked Case (Ends s.0.plan) frames Holds s.0.plan (all.good s.0.plan s.0.job) (all.sendable s.0.plan s.0.job) (Operation s.0.place apdu s.0.expect s.0.next) delivered s.0.accepted start kept case held s.0.went (subst (λ (z : Texts). Trail frames start delivered z kept) same t) }

  -- the service that is delivered is the next operation
  delivers : (asked : Texts) (s : TransportFrame) (o : Seen) (apdu : List ℕ) → Ready s asked o.delivered → Load asked o → extra o.connection ≡ 0 → s ≡ Numbered (length o.delivered % 16) apdu → (asked ≡ apdu ∷ o.delivered) × Next apdu o.kept
  delivers asked s o apdu r h ex se =
      let e : asked ≡ apdu ∷ o.delivered = next_one asked o.delivered apdu (ready_numbered s _ apdu asked o.delivered se r) in
      let t : Trail frames h.start o.delivered o.given o.kept = subst (λ (z : NonVolatile). Trail frames h.start o.delivered o.given z) (latest_kept asked o ex h) h.trail in
      (e, next_by asked apdu o.delivered o.given h.start o.kept e h.in_step h.began h.held t)

  taken_case : (apdu : List ℕ) (kept : NonVolatile) (outcome : Outcome) → Next apdu kept → Case (kept_after kept (effect_in apdu) outcome)
  taken_case apdu kept outcome n = n.on.1 outcome

  -- after a service was delivered nothing is outstanding for the plan
  stepped : (asked : Texts) (apdu : List ℕ) (delivered given given' : Texts) → asked ≡ apdu ∷ delivered → InStep IsJob asked delivered given → InStep IsJob asked (apdu ∷ delivered) given'
  stepped asked apdu delivered given given' e step =
      let s : InStep IsJob (apdu ∷ delivered) delivered given = subst (λ (z : Texts). InStep IsJob z delivered given) e step in
      subst (λ (z : Texts). InStep IsJob z (apdu ∷ delivered) given') (sym e) (s.0, λ len. absurd (omega (arith, len)))

  same_reached : (latest kept : NonVolatile) (asked : Texts) (o : Seen) (connection : DeviceEnd) → (o.connection ≡ Closed → connection ≡ Closed) → (latest ≡ kept) ⊎ Spoiled asked o.delivered o.connection → (latest ≡ kept) ⊎ Spoiled asked o.delivered connection
  same_reached latest kept asked o connection st (inl w) = inl w
  same_reached latest kept asked o connection st (inr s) = inr (s.0, st s.1)

  -- it takes one more
  takes_one : (outcome : Outcome) (asked : Texts) (s : TransportFrame) (o n : Seen) (apdu : List ℕ) (a : Option (List ℕ)) → is_torn outcome ≡ false → Ready s asked o.delivered → Load asked o → extra o.connection ≡ 0 → s ≡ Numbered (length o.delivered % 16) apdu
      → answer_in o.frames o.kept apdu ≡ a → n.frames ≡ o.frames → n.delivered ≡ apdu ∷ o.delivered → n.given ≡ and_octets a o.given → n.kept ≡ kept_after o.kept (effect_in apdu) outcome → Load asked n
  takes_one outcome asked s o n apdu a wh r h ex se ai fe de ge ke =
      let d = delivers asked s o apdu r h ex se in
      let t : Trail frames h.start o.delivered o.given o.kept = subst (λ (z : NonVolatile). Trail frames h.start o.delivered o.given z) (latest_kept asked o ex h) h.trail in
      let answer : answer_in frames o.kept apdu ≡ a = subst (λ (z : FrameSupport). answer_in z o.kept apdu ≡ a) h.same_frames ai in
      let more : Trail frames h.start (apdu ∷ o.delivered) (and_octets a o.given) (kept_after o.kept (effect_in apdu) outcome)
      = (o.kept, o.given, outcome, whole_not_torn outcome wh, ap (λ (z : Option (List ℕ)). and_octets z o.given) (sym answer), refl, t) in
      let step : InStep IsJob asked (apdu ∷ o.delivered) (and_octets a o.given) = stepped asked apdu o.delivered o.given (and_octets a o.given) d.0 h.in_step in
      record {
        same_frames = fe ∙ h.same_frames;
        case = subst Case (sym ke) (taken_case apdu o.kept outcome d.1);
        holds = subst Holds (sym ke) (all.kept o.kept apdu outcome h.holds);
        in_step = subst (λ (z : Texts). InStep IsJob asked z n.given) (sym de) (subst (λ (z : Texts). InStep IsJob asked (apdu ∷ o.delivered) z) (sym ge) step);
        start = h.start;
        latest = kept_after o.kept (effect_in apdu) outcome;
        began = h.began;
        held = h.held;
        trail = subst (λ (z : Texts). Trail frames h.start z n.given (kept_after o.kept (effect_in apdu) outcome)) (sym de)
            (subst (λ (z : Texts). Trail frames h.start (apdu ∷ o.delivered) z (kept_after o.kept (effect_in apdu) outcome)) (sym ge) more);
        reached = inl (sym ke);
      }

  pub heard_load : {outcome : Outcome} → (me : IndAddr) (asked : Texts) (s : TransportFrame) (o n : Seen) → is_torn outcome ≡ false → Ready s asked o.delivered → Load asked o → Hears me outcome s o false n → Load asked n
  heard_load {outcome} me asked s o n wh r h (HDelivers u apdu l ex se ci le ai) = takes_one outcome asked s o n apdu None wh r h ex se ai refl refl refl refl
  heard_load {outcome} me asked s o n wh r h (HAnswers u a apdu v l ex se ci le ai) = takes_one outcome asked s o n apdu (Some v) wh r h ex se ai refl refl refl refl
  heard_load me asked s o n wh r h (HAgain c k apdu l se ne nx ex ci le st) =
      record { same_frames = h.same_frames; case = h.case; holds = h.holds; in_step = h.in_step; start = h.start; latest = h.latest; began = h.began; held = h.held; trail = h.trail; reached = same_reached h.latest o.kept asked o c st h.reached }
  heard_load me asked s o n wh r h (HSpeaks c k l sc pl ex ci le st) =
      record { same_frames = h.same_frames; case = h.case; holds = h.holds; in_step = h.in_step; start = h.start; latest = h.latest; began = h.began; held = h.held; trail = h.trail; reached = same_reached h.latest o.kept asked o c st h.reached }
  heard_load me asked s o n wh r h (HAcked u v older ex ge se ci nc) =
      record { same_frames = h.same_frames; case = h.case; holds = h.holds; in_step = h.in_step; start = h.start; latest = h.latest; began = h.began; held = h.held; trail = h.trail; reached = same_reached h.latest o.kept asked o (Idle u) (λ z. absurd (nc z)) h.reached }
  heard_load me asked s o n wh r h (HCloses k l sc pl le) =
      record { same_frames = h.same_frames; case = h.case; holds = h.holds; in_step = h.in_step; start = h.start; latest = h.latest; began = h.began; held = h.held; trail = h.trail; reached = same_reached h.latest o.kept asked o Closed (λ z. refl) h.reached }

  -- a power cut tears it
  torn_one : (outcome : Outcome) (asked : Texts) (s : TransportFrame) (o : Seen) (fs : FrameSupport) (apdu : List ℕ) → fs ≡ o.frames → Ready s asked o.delivered → Load asked o → extra o.connection ≡ 0 → s ≡ Numbered (length o.delivered % 16) apdu
      → Load asked (record { frames = fs; connection = Closed; unsent = []; last = None; delivered = o.delivered; given = o.given; kept = kept_after o.kept (effect_in apdu) outcome })
  torn_one outcome asked s o fs apdu fe r h ex se =
      let d = delivers asked s o apdu r h ex se in
      record { same_frames = fe ∙ h.same_frames; case = taken_case apdu o.kept outcome d.1; holds = all.kept o.kept apdu outcome h.holds; in_step = h.in_step; start = h.start; latest = h.latest; began = h.began; held = h.held; trail = h.trail; reached = inr (ap (λ (z : Texts). length z) d.0, refl) }

  closes : (asked : Texts) (o : Seen) (unsent : List Arrival) (last : Option TransportFrame) → Load asked o → Load asked (record { frames = o.frames; connection = Closed; unsent = unsent; last = last; delivered = o.delivered; given = o.given; kept = o.kept })
  closes asked o unsent last h =
      record { same_frames = h.same_frames; case = h.case; holds = h.holds; in_step = h.in_step; start = h.start; latest = h.latest; began = h.began; held = h.held; trail = h.trail; reached = same_reached h.latest o.kept asked o Closed (λ z. refl) h.reached }

  pub torn_load : {outcome : Outcome} → (me : IndAddr) (asked : Texts) (s : TransportFrame) (o n : Seen) → Ready s asked o.delivered → Load asked o → Hears me outcome s o false n → Load asked (torn_seen false o n)
  torn_load {outcome} me asked s o n r h (HDelivers u apdu l ex se ci le ai) = torn_one outcome asked s o o.frames apdu refl r h ex se
  torn_load {outcome} me asked s o n r h (HAnswers u a apdu v l ex se ci le ai) = torn_one outcome asked s o o.frames apdu refl r h ex se
  torn_load me asked s o n r h (HAgain c k apdu l se ne nx ex ci le st) = closes asked o [] None h
  torn_load me asked s o n r h (HSpeaks c k l sc pl ex ci le st) = closes asked o [] None h
  torn_load me asked s o n r h (HAcked u v older ex ge se ci nc) = closes asked o [] None h
  torn_load me asked s o n r h (HCloses k l sc pl le) = closes asked o [] None h

  -- a session begins, from what the device keeps then
  opened_load : {outcome : Outcome} → (me : IndAddr) (asked asked' : Texts) (s : TransportFrame) (o n : Seen) → InStep IsJob asked' [] [] → Load asked o → Hears me outcome s o true n → Load asked' n × Load asked' (torn_seen true o n)
  opened_load me asked asked' s o n p h (HOpens t se ci) = (
    record { same_frames = h.same_frames; case = h.case; holds = h.holds; in_step = p; start = o.kept; latest = o.kept; began = h.case; held = h.holds; trail = (refl, refl); reached = inl refl },
    record { same_frames = h.same_frames; case = h.case; holds = h.holds; in_step = p; start = o.kept; latest = o.kept; began = h.case; held = h.holds; trail = (refl, refl); reached = inl refl },
  )

  -- the device gets a frame: asked' is what was asked, or anew
  pub got_load : {outcome : Outcome} → (me : IndAddr) (asked asked' : Texts) (s : TransportFrame) (o n : Seen) (b taken : Bool) → Ready s asked o.delivered → (b ≡ false → asked' ≡ asked) → (b ≡ true → InStep IsJob asked' [] []) → Load asked o → Got me outcome s o b taken n → Load asked' n
  got_load me asked asked' s o n b taken r e p h GNot = subst (λ (z : Texts). Load z o) (sym (e refl)) h
  got_load me asked asked' s o n true taken r e p h (GWhole b2 n2 hr w) = (opened_load me asked asked' s o n (p refl) h hr).0
  got_load me asked asked' s o n false taken r e p h (GWhole b2 n2 hr w) = subst (λ (z : Texts). Load z n) (sym (e refl)) (heard_load me asked s o n w r h hr)
  got_load me asked asked' s o n true taken r e p h (GTorn b2 m hr) = (opened_load me asked asked' s o m (p refl) h hr).1
  got_load me asked asked' s o n false taken r e p h (GTorn b2 m hr) = subst (λ (z : Texts). Load z (torn_seen false o m)) (sym (e refl)) (torn_load me asked s o m r h hr)

  pub shut_load : (asked : Texts) (o n : Seen) → Load asked o → Shuts o n → Load asked n
  shut_load asked o n h ShSame = h
  shut_load asked o n h (ShCloses k l pl le) = closes asked o l o.last h
  shut_load asked o n h ShCut = closes asked o [] None h

  pub spoke_load : (me : IndAddr) (asked : Texts) (o n : Seen) (k : List Arrival) → Load asked o → Speaks me o n k → Load asked n
  spoke_load me asked o n k h (SShift x rest q e) = record { same_frames = h.same_frames; case = h.case; holds = h.holds; in_step = h.in_step; start = h.start; latest = h.latest; began = h.began; held = h.held; trail = h.trail; reached = h.reached }
  spoke_load me asked o n k h (SAgain c v older bare ge ex ci st) =
      record { same_frames = h.same_frames; case = h.case; holds = h.holds; in_step = h.in_step; start = h.start; latest = h.latest; began = h.began; held = h.held; trail = h.trail; reached = same_reached h.latest o.kept asked o c st h.reached }
  spoke_load me asked o n k h SNothing = h
