-- The law: what comes of giving an address on a calm bus is what the units at its start determine.
use Rattle.std.proofs.Common.{◌≡◌, ℕ, ◌⊎◌, inl, inr, List, [], ◌∷◌, ◌++◌, length, map, Bool, true, false, cond, Option, Some, None, Result, Ok, Err, refl, sym, ◌∙◌, ap, subst, arith}
use Rattle.std.specs.Prelude.{◌||◌, reverse}
use Rattle.std.proofs.lemmas.List.{length-reverse}
use Rattle.knx_model.specs.declared.address.IndAddr.{IndAddr}
use Rattle.line_model.specs.declared.fault.Try.{Try}
use Rattle.line_model.proofs.Entries.{entries_counted}
use Rattle.line_model.specs.ClientView.{Deed, Puts, Takes, Loses, Nothing, channel, deed}
use Rattle.line_model.specs.Faults.{tries}
use Rattle.line_model.specs.Haste.{KeepsPaces}
use Rattle.line_model.specs.Leaves.{StaysOpen}
use Rattle.line_model.specs.LinkStory.{Exact, newest_time}
use Rattle.line_model.specs.Moments.{moments, is_loss}
use Rattle.line_model.specs.Record.{Item, Entry, Placed, counted, entries, entry, item_of, noted, tunnel_record}
use Rattle.line_model.specs.Renews.{RenewsRightly, AcknowledgesRightly}
use Rattle.line_model.specs.Sendings.{SendsRightly}
use Rattle.line_model.specs.Tunnel.{Tunnel, Commissions, fresh}
use Rattle.line_model.specs.Tunnel as tunnel
use Rattle.calm_law.specs.CalmTunnel as calm
use Rattle.calm_law.specs.CalmTunnel.{IsKept}
use Rattle.calm_law.proofs.Finished.{lost_deed}
use Rattle.calm_law.proofs.Law.{Keeps, keeps_before, kept_of}
use Rattle.calm_law.proofs.State.{Ridden, ridden}
use Rattle.calm_law.proofs.Tries.{none_fails}
use Rattle.address_world.specs.declared.asked.Asked.{Asked}
use Rattle.address_world.specs.declared.asked.Asked.TheVariants.{Read, Connect, Disconnect, Write}
use Rattle.address_world.specs.declared.unit.Unit.{Unit as BusUnit}
use Rattle.address_world.specs.AddressWorld.{AddressWorld, AddressEvent, UnitState, me, tunnel_event, tunnel_events, replay}
use Rattle.address_world.specs.AddressLegal.{IsFresh, IsLegal}
use Rattle.address_world.specs.AddressStory.{record_of}
use Rattle.address_world.specs.Keeps.{AllAskFirst, PutsOnly}
use Rattle.address_world.proofs.Always.{kept_since}
use Rattle.address_world.proofs.Requests.{puts_only}
use Rattle.address_talk.proofs.Ends.{all_first, ends_rightly}
use Rattle.address_talk.specs.Rounds.{Round, rounds, quiet_since, has_lost, GoOn}
use Rattle.address_talk.specs.Talk.{AllSilent, AsksFor, Searches, Gives, NobodyAnswers, HasItAlready, ManyAnswer, ManyAnswerLate, AnotherHasIt, HasItNow, IsntSure, HeardOutBy, TalksRightly}
use Rattle.address_talk.specs.Ends.{AnsweredBy, Answered, EndsSo, FailsRightly, FailsLate, HasThreeTries}
use Rattle.address_talk.specs.declared.assigned.Assigned.{Assigned}
use Rattle.address_talk.specs.declared.assigned.Assigned.TheVariants.{Done, NoUnit, Several, Taken, Unconfirmed}
use Rattle.address_talk.specs.declared.assigned.AssignFault.{AssignFault}
use Rattle.address_talk.specs.declared.assigned.AssignFault.TheVariants.{TunnelLost, LinkFailed, GatewayRefused, Flooded, NoMemory}
use Rattle.address_world.specs.Shown.{shown}
use Rattle.address_law.specs.Calm.{AreCalm}
use Rattle.address_law.specs.Determined.{IsDetermined, Determines, EndsWith, FailsOutside, given as given_unit, left_by}
use Rattle.address_law.proofs.Programmed.{given}
use Rattle.address_law.proofs.Units.{AreAs}
use Rattle.address_law.proofs.Rides.{AllHeard, heard_all, is_write, no_write}
use Rattle.address_law.proofs.Talks.{TalksSo, rounds_of, rounds_are, talks_so, puts_rightly}
use Rattle.address_law.proofs.Riding.{Now}
use Rattle.address_law.proofs.Living.{record_at, records, Alive, alive, tunnel_calm, tunnel_legal, stays_before}
use Rattle.address_law.proofs.Parts.{Part, part_of, legal_before, calm_before, so_before}
use Rattle.address_law.proofs.Answers.{Ended, gives, left_units}
use Rattle.address_law.proofs.Unwritten.{NoWrites, kept_given, unwritten, writes_on}

-- ---- a channel that lives wasn't lost

abbrev lost_in : List Entry → Bool
lost_in [] = false
lost_in (x ∷ r) = is_loss (deed (channel r) x) || lost_in r

lost_are : (places : List Placed) → has_lost (moments places) ≡ lost_in (entries places)
lost_are [] = refl
lost_are (p ∷ older) = ap (λ b. is_loss (deed (channel (entries older)) p.what) || b) (lost_are older)

loses : (what : Deed) → is_loss what ≡ true → what ≡ Loses
loses (Puts cemi) h = absurd (cc)
loses (Takes cemi) h = absurd (cc)
loses Loses h = refl
loses Nothing h = absurd (cc)

kept_one : (x : Entry) (r : List Entry) (b : Bool) → is_loss (deed (channel r) x) ≡ b → IsKept (channel (x ∷ r)) → lost_in r ≡ false → lost_in (x ∷ r) ≡ false
kept_one x r true e kept before = absurd (let lost = lost_deed (channel r) x (loses (deed (channel r) x) e) in subst IsKept lost.1 kept)
kept_one x r false e kept before = ap (λ b. b || lost_in r) e ∙ before

kept_on : (o : Option Item) (now : ℕ) (r : List Entry) → IsKept (channel (noted o now r)) → lost_in r ≡ false → lost_in (noted o now r) ≡ false
kept_on None now r kept before = before
kept_on (Some what) now r kept before = kept_one (entry what now) r (is_loss (deed (channel r) (entry what now))) refl kept before

-- ---- the units at the end

shown_if : (b : Bool) (x y : UnitState) → shown (cond b x y) ≡ cond b (shown x) (shown y)
shown_if true x y = refl
shown_if false x y = refl

given_shown : (wanted : IndAddr) (units : List UnitState) → map shown (map (given wanted) units) ≡ map (given_unit wanted) (map shown units)
given_shown wanted [] = refl
given_shown wanted (u ∷ units) =
    ap (λ (x : BusUnit). x ∷ map shown (map (given wanted) units)) (shown_if u.programming (record u { address = wanted }) u) ∙ ap (λ (l : List BusUnit). given_unit wanted (shown u) ∷ l) (given_shown wanted units)

-- ---- the law

module _ (wanted : IndAddr) (start : AddressWorld) where
  -- what the client kept to, in all events
  pub record Client (events : List AddressEvent) : Type 0 where
    pub fresh : IsFresh start
    pub legal : IsLegal start events
    pub calm : AreCalm start events
    pub renews : RenewsRightly (record_at start events)
    pub sends : SendsRightly (record_at start events)
    pub acknowledges : AcknowledgesRightly (record_at start events)
    pub talks : TalksSo wanted (record_at start events)

  -- and in those up to a moment
  client_before : (later past : List AddressEvent) → Client (later ++ past) → Client past
  client_before later past c = record {
    fresh = c.fresh;
    legal = legal_before start later past c.legal;
    calm = calm_before start later past c.calm;
    renews = so_before start RenewsRightly (λ x r h. h.1) later past c.renews;
    sends = so_before start SendsRightly (λ x r h. h.1) later past c.sends;
    acknowledges = so_before start AcknowledgesRightly (λ x r h. h.1) later past c.acknowledges;
    talks = so_before start (TalksSo wanted) (λ x r h. h.1) later past c.talks;
  }

  keeps : (events : List AddressEvent) → Client events → KeepsPaces (record_at start events) → Keeps (record_at start events)
  keeps events c paces = record { renews = c.renews; sends = c.sends; acknowledges = c.acknowledges; paces = paces; puts = puts_rightly wanted (record_at start events) c.talks }

  live : (events : List AddressEvent) → Client events → KeepsPaces (record_at start events) → StaysOpen (record_at start events) → Alive wanted start events
  live events c paces stays = alive wanted start events c.fresh c.legal c.calm (keeps events c paces) c.talks stays

  -- ---- it doesn't fail for the channel

  never_lost : (events : List AddressEvent) → Client events → KeepsPaces (record_at start events) → StaysOpen (record_at start events) → lost_in (record_at start events) ≡ false
  never_lost [] c paces stays = refl
  never_lost (e ∷ past) c paces stays =
      let o : Option Item = item_of (replay start past).tunnel (tunnel_event (replay start past) e) in
      let now : ℕ = (replay start (e ∷ past)).tunnel.now in
      let r : List Entry = record_at start past in
      let l : Alive wanted start (e ∷ past) = live (e ∷ past) c paces stays in
      kept_on o now r (kept_of (Now wanted start.units (record_at start (e ∷ past)) (replay start (e ∷ past)).units) (record_at start (e ∷ past)) (replay start (e ∷ past)).tunnel (inl l) stays)
      (never_lost past (client_before (e ∷ []) past c) (keeps_before o now r (keeps (e ∷ past) c paces)).paces (stays_before o now r stays))

  -- nor because a try failed
  none_tried : (events : List AddressEvent) → Client events → KeepsPaces (record_at start events) → tries (record_at start events) ≡ []
  none_tried events c paces =
      let f : start.tunnel ≡ fresh (me start) = c.fresh.tunnel in
      let k : Keeps (record_of start events) = subst Keeps (records start events) (keeps events c paces) in
      let P : Tunnel → Type 0 = λ t. tunnel.IsLegal Commissions t (tunnel_events start events) × calm.AreCalm t (tunnel_events start events) × Keeps (tunnel_record t (tunnel_events start events)) in
      let all : P (fresh (me start)) = subst P f (tunnel_legal wanted start events c.legal, tunnel_calm wanted start events c.calm, k) in
      let none : tries (tunnel_record (fresh (me start)) (tunnel_events start events)) ≡ [] = none_fails (me start) (tunnel_events start events) all.0 all.1 all.2 in
      subst (λ (r : List Entry). tries r ≡ []) (sym (records start events)) (subst (λ (t : Tunnel). tries (tunnel_record t (tunnel_events start events)) ≡ []) (sym f) none)

  no_three : (three : List Try) → length three ≡ 3 → reverse three ≡ [] → ⊥
  no_three three n e = let a : length (reverse three) ≡ length three = length-reverse three in let b : length (reverse three) ≡ 0 = ap length e in omega (arith, a, b, n)

  -- ---- the answer

  -- at the moment of the answer
  ended : (past : List AddressEvent) (talk : List Placed) (assigned : Assigned) → Client past → record_at start past ≡ entries talk → AnsweredBy wanted assigned Exact talk → Ended wanted start.units (replay start past).units assigned
  ended past talk assigned c is a =
      let r : List Entry = record_at start past in
      let l : Alive wanted start past = live past c (subst KeepsPaces (sym is) (a.stands.paced refl).keeps) (subst StaysOpen (sym is) a.stands.stays_open) in
      let x : Ridden (Now wanted start.units r (replay start past).units) = ridden (Now wanted start.units r (replay start past).units) r (replay start past).tunnel l in
      let same : rounds (moments talk) ≡ rounds_of r = rounds_are talk ∙ ap rounds_of (sym is) in
      let out : HeardOutBy wanted (rounds_of r) (quiet_since r) (newest_time r)
      = subst (λ (z : List Entry). HeardOutBy wanted (rounds_of r) (quiet_since z) (newest_time z)) (sym is) (subst (λ (rs : List Round). HeardOutBy wanted rs (quiet_since (entries talk)) (newest_time (entries talk))) same a.heard_out) in
      let h : AllHeard wanted start.units (rounds_of r) (replay start past).units x.fly x.queue = heard_all wanted start.units (rounds_of r) (quiet_since r) (newest_time r) (replay start past).units x.fly x.queue x.so.rides out in
      gives wanted start.units (rounds_of r) (replay start past).units assigned (subst (λ rs. Gives wanted rs assigned) same a.gives) h.past h.held

  -- ---- after the answer

  -- no write was put, unless it is told done
  abbrev WritesNot : Assigned → List Round → Type 0
  WritesNot NoUnit rs = NoWrites wanted rs
  WritesNot Done rs = Unit {0}
  WritesNot (Several first second) rs = NoWrites wanted rs
  WritesNot Taken rs = NoWrites wanted rs
  WritesNot Unconfirmed rs = Unit {0}

  other_frame : (asked : Asked) (r : Round) → (asked ≡ Write → ⊥) → AsksFor wanted asked r → is_write r.frame ≡ false
  other_frame asked r other asks = ap is_write asks ∙ no_write wanted asked other

  silent_not : (rs : List Round) → AllSilent wanted rs → NoWrites wanted rs
  silent_not [] h = tt
  silent_not (r ∷ rs) h = (other_frame Read r (λ e. cc) h.0.reads, silent_not rs h.1)

  search_not : (r : Round) (before : List Round) → Searches wanted r before → NoWrites wanted (r ∷ before)
  search_not r before s = (other_frame Read r (λ e. cc) s.reads, silent_not before s.silent)

  tried_not : (d c r : Round) (before : List Round) → Searches wanted r before → AsksFor wanted Connect c → AsksFor wanted Disconnect d → NoWrites wanted (d ∷ c ∷ r ∷ before)
  tried_not d c r before s asks ends = (other_frame Disconnect d (λ e. cc) ends, (other_frame Connect c (λ e. cc) asks, search_not r before s))

  writes_not : (rs : List Round) (assigned : Assigned) → Gives wanted rs assigned → WritesNot assigned rs
  writes_not rs _ (NobodyAnswers all n) = silent_not rs all
  writes_not (r ∷ before) _ (HasItAlready s e) = tt
  writes_not (r ∷ before) _ (ManyAnswer first second s more) = search_not r before s
  writes_not (d ∷ c ∷ r ∷ before) _ (ManyAnswerLate first second s asks ends more) = tried_not d c r before s asks ends
  writes_not (d ∷ c ∷ r ∷ before) _ (AnotherHasIt s asks ends clear other) = tried_not d c r before s asks ends
  writes_not (v ∷ w ∷ rs) _ (HasItNow reads writes e) = tt
  writes_not (v ∷ w ∷ rs) _ (IsntSure reads writes isnt) = tt

  module _ (places : List Placed) (rightly : TalksRightly wanted places) where
    -- all that was put by the end is of the four
    puts_four : (events : List AddressEvent) → Client events → entries places ≡ record_at start events → PutsOnly wanted (record_of start events)
    puts_four events c is =
        puts_only wanted (record_of start events) (subst SendsRightly (records start events) c.sends) (subst (AllAskFirst wanted) (is ∙ records start events) (all_first wanted places rightly))

    left_so : (later past : List AddressEvent) (talk : List Placed) (assigned : Assigned) → Client (later ++ past) → entries places ≡ record_at start (later ++ past) → GoOn (rounds (moments talk)) (rounds (moments places)) → Gives wanted (rounds (moments talk)) assigned
        → Ended wanted start.units (replay start past).units assigned → map shown (replay start (later ++ past)).units ≡ left_by wanted assigned (map shown start.units)
    left_so later past talk assigned c is on given_so e = by_answer assigned (writes_not (rounds (moments talk)) assigned given_so) e.determined e.held where
      events : List AddressEvent
      events = later ++ past

      same : NoWrites wanted (rounds (moments talk)) → map shown (replay start events).units ≡ map shown start.units
      same none =
          let at_end : NoWrites wanted (rounds (moments places)) = writes_on wanted (rounds (moments talk)) (rounds (moments places)) on none in
          let all : rounds (moments places) ≡ rounds_of (record_of start events) = rounds_are places ∙ ap rounds_of (is ∙ records start events) in
          unwritten wanted start events c.fresh (subst SendsRightly (records start events) c.sends) (subst (TalksSo wanted) (records start events) c.talks) (subst (NoWrites wanted) all at_end)

      by_answer : (a : Assigned) → WritesNot a (rounds (moments talk)) → Determines wanted (map shown start.units) a → AreAs (left_units wanted start.units a) (replay start past).units → map shown (replay start events).units ≡ left_by wanted a (map shown start.units)
      by_answer NoUnit none told held = same none
      by_answer Done none told held =
          kept_given wanted start.units (replay start past).units (replay start events).units held (kept_since wanted start past later c.fresh (puts_four events c is)) ∙ given_shown wanted start.units
      by_answer (Several first second) none told held = same none
      by_answer Taken none told held = same none
      by_answer Unconfirmed none told held = elim told [ ]

    -- by the part of the events up to the answer
    ends_at : (later past : List AddressEvent) (talk : List Placed) (assigned : Assigned) → AnsweredBy wanted assigned Exact talk → record_at start past ≡ entries talk → GoOn (rounds (moments talk)) (rounds (moments places)) → Client (later ++ past) → entries places ≡ record_at start (later ++ past)
        → EndsWith wanted (map shown start.units) (map shown (replay start (later ++ past)).units) assigned
    ends_at later past talk assigned a at on c is =
        let e : Ended wanted start.units (replay start past).units assigned = ended past talk assigned (client_before later past c) at a in
        record { determined = e.determined; left = left_so later past talk assigned c is on a.gives e }

    answers_so : (events : List AddressEvent) (assigned : Assigned) → Answered wanted assigned Exact places → Client events → entries places ≡ record_at start events → EndsWith wanted (map shown start.units) (map shown (replay start events).units) assigned
    answers_so events assigned h c is =
        let p : Part start events (entries h.talk) = part_of start events h.closes.added h.talk (sym is ∙ ap entries h.closes.all) in
        let P : List AddressEvent → Type 0 = λ es. Client es → entries places ≡ record_at start es → EndsWith wanted (map shown start.units) (map shown (replay start es).units) assigned in
        subst P (sym p.whole) (λ c2 is2. ends_at p.later p.past h.talk assigned h.answered p.is h.closes.rounds_go_on c2 is2) c is

    -- ---- how it ends

    lost_not : (events : List AddressEvent) → Client events → entries places ≡ record_at start events → KeepsPaces (entries places) → StaysOpen (entries places) → has_lost (moments places) ≡ true → ⊥
    lost_not events c is paces stays h =
        let none : lost_in (record_at start events) ≡ false = never_lost events c (subst KeepsPaces is paces) (subst StaysOpen is stays) in
        let lost : lost_in (record_at start events) ≡ true = sym (lost_are places ∙ ap lost_in is) ∙ h in
        let z : true ≡ false = sym lost ∙ none in cc

    refused_not : (events : List AddressEvent) (three : List Try) → Client events → entries places ≡ record_at start events → KeepsPaces (entries places) → length three ≡ 3 → tries (entries places) ≡ reverse three → ⊥
    refused_not events three c is paces n h =
        no_three three n (sym h ∙ (ap tries is ∙ none_tried events c (subst KeepsPaces is paces)))

    fails_so : (events : List AddressEvent) (fault : AssignFault) → HasThreeTries (Err fault) → Client events → entries places ≡ record_at start events → FailsRightly wanted fault Exact places ⊎ FailsLate wanted fault Exact places → FailsOutside fault
    fails_so events TunnelLost three c is (inl h) = lost_not events c is (h.paced refl).keeps h.stays_open h.cause
    fails_so events TunnelLost three c is (inr h) = absurd h.late
    fails_so events LinkFailed three c is h = tt
    fails_so events (GatewayRefused tried) three c is (inl h) = refused_not events tried c is (h.paced refl).keeps (three tried refl) h.cause
    fails_so events (GatewayRefused tried) three c is (inr h) = refused_not events tried c is (h.answered.keeps refl) (three tried refl) h.cause
    fails_so events Flooded three c is h = tt
    fails_so events (NoMemory want) three c is h = tt

  by_came : (events : List AddressEvent) (places : List Placed) (came : Result Assigned AssignFault) → HasThreeTries came → Client events → entries places ≡ record_at start events → TalksRightly wanted places → EndsSo wanted came Exact places
      → IsDetermined wanted (map shown start.units) (map shown (replay start events).units) came
  by_came events places (Ok assigned) three c is rightly h = answers_so places rightly events assigned h c is
  by_came events places (Err fault) three c is rightly h = fails_so places rightly events fault three c is h

  pub law : (events : List AddressEvent) (came : Result Assigned AssignFault) → HasThreeTries came → IsFresh start → IsLegal start events → AreCalm start events → RenewsRightly (record_of start events) → SendsRightly (record_of start events) → AcknowledgesRightly (record_of start events)
      → EndsSo wanted came Exact (counted (record_of start events)) → IsDetermined wanted (map shown start.units) (map shown (replay start events).units) came
  law events came three f l c renews sends acknowledges h =
      let places : List Placed = counted (record_of start events) in
      let same : entries places ≡ record_at start events = entries_counted (record_of start events) ∙ sym (records start events) in
      let rightly : TalksRightly wanted places = ends_rightly wanted came Exact places h in
      let back : record_of start events ≡ record_at start events = sym (records start events) in
      let client : Client events
      = record {
        fresh = f;
        legal = l;
        calm = c;
        renews = subst RenewsRightly back renews;
        sends = subst SendsRightly back sends;
        acknowledges = subst AcknowledgesRightly back acknowledges;
        talks = subst (TalksSo wanted) same (talks_so wanted places rightly);
      } in
      by_came events places came three client same rightly h
