-- What the calls of the talk come to.
use Rattle.std.proofs.Common.{◌≡◌, ℕ, ◌<◌, ◌≤◌, List, Bool, true, false, Some, Result, Ok, Err, refl, sym, ◌∙◌, ap, subst, arith}
use Rattle.std.specs.Prelude.{OnOk, IfErr, IsErr, IsErrAnd, ◌-◌, ◌^◌, min}
use Rattle.std.specs.List.{list_any}
use Rattle.knx_model.specs.declared.address.IndAddr.{IndAddr}
use Rattle.line_model.specs.declared.fault.HubFault.{HubFault}
use Rattle.line_model.specs.Asks.{HasPlace}
use Rattle.line_model.specs.ClientView.{channel}
use Rattle.line_model.specs.Record.{Placed, entries, is_poll}
use Rattle.line_model.specs.Leaves.{StaysOpen}
use Rattle.line_model.specs.LinkStory.{Story, Clock, Exact, clock_of, newest_time, places_in}
use Rattle.line_model.specs.Faults.{datagrams_taken, flood}
use Rattle.line_model.specs.Moments.{moments}
use Rattle.tunnel_link.specs.declared.came.Came.{Came}
use Rattle.tunnel_link.specs.declared.came.Loss.TheVariants.{Stays}
use Rattle.tunnel_link.specs.Adds.{Growing, Acts, Seeks, PollAdds, moments_on}
use Rattle.tunnel_link.specs.Alone.{Each, EndsNone, LeavesAlone}
use Rattle.tunnel_link.specs.Goes.{GoesOn}
use Rattle.tunnel_link.specs.Paces.{TakesNoTime, BeatsInTime, PollsWithin}
use Rattle.tunnel_link.specs.Rights.{at_most_64_bits, WhereTold}
use Rattle.address_talk.specs.declared.assigned.AssignFault.{AssignFault}
use Rattle.address_talk.specs.declared.assigned.AssignFault.TheVariants.{TunnelLost, LinkFailed, GatewayRefused, Flooded, NoMemory}
use Rattle.address_commission.specs.declared.ear.Ear.{Ear}
use Rattle.address_talk.specs.Rounds.{rounds, SameRounds}
use Rattle.address_talk.specs.Talk.{TalksRightly}
use Rattle.address_commission.specs.Going.{Going}
use Rattle.address_commission.specs.Listening.{AwaitsFor, HearsWhat, Listens}
use Rattle.address_talk.specs.Ends.{FailsSo, FailsRightly}
use Rattle.address_commission.specs.Calls.{ToldAs, EndsFor, TalkGoes}
use Rattle.address_talk.specs.Pace.{Paced, PacedUntil}
use Rattle.address_commission.proofs.Folds.{talks_on, puts_none}
use Rattle.address_commission.proofs.Heard.{go_same, go_on}
use Rattle.address_commission.proofs.Pacing.{PollsSo, also, ends_none_of, stays_on, still_paced, so_far, poll_paced, poll_paced_until}
use Rattle.address_commission.proofs.Steps.{Step, step_of, nothing_talks, nothing_same, nothing_listens, Polled, poll_step, polled_listens}
use Rattle.address_commission.specs.Exact.{WhereClock, WhereExact}

-- ---- what was so before

-- of the places before a call, by the clock after it
pub before : (P : Clock → List Placed → Type 0) (s t : Story) (old : List Placed) → clock_of t ≡ clock_of s → WhereClock P s → places_in s ≡ Some old → P (clock_of t) old
before P s t old same h p = subst (λ (c : Clock). P c old) (sym same) (h old p)

-- ---- a call that fails

-- a call fails for this, after which all that was put was rightly put
pub failed : {X : Type 0} (Q : List Placed → List Placed → Type 0) (e f : Ear) (s t : Story) (why : AssignFault) → ((wanted : IndAddr) → WhereClock (Listens wanted e) s → WhereClock (FailsRightly wanted why) t)
    → TalkGoes {X = X} Q e f s t (Err why)
failed Q e f s t why fails = record { listens = λ wanted h. tt; moves = λ wanted h. tt; fails = fails }

-- it is told that the client's end of the tunnel failed
pub told_failed : {X : Type 0} (Q : List Placed → List Placed → Type 0) (e f : Ear) (s t : Story) (why : AssignFault) → WhereTold (FailsSo why) t → ((wanted : IndAddr) → WhereClock (Listens wanted e) s → WhereTold (TalksRightly wanted) t)
    → ((wanted : IndAddr) → WhereClock (Listens wanted e) s → WhereTold (λ places. StaysOpen (entries places)) t) → ((wanted : IndAddr) → WhereClock (Listens wanted e) s → WhereExact (PacedUntil wanted) t) → TalkGoes {X = X} Q e f s t (Err why)
told_failed Q e f s t why cause talks stays paced = failed Q e f s t why (λ wanted h places p. record { cause = cause places p; rightly = talks wanted h places p; stays_open = stays wanted h places p; paced = paced wanted h places p })

-- ---- a call that doesn't ask to end the open channel

pub stays_open_on : (e : Ear) (s t : Story) → GoesOn s t → Growing (Each EndsNone) s t → (wanted : IndAddr) → WhereClock (Listens wanted e) s → WhereTold (λ places. StaysOpen (entries places)) t
stays_open_on e s t g none wanted l new p =
    let x = step_of (Each EndsNone) s t new g none p in
    subst (λ (z : List Placed). StaysOpen (entries z)) (sym x.grow) (stays_on x.added x.old x.is (l x.old x.told).stands.stays_open)

-- and lets no time pass

pub paced_on : (e : Ear) (s t : Story) → GoesOn s t → Growing (Each TakesNoTime) s t → Growing (Each EndsNone) s t → (wanted : IndAddr) → WhereClock (Listens wanted e) s → WhereExact (Paced wanted) t
paced_on e s t g time none wanted l new p exact =
    let x = step_of (Each TakesNoTime) s t new g time p in
    let was = (l x.old x.told).stands in
    subst (Paced wanted) (sym x.grow) (still_paced wanted x.added x.old x.is (also (Each TakesNoTime) (Each EndsNone) s t new x none p) was.stays_open (was.paced (sym x.clock ∙ exact)))

pub paced_so_far : (e : Ear) (s t : Story) → GoesOn s t → Growing (Each TakesNoTime) s t → Growing (Each EndsNone) s t → (wanted : IndAddr) → WhereClock (Listens wanted e) s → WhereExact (PacedUntil wanted) t
paced_so_far e s t g time none wanted l new p exact = so_far wanted new (paced_on e s t g time none wanted l new p exact)

-- a `?` hands on this fault
pub handed_on : {X : Type 0} (result : Result X AssignFault) (why : AssignFault) → IsErr result × IsErrAnd result (λ y. y ≡ why) → result ≡ Err why
handed_on (Ok x) why h = absurd h.1
handed_on (Err y) why h = ap (λ (z : AssignFault). Err z) h.1

-- what was told is what the call came to
pub told_ok : {X : Type 0} (call : Result X HubFault) (x : X) → ToldAs call (Ok x) → call ≡ Ok x
told_ok {X = X} (Ok y) x h = let q : x ≡ y = cc in ap (λ (z : X). Ok z) (sym q)
told_ok (Err fault) x h = absurd (cc)

-- ---- what is due

pub act_talks : (result : Result Bool HubFault) (e : Ear) (s t : Story) → GoesOn s t → Growing (Acts result) s t → (wanted : IndAddr) → WhereClock (Listens wanted e) s → WhereTold (TalksRightly wanted) t
act_talks (Ok acted) e s t g h wanted l new p =
    let x = step_of (Acts (Ok acted)) s t new g h p in
    nothing_talks wanted e x.old x.added new x.grow x.moments_grow x.is.0 (l x.old x.told).stands.rightly
act_talks (Err fault) e s t g h wanted l new p =
    let x = step_of (Acts (Err fault)) s t new g h p in
    nothing_talks wanted e x.old x.added new x.grow x.moments_grow x.is (l x.old x.told).stands.rightly

pub act_goes : {X : Type 0} (done : X) (acted : Bool) (e : Ear) (s t : Story) → GoesOn s t → Growing (Acts (Ok acted)) s t → Growing (Each TakesNoTime) s t → Growing (Each EndsNone) s t → TalkGoes SameRounds e e s t (Ok done)
act_goes done acted e s t g h time none = record {
  listens = λ wanted l new p.
      let x = step_of (Acts (Ok acted)) s t new g h p in
      nothing_listens wanted e x.old x.added new x.grow x.moments_grow (clock_of t) x.is.0 x.is.1.only_sends (stays_open_on e s t g none wanted l new p) (paced_on e s t g time none wanted l new p) (before (Listens wanted e) s t x.old x.clock l x.told);
  moves = λ wanted l new p.
      let x = step_of (Acts (Ok acted)) s t new g h p in
      record { old = x.old; told = x.told; clock = x.clock; is = nothing_same wanted e x.old x.added new x.grow x.moments_grow x.is.0 };
  fails = λ wanted l. tt;
}

-- ---- what is awaited

-- where nothing can be put
pub none_awaited : (s : Story) → WhereTold (λ places. HasPlace (channel (entries places)) → ⊥) s → (wanted : IndAddr) (longest : ℕ) → WhereTold (AwaitsFor wanted longest) s
none_awaited s without wanted longest places p now lt place heard = without places p place

-- ---- a new channel

pub seek_talks : (result : Result Bool HubFault) (e : Ear) (s t : Story) → GoesOn s t → Growing (Seeks result) s t → (wanted : IndAddr) → WhereClock (Listens wanted e) s → WhereTold (TalksRightly wanted) t
seek_talks result e s t g h wanted l new p =
    let x = step_of (Seeks result) s t new g h p in
    nothing_talks wanted e x.old x.added new x.grow x.moments_grow x.is.nothing (l x.old x.told).stands.rightly

seek_sends : (sought : Bool) (old added : List Placed) → Seeks (Ok sought) old added → list_any (λ (p : Placed). is_poll p.what.what) added ≡ false
seek_sends true old added h = h.so.0
seek_sends false old added h = rw h.so.0 refl

pub seek_goes : (sought : Bool) (e : Ear) (s t : Story) → GoesOn s t → Growing (Seeks (Ok sought)) s t → Growing (Each TakesNoTime) s t → Growing (Each EndsNone) s t → TalkGoes {X = Unit {0}} SameRounds e e s t (Ok tt)
seek_goes sought e s t g h time none = record {
  listens = λ wanted l new p.
      let x = step_of (Seeks (Ok sought)) s t new g h p in
      nothing_listens wanted e x.old x.added new x.grow x.moments_grow (clock_of t) x.is.nothing (seek_sends sought x.old x.added x.is) (stays_open_on e s t g none wanted l new p) (paced_on e s t g time none wanted l new p) (before (Listens wanted e) s t x.old x.clock l x.told);
  moves = λ wanted l new p.
      let x = step_of (Seeks (Ok sought)) s t new g h p in
      record { old = x.old; told = x.told; clock = x.clock; is = nothing_same wanted e x.old x.added new x.grow x.moments_grow x.is.nothing };
  fails = λ wanted l. tt;
}

-- ---- a poll

pub poll_talks : (result : Result Came HubFault) (why : AssignFault) → ToldAs result (Err why) → (e : Ear) (s t : Story) → GoesOn s t → Growing (PollAdds result) s t → (wanted : IndAddr) → WhereClock (Listens wanted e) s → WhereTold (TalksRightly wanted) t
poll_talks (Ok came) why told e s t g h wanted l new p = absurd (cc)
poll_talks (Err fault) why told e s t g h wanted l new p =
    let x = step_of (PollAdds (Err fault)) s t new g h p in
    subst (TalksRightly wanted) (sym x.grow) (talks_on wanted x.old x.added (puts_none (moments_on x.old x.added) x.is.puts_none) (l x.old x.told).stands.rightly)

pub polls_so : (longest : ℕ) (P : List Placed → List Placed → Type 0) (s t : Story) (new : List Placed) (x : Step P s t new) → Growing (PollsWithin (clock_of s) longest) s t → Growing (Each BeatsInTime) s t → Growing (Each LeavesAlone) s t → places_in t ≡ Some new → clock_of t ≡ Exact → PollsSo longest x.old x.added
polls_so longest P s t new x within beats alone p exact = record {
  within = subst (λ (c : Clock). PollsWithin c longest x.old x.added) (sym x.clock ∙ exact) (also P (PollsWithin (clock_of s) longest) s t new x within p);
  beats = also P (Each BeatsInTime) s t new x beats p;
  alone = also P (Each LeavesAlone) s t new x alone p;
}

pub poll_until : (longest : ℕ) (e : Ear) (s t : Story) → GoesOn s t → Growing (PollsWithin (clock_of s) longest) s t → Growing (Each BeatsInTime) s t → Growing (Each LeavesAlone) s t → (wanted : IndAddr) → WhereClock (Listens wanted e) s → WhereExact (PacedUntil wanted) t
poll_until longest e s t g within beats alone wanted l new p exact =
    let x = step_of (PollsWithin (clock_of s) longest) s t new g within p in
    poll_paced_until wanted longest x.old x.added new x.grow (polls_so longest (PollsWithin (clock_of s) longest) s t new x within beats alone p exact) ((l x.old x.told).stands.paced (sym x.clock ∙ exact))

-- a count of 64 bits, and what it counts
counted : (n k : ℕ) → k < 2 ^ 64 - 1 → (min n (2 ^ 64 - 1) < k → n < k) × (k ≤ min n (2 ^ 64 - 1) → k ≤ n)
counted n k lt = (λ h. omega (arith, h, lt), λ h. omega (arith, h, lt))

module _ (longest : ℕ) (came : Came) (e f : Ear) (now taken : ℕ) (s t : Story) (g : GoesOn s t) (h : Growing (PollAdds (Ok came)) s t) (within : Growing (PollsWithin (clock_of s) longest) s t) (beats : Growing (Each BeatsInTime) s t) (alone : Growing (Each LeavesAlone) s t)
    (awaits : (wanted : IndAddr) → WhereClock (Listens wanted e) s → WhereTold (AwaitsFor wanted longest) s) (w : HearsWhat came.what now e f) (at : WhereTold (λ places. now ≡ newest_time (entries places)) t)
    (counts : WhereTold (λ places. taken ≡ at_most_64_bits (datagrams_taken (entries places))) t) where
  polled : (wanted : IndAddr) (new : List Placed) → WhereClock (Listens wanted e) s → places_in t ≡ Some new → (x : Step (PollAdds (Ok came)) s t new) → Polled wanted f came.loss x.old new
  polled wanted new l p x = poll_step wanted e f (clock_of s) came now x.old x.added new x.grow x.moments_grow x.is w (at new p) (l x.old x.told)

  step : (new : List Placed) → places_in t ≡ Some new → Step (PollAdds (Ok came)) s t new
  step new p = step_of (PollAdds (Ok came)) s t new g h p

  pub poll_floods : {X : Type 0} → 16777216 ≤ taken → TalkGoes {X = X} SameRounds e f s t (Err Flooded)
  poll_floods many = failed SameRounds e f s t Flooded (λ wanted l new p.
      let q = polled wanted new l p (step new p) in
      let reached : flood ≤ datagrams_taken (entries new) = (counted (datagrams_taken (entries new)) flood (omega arith)).1 (subst (λ (n : ℕ). flood ≤ n) (counts new p) many) in
      record { cause = omega (arith, reached, q.at_most); rightly = q.rightly; stays_open = stays_open_on e s t g (ends_none_of s t alone) wanted l new p; paced = poll_until longest e s t g within beats alone wanted l new p })

  pub poll_ends : (result : Result (Unit {0}) AssignFault) → OnOk result ((taken < 16777216) × (came.loss ≡ Stays)) → IfErr result (λ why. EndsFor why taken came.loss) → TalkGoes SameRounds e f s t result
  poll_ends (Ok done) stays lost = record {
    listens = λ wanted l new p.
        let x = step new p in
        let few : datagrams_taken (entries new) < flood = (counted (datagrams_taken (entries new)) flood (omega arith)).0 (subst (λ (n : ℕ). n < flood) (counts new p) stays.0) in
        let q = polled wanted new l p x in
        polled_listens wanted f (clock_of t) came.loss x.old new q stays.1 few (stays_open_on e s t g (ends_none_of s t alone) wanted l new p)
        (λ exact. poll_paced wanted longest came x.old x.added new x.grow (awaits wanted l x.old x.told) x.is (polls_so longest (PollAdds (Ok came)) s t new x within beats alone p exact) (q.stays stays.1) ((l x.old x.told).stands.paced (sym x.clock ∙ exact)));
    moves = λ wanted l new p. let x = step new p in record { old = x.old; told = x.told; clock = x.clock; is = (polled wanted new l p x).same };
    fails = λ wanted l. tt;
  }
  poll_ends (Err Flooded) stays lost = poll_floods lost
  poll_ends (Err TunnelLost) stays lost = failed SameRounds e f s t TunnelLost (λ wanted l new p.
      let q = polled wanted new l p (step new p) in
      record { cause = q.lost lost; rightly = q.rightly; stays_open = stays_open_on e s t g (ends_none_of s t alone) wanted l new p; paced = poll_until longest e s t g within beats alone wanted l new p })
  poll_ends (Err LinkFailed) stays lost = absurd lost
  poll_ends (Err (GatewayRefused three)) stays lost = absurd lost
  poll_ends (Err (NoMemory want)) stays lost = absurd lost

-- ---- one call after another

pub same_then : (s t u : Story) → Going SameRounds s t → Going SameRounds t u → Going SameRounds s u
same_then s t u a b new p =
    let y = b new p in
    let x = a y.old y.told in
    record { old = x.old; told = x.told; clock = y.clock ∙ x.clock; is = go_on (rounds (moments x.old)) (rounds (moments y.old)) (rounds (moments new)) x.is y.is }

pub goes_same : (e : Ear) (s : Story) → TalkGoes {X = Unit {0}} SameRounds e e s s (Ok tt)
goes_same e s = record { listens = λ wanted l. l; moves = λ wanted l new p. record { old = new; told = p; clock = refl; is = go_same (rounds (moments new)) }; fails = λ wanted l. tt }

pub goes_then : {X Y : Type 0} (x : X) (e d f : Ear) (s t u : Story) (result : Result Y AssignFault) → TalkGoes {X = X} SameRounds e d s t (Ok x) → TalkGoes SameRounds d f t u result → TalkGoes SameRounds e f s u result
goes_then x e d f s t u (Ok y) a b = record { listens = λ wanted l. b.listens wanted (a.listens wanted l); moves = λ wanted l. same_then s t u (a.moves wanted l) (b.moves wanted (a.listens wanted l)); fails = λ wanted l. tt }
goes_then x e d f s t u (Err why) a b = record { listens = λ wanted l. tt; moves = λ wanted l. tt; fails = λ wanted l. b.fails wanted (a.listens wanted l) }
