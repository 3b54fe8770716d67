-- The response to the request that ends the channel is awaited.
use Rattle.std.proofs.Common.{◌≡◌, ◌≢◌, ℕ, suc, ◌+◌, ◌-◌, ◌≤◌, List, [], ◌∷◌, ◌++◌, Bool, true, false, cond, ◌||◌, Some, Result, Ok, Err, refl, sym, ◌∙◌, ap, subst, append_assoc, inl, inr, ◌⊎◌, arith}
use Rattle.std.specs.Prelude.{min, IfErr, IfOk}
use Rattle.std.proofs.lemmas.List.{append_cancel_right}
use Rattle.line_model.specs.declared.fault.HubFault.{HubFault}
use Rattle.line_model.specs.declared.fault.HubFault.TheVariants as hub
use Rattle.line_model.specs.ChannelLost.{answer_wait}
use Rattle.line_model.specs.ClientView.{Loses, Takes}
use Rattle.line_model.specs.Haste.{KeepsPaces}
use Rattle.line_model.specs.Leaves.{StaysOpen}
use Rattle.line_model.specs.LinkStory.{Story, Exact, clock_of, newest_time, places_in}
use Rattle.line_model.specs.Moments.{Moment, moments, is_loss}
use Rattle.line_model.specs.Record.{Item, Put, Renewed, Got, Quiet, Entry, Placed, entries, is_got, is_poll, is_renewal}
use Rattle.line_model.specs.Waiting.{longest_poll}
use Rattle.tunnel_link.specs.declared.came.Came.{Came}
use Rattle.tunnel_link.specs.declared.came.Loss.{Loss}
use Rattle.tunnel_link.specs.declared.came.Loss.TheVariants.{Stays, Ended, Told}
use Rattle.tunnel_link.specs.declared.came.What.{What}
use Rattle.tunnel_link.specs.declared.came.What.TheVariants as came
use Rattle.tunnel_link.specs.Adds.{Growing, Acts, PollAdds, Leaves, Brings, DoesSo, GotSo, One, OrLoses, TakesAt, TakesUnread, moments_on}
use Rattle.tunnel_link.specs.Alone.{Each, LeavesAlone, Nothing, Once, SendsOnce}
use Rattle.tunnel_link.specs.Goes.{GoesOn}
use Rattle.tunnel_link.specs.Paces.{TakesNoTime, BeatsInTime, PollsWithin}
use Rattle.tunnel_link.specs.Rights.{IsOfTunnel, WhereTold}
use Rattle.address_talk.specs.declared.assigned.AssignFault.{AssignFault}
use Rattle.address_talk.specs.declared.assigned.AssignFault.TheVariants as fails
use Rattle.address_talk.specs.Rounds.{has_lost}
use Rattle.address_commission.specs.Going.{ComesFrom, GoingExact}
use Rattle.address_talk.specs.Ends.{AwaitsResponse, ComesLate, FailsSo, LeavesOn, EndsOnce, datagrams_in}
use Rattle.address_commission.specs.Calls.{CausedBy, HasAwaited, LeavesSince, LeftOn, PaceKept, ToldAs, fault_of, got_one}
use Rattle.address_commission.proofs.Folds.{NoGot, nothing_lost, one_lost, sends_no_got, quiet_no_got}
use Rattle.address_commission.proofs.Pacing.{also, not_both, alone_paces, poll_paces, newest_within}
use Rattle.address_commission.proofs.Steps.{Step, step_of, some_is}
use Rattle.address_commission.specs.Exact.{WhereClock}

-- ---- the channel is lost or stays

lost_one : (P : Moment → Type 0) (l ms : List Moment) (o : One P l) → o.m.what ≡ Loses → has_lost (l ++ ms) ≡ true
lost_one P l ms o is = one_lost P l ms o ∙ ap (λ d. is_loss d || has_lost ms) is

took_one : (P : Moment → Type 0) (l ms : List Moment) (o : One P l) (octets : List ℕ) → o.m.what ≡ Takes octets → has_lost (l ++ ms) ≡ has_lost ms
took_one P l ms o octets is = one_lost P l ms o ∙ ap (λ d. is_loss d || has_lost ms) is

or_loses_stays : (loss : Loss) (l ms : List Moment) → OrLoses loss l → loss ≡ Stays → has_lost (l ++ ms) ≡ has_lost ms
or_loses_stays Stays l ms h s = nothing_lost l ms h
or_loses_stays Ended l ms h s = absurd (cc)
or_loses_stays Told l ms h s = absurd (cc)

or_loses_lost : (loss : Loss) (l ms : List Moment) → OrLoses loss l → (loss ≡ Stays → ⊥) → has_lost (l ++ ms) ≡ true
or_loses_lost Stays l ms h n = absurd (n refl)
or_loses_lost Ended l ms h n = lost_one (λ (m : Moment). m.what ≡ Loses) l ms h h.is
or_loses_lost Told l ms h n = lost_one (λ (m : Moment). m.what ≡ Loses) l ms h h.is

does_stays : (what : What) (loss : Loss) (then : ℕ) (l ms : List Moment) → DoesSo what loss then l → loss ≡ Stays → has_lost (l ++ ms) ≡ has_lost ms
does_stays came.Quiet loss then l ms h s = or_loses_stays loss l ms h s
does_stays came.Dropped loss then l ms (inl h) s = or_loses_stays loss l ms h s
does_stays came.Dropped loss then l ms (inr h) s = took_one TakesUnread l ms h.0 h.0.is.octets h.0.is.takes
does_stays came.Tunnel loss then l ms h s = or_loses_stays loss l ms h s
does_stays (came.Up tunnel) loss then l ms h s = or_loses_stays loss l ms h.0 s
does_stays (came.Frame frame) loss then l ms h s = took_one (TakesAt frame then) l ms h.0 h.0.is.octets h.0.is.takes

does_lost : (what : What) (loss : Loss) (then : ℕ) (l ms : List Moment) → DoesSo what loss then l → (loss ≡ Stays → ⊥) → has_lost (l ++ ms) ≡ true
does_lost came.Quiet loss then l ms h n = or_loses_lost loss l ms h n
does_lost came.Dropped loss then l ms (inl h) n = or_loses_lost loss l ms h n
does_lost came.Dropped loss then l ms (inr h) n = absurd (n h.1)
does_lost came.Tunnel loss then l ms h n = or_loses_lost loss l ms h n
does_lost (came.Up tunnel) loss then l ms h n = or_loses_lost loss l ms h.0 n
does_lost (came.Frame frame) loss then l ms h n = absurd (n h.1)

-- ---- how many datagrams came

one_more : (t : Bool) (m n k : ℕ) → k ≡ m + n → cond t (suc k) k ≡ cond t (suc m) m + n
one_more true m n k h = omega (arith, h)
one_more false m n k h = h

both_in : (a b : List Placed) → datagrams_in (a ++ b) ≡ datagrams_in a + datagrams_in b
both_in [] b = omega arith
both_in (p ∷ a) b = one_more (is_got p.what.what) (datagrams_in a) (datagrams_in b) (datagrams_in (a ++ b)) (both_in a b)

none_in : (l : List Placed) → NoGot l → datagrams_in l ≡ 0
none_in [] n = refl
none_in (p ∷ l) n = rw n.0 (none_in l n.1)

last_in : (what : What) (r : List Entry) (x : Entry) (n : ℕ) → GotSo what r x → n ≡ 0 → cond (is_got x.what) (suc n) n ≡ got_one what
last_in came.Quiet r x n h e = rw h e
last_in came.Dropped r x n h e = rw h.0.got (ap suc e)
last_in came.Tunnel r x n h e = rw h.0.got (ap suc e)
last_in (came.Up tunnel) r x n h e = rw h.0.got (ap suc e)
last_in (came.Frame frame) r x n h e = rw h.0.got (ap suc e)

poll_in : (polled : Came) (old added : List Placed) → Brings polled old added → datagrams_in added ≡ got_one polled.what
poll_in polled old added b =
    let sent : datagrams_in b.sent ≡ 0 = none_in b.sent (sends_no_got b.sent b.sends) in
    let waits : datagrams_in b.waits ≡ 0 = none_in b.waits (quiet_no_got b.waits b.quiet) in
    let all : datagrams_in added ≡ datagrams_in (b.sent ++ (b.last ∷ b.waits)) = ap datagrams_in b.parts in
    let parts : datagrams_in (b.sent ++ (b.last ∷ b.waits)) ≡ datagrams_in b.sent + datagrams_in (b.last ∷ b.waits) = both_in b.sent (b.last ∷ b.waits) in
    let one : datagrams_in (b.last ∷ b.waits) ≡ got_one polled.what = last_in polled.what _ b.last.what (datagrams_in b.waits) b.got waits in
    omega (arith, sent, all, parts, one)

few_one : (what : What) → got_one what ≤ 1
few_one came.Quiet = omega arith
few_one came.Dropped = omega arith
few_one came.Tunnel = omega arith
few_one (came.Up tunnel) = omega arith
few_one (came.Frame frame) = omega arith

-- ---- what is due: nothing is got, and no time passes

timeless_time : (added old : List Placed) → Each TakesNoTime old added → newest_time (entries (added ++ old)) ≡ newest_time (entries old)
timeless_time [] old t = refl
timeless_time (p ∷ added) old t = t.0.still ∙ timeless_time added old t.1

pub acts_left : (acted : Bool) (left : ℕ) (talk : List Placed) (s t : Story) → GoesOn s t → Growing (Acts (Ok acted)) s t → Growing (Each TakesNoTime) s t → WhereClock (LeavesSince left talk) s → WhereClock (LeavesSince left talk) t
acts_left acted left talk s t g h time l new p =
    let x = step_of (Acts (Ok acted)) s t new g h p in
    let was = l x.old x.told in
    let still : newest_time (entries new) ≡ newest_time (entries x.old) = ap (λ z. newest_time (entries z)) x.grow ∙ timeless_time x.added x.old (also (Acts (Ok acted)) (Each TakesNoTime) s t new x time p) in
    let c = was.count in
    let b = both_in x.added was.added in
    let n : datagrams_in x.added ≡ 0 = none_in x.added (sends_no_got x.added x.is.1.only_sends) in
    record {
      added = x.added ++ was.added;
      all = x.grow ∙ ap (λ z. x.added ++ z) was.all ∙ sym (append_assoc x.added was.added talk);
      kept = ap has_lost x.moments_grow ∙ nothing_lost (moments_on x.old x.added) (moments x.old) x.is.0 ∙ was.kept;
      in_time = λ exact. let le = was.in_time (sym x.clock ∙ exact) in omega (arith, still, le);
      count = omega (arith, c, b, n);
    }

pub acts_time : (acted : Bool) (now : ℕ) (s t : Story) → GoesOn s t → Growing (Acts (Ok acted)) s t → Growing (Each TakesNoTime) s t → WhereTold (λ places. now ≡ newest_time (entries places)) s → WhereTold (λ places. now ≡ newest_time (entries places)) t
acts_time acted now s t g h time l new p =
    let x = step_of (Each TakesNoTime) s t new g time p in
    l x.old x.told ∙ sym (ap (λ z. newest_time (entries z)) x.grow ∙ timeless_time x.added x.old x.is)

-- ---- a poll

pub poll_left : (polled : Came) (longest left now : ℕ) (talk : List Placed) (s t : Story) → GoesOn s t → Growing (PollAdds (Ok polled)) s t → Growing (PollsWithin (clock_of s) longest) s t → WhereTold (λ places. now ≡ newest_time (entries places)) s → now + longest ≤ newest_time (entries talk) + answer_wait → 1 ≤ left
    → WhereClock (LeavesSince left talk) s → WhereClock (LeftOn polled left talk) t
poll_left polled longest left now talk s t g h within time until some l new p =
    let x = step_of (PollAdds (Ok polled)) s t new g h p in
    let was = l x.old x.told in
    let w = also (PollAdds (Ok polled)) (PollsWithin (clock_of s) longest) s t new x within p in
    let at : now ≡ newest_time (entries x.old) = time x.old x.told in
    let bound : ℕ = newest_time (entries x.old) + min longest longest_poll in
    let le : clock_of t ≡ Exact → newest_time (entries new) ≤ bound = λ exact. subst (λ z. newest_time (entries z) ≤ bound) (sym x.grow) (newest_within bound x.added x.old (omega arith) (w.in_time (sym x.clock ∙ exact))) in
    let c = was.count in
    let b = both_in x.added was.added in
    let n : datagrams_in x.added ≡ got_one polled.what = poll_in polled x.old x.added x.is in
    let f : got_one polled.what ≤ 1 = few_one polled.what in
    let all : new ≡ (x.added ++ was.added) ++ talk = x.grow ∙ ap (λ z. x.added ++ z) was.all ∙ sym (append_assoc x.added was.added talk) in
    let in_time : clock_of t ≡ Exact → newest_time (entries new) ≤ newest_time (entries talk) + answer_wait = λ exact. let most = le exact in omega (arith, most, at, until) in (
      (λ stays. record {
        added = x.added ++ was.added;
        all = all;
        kept = ap has_lost x.moments_grow ∙ does_stays polled.what polled.loss _ (moments_on x.old x.added) (moments x.old) x.is.does stays ∙ was.kept;
        in_time = in_time;
        count = omega (arith, c, b, n, f, some);
      }),
      (λ lost. record {
        added = x.added ++ was.added;
        all = all;
        awaits = record {
          over = inl (ap (λ z. has_lost (moments z)) (sym all) ∙ (ap has_lost x.moments_grow ∙ does_lost polled.what polled.loss _ (moments_on x.old x.added) (moments x.old) x.is.does lost));
          in_time = λ exact. subst (λ z. newest_time (entries z) ≤ newest_time (entries talk) + answer_wait) all (in_time exact);
          few = omega (arith, c, b, n, f, some);
          last = x.added;
          older = was.added;
          parts = refl;
          kept = subst (λ z. has_lost (moments z) ≡ false) was.all was.kept;
          short = λ exact.
              let most = le exact in
              subst (λ z. newest_time (entries z) ≤ newest_time (entries (was.added ++ talk)) + longest_poll) all (subst (λ z. newest_time (entries new) ≤ newest_time (entries z) + longest_poll) was.all (omega (arith, most)));
        };
      }),
    )

-- ---- enough was waited

pub waited : (left began now : ℕ) (talk : List Placed) (s : Story) → WhereTold (λ places. now ≡ newest_time (entries places)) s → newest_time (entries talk) ≡ began → (left ≡ 0) ⊎ (10000 ≤ now - began) → WhereClock (LeavesSince left talk) s → WhereClock (HasAwaited talk) s
waited left began now talk s time is enough l places p =
    let was = l places p in
    let at : now ≡ newest_time (entries places) = time places p in
    let c = was.count in
    let same : newest_time (entries places) ≡ newest_time (entries (was.added ++ talk)) = ap (λ z. newest_time (entries z)) was.all in
    record {
      added = was.added;
      all = was.all;
      awaits = record {
        over = inr (elim enough [ inl none ↦ inr (omega (arith, c, none)) | inr passed ↦ inl (omega (arith, at, is, same, passed)) ]);
        in_time = λ exact. let le = was.in_time exact in omega (arith, le, same);
        few = omega (arith, c);
        last = [];
        older = was.added;
        parts = refl;
        kept = subst (λ z. has_lost (moments z) ≡ false) was.all was.kept;
        short = λ exact. omega arith;
      };
    }

-- ---- the request

once_no_got : (old added : List Placed) → SendsOnce old added → Each TakesNoTime old added → datagrams_in added ≡ 0
once_no_got old _ Nothing t = refl
once_no_got old _ (Once p still seeks) t = none_in (p ∷ []) (by_item p.what.what t.0.polls_not, tt) where
  by_item : (what : Item) → is_poll what ≡ false → is_got what ≡ false
  by_item (Put octets) h = refl
  by_item Renewed h = refl
  by_item (Got octets) h = absurd (cc)
  by_item Quiet h = refl

pub request_left : (call : Result Bool HubFault) (talk : List Placed) (s t : Story) → GoesOn s t → Growing (Leaves call) s t → Growing SendsOnce s t → Growing (Each TakesNoTime) s t → places_in s ≡ Some talk → WhereTold (λ places. has_lost (moments places) ≡ false) s → WhereClock (LeavesSince 64 talk) t
request_left call talk s t g h once time told kept new p =
    let x = step_of (Leaves call) s t new g h p in
    let same : x.old ≡ talk = some_is x.old talk (sym x.told ∙ told) in
    let still = timeless_time x.added x.old (also (Leaves call) (Each TakesNoTime) s t new x time p) in
    let now : newest_time (entries new) ≡ newest_time (entries talk) = ap (λ z. newest_time (entries z)) x.grow ∙ still ∙ ap (λ z. newest_time (entries z)) same in
    let none : datagrams_in x.added ≡ 0 = once_no_got x.old x.added (also (Leaves call) SendsOnce s t new x once p) (also (Leaves call) (Each TakesNoTime) s t new x time p) in
    record {
      added = x.added;
      all = x.grow ∙ ap (λ z. x.added ++ z) same;
      kept = ap has_lost x.moments_grow ∙ nothing_lost (moments_on x.old x.added) (moments x.old) x.is.nothing ∙ kept x.old x.told;
      in_time = λ exact. omega (arith, now);
      count = omega (arith, none);
    }

-- ---- the pace

pub alone_kept : (s t : Story) → GoesOn s t → Growing (Each TakesNoTime) s t → Growing (Each LeavesAlone) s t → GoingExact PaceKept s t
alone_kept s t g time alone new p exact =
    let x = step_of (Each TakesNoTime) s t new g time p in
    record { old = x.old; told = x.told; clock = x.clock; is = λ k. subst (λ z. KeepsPaces (entries z)) (sym x.grow) (alone_paces x.added x.old x.is (also (Each TakesNoTime) (Each LeavesAlone) s t new x alone p) k) }

pub poll_kept : (longest : ℕ) (s t : Story) → GoesOn s t → Growing (PollsWithin (clock_of s) longest) s t → Growing (Each BeatsInTime) s t → Growing (Each LeavesAlone) s t → GoingExact PaceKept s t
poll_kept longest s t g within beats alone new p exact =
    let x = step_of (PollsWithin (clock_of s) longest) s t new g within p in
    record { old = x.old; told = x.told; clock = x.clock; is = λ k. subst (λ z. KeepsPaces (entries z)) (sym x.grow) (poll_paces x.added x.old (x.is.short (sym x.clock ∙ exact)) (also (PollsWithin (clock_of s) longest) (Each BeatsInTime) s t new x beats p) (also (PollsWithin (clock_of s) longest) (Each LeavesAlone) s t new x alone p) k) }

once_paces : (old added : List Placed) → SendsOnce old added → Each TakesNoTime old added → StaysOpen (entries old) → KeepsPaces (entries old) → KeepsPaces (entries (added ++ old))
once_paces old _ Nothing t s k = k
once_paces old _ (Once p still seeks) t s k = (
  record {
    short = omega (arith, still);
    beats = λ poll. absurd (not_both (is_poll p.what.what) poll t.0.polls_not);
    ends_once = λ asks opened. s;
    seeks = λ renews. absurd (not_both (is_renewal p.what.what) renews seeks.renews_not);
  },
  k,
)

pub leave_kept : (s t : Story) → GoesOn s t → Growing SendsOnce s t → Growing (Each TakesNoTime) s t → WhereTold (λ places. StaysOpen (entries places)) s → GoingExact PaceKept s t
leave_kept s t g once time stays new p exact =
    let x = step_of SendsOnce s t new g once p in
    record { old = x.old; told = x.told; clock = x.clock; is = λ k. subst (λ z. KeepsPaces (entries z)) (sym x.grow) (once_paces x.old x.added x.is (also SendsOnce (Each TakesNoTime) s t new x time p) (stays x.old x.told) k) }

pub paces_then : (s t u : Story) → GoingExact PaceKept s t → GoingExact PaceKept t u → GoingExact PaceKept s u
paces_then s t u a b new p exact =
    let y = b new p exact in
    let x = a y.old y.told (sym y.clock ∙ exact) in
    record { old = x.old; told = x.told; clock = y.clock ∙ x.clock; is = λ k. y.is (x.is k) }

pub paces_same : (s : Story) → GoingExact PaceKept s s
paces_same s new p exact = record { old = new; told = p; clock = refl; is = λ k. k }

-- ---- which faults come

of_tunnel_late : (fault : HubFault) → IsOfTunnel fault → fault_of fault ≢ fails.LinkFailed → ComesLate (fault_of fault)
of_tunnel_late (hub.NoMemory want) h n = tt
of_tunnel_late hub.LinkFailed h n = absurd (n refl)
of_tunnel_late (hub.GatewayRefused three) h n = tt
of_tunnel_late hub.Flooded h n = absurd h
of_tunnel_late (hub.WrongLine device tunnel) h n = absurd h

same_err : {X : Type 0} (why other : AssignFault) → (let one : Result X AssignFault = Err why in one) ≡ Err other → other ≡ why
same_err why other e = cc

pub told_late : {X : Type 0} (call : Result X HubFault) (why : AssignFault) → ToldAs call (Err why) → IfErr call IsOfTunnel → why ≢ fails.LinkFailed → ComesLate why
told_late (Ok x) why told of n = absurd (cc)
told_late {X = X} (Err fault) why told of n =
    let same : fault_of fault ≡ why = same_err {X = X} why (fault_of fault) told in
    subst ComesLate same (of_tunnel_late fault of (λ e. n (sym same ∙ e)))

pub told_lates : {X : Type 0} (call : Result X HubFault) (result : Result X AssignFault) → ToldAs call result → IfErr call IsOfTunnel → IfErr result (λ why. why ≢ fails.LinkFailed → ComesLate why)
told_lates call (Ok x) told of = tt
told_lates call (Err why) told of = told_late call why told of

pub told_causes : {X : Type 0} (result : Result X AssignFault) (t : Story) → WhereTold (CausedBy result) t → IfErr result (λ why. WhereTold (FailsSo why) t)
told_causes (Ok x) t h = tt
told_causes (Err why) t h = h

-- ---- a poll, by what was told of it

pub told_left : (call : Result Came HubFault) (result : Result Came AssignFault) → ToldAs call result → (acted : Bool) (longest : ℕ) (s t u : Story) → GoesOn s t → Growing (Acts (Ok acted)) s t → Growing (Each TakesNoTime) s t → GoesOn t u → Growing (PollAdds call) t u → Growing (PollsWithin (clock_of t) longest) t u
    → IfOk result (λ polled. (left : ℕ) (talk : List Placed) (now : ℕ) → WhereTold (λ places. now ≡ newest_time (entries places)) s → now + longest ≤ newest_time (entries talk) + answer_wait → 1 ≤ left → WhereClock (LeavesSince left talk) s → WhereClock (LeftOn polled left talk) u)
told_left (Ok polled) (Err why) told acted longest s t u g h time k adds within = tt
told_left (Err fault) (Err why) told acted longest s t u g h time k adds within = tt
told_left (Err fault) (Ok polled) told acted longest s t u g h time k adds within = absurd (cc)
told_left (Ok polled) (Ok same) told acted longest s t u g h time k adds within = λ left talk now at until some l.
    let is : polled ≡ same = cc in
    subst (λ z. WhereClock (LeftOn z left talk) u) is (poll_left polled longest left now talk t u k adds within (acts_time acted now s t g h time at) until some (acts_left acted left talk s t g h time l))

-- ---- all of it

pub awaits_after : (s u : Story) (talk : List Placed) → places_in s ≡ Some talk → WhereClock (HasAwaited talk) u → (new : List Placed) → places_in u ≡ Some new → Step EndsOnce s u new → ComesFrom (LeavesOn (clock_of u)) s u new
awaits_after s u talk told awaited new p x =
    let same : x.old ≡ talk = some_is x.old talk (sym x.told ∙ told) in
    let h = awaited new p in
    let added : h.added ≡ x.added = append_cancel_right h.added x.added talk (sym h.all ∙ (x.grow ∙ ap (λ z. x.added ++ z) same)) in
    record {
      old = x.old;
      told = x.told;
      clock = x.clock;
      is = record { added = x.added; all = x.grow; ends = x.is; awaits = subst (λ z. AwaitsResponse (clock_of u) z x.added) (sym same) (subst (AwaitsResponse (clock_of u) talk) added h.awaits) };
    }
