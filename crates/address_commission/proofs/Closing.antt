-- The end of the channel: no request is put.
use Rattle.std.proofs.lemmas.List.{append_cancel_right}
use Rattle.std.proofs.Common.{◌≡◌, ◌⊎◌, ℕ, inl, inr, List, [], ◌∷◌, ◌++◌, Bool, true, false, ◌||◌, Some, Result, Ok, Err, refl, sym, ◌∙◌, ap, subst, append_assoc}
use Rattle.knx_model.specs.declared.address.IndAddr.{IndAddr}
use Rattle.line_model.specs.declared.fault.HubFault.{HubFault}
use Rattle.line_model.specs.Reading.{ldata_in}
use Rattle.line_model.specs.declared.outside.fault_counts.FaultCounts.{FaultCounts}
use Rattle.line_model.specs.Asks.{HasPlace}
use Rattle.line_model.specs.Closing.{asks_to_end, is_open}
use Rattle.line_model.specs.Haste.{KeepsPaces}
use Rattle.line_model.specs.Record.{Placed, entries}
use Rattle.line_model.specs.LinkStory.{Story, newest_time, places_in}
use Rattle.line_model.specs.ClientView.{ClientChannel, Fresh, Sought, RefusedBy, Unanswered, Open, Lost, Deed, Puts, Takes, Loses, Nothing as DoesNothing, channel}
use Rattle.line_model.specs.Moments.{Moment, moments}
use Rattle.line_model.specs.Polled.{one_failed}
use Rattle.line_model.specs.Signs.{Every}
use Rattle.tunnel_link.specs.declared.came.Came.{Came}
use Rattle.tunnel_link.specs.declared.came.Loss.{Loss}
use Rattle.tunnel_link.specs.declared.came.Loss.TheVariants.{Stays, Ended, Told}
use Rattle.tunnel_link.specs.declared.came.What.{What}
use Rattle.tunnel_link.specs.declared.came.What.TheVariants as came
use Rattle.tunnel_link.specs.Adds.{Growing, Acts, Leaves, PollAdds, PutsNone, One, OrLoses, DoesSo, AtMostOne, asks_end, moments_on}
use Rattle.tunnel_link.specs.Alone.{Each, EndsNone, Nothing, Once, SendsOnce}
use Rattle.tunnel_link.specs.Goes.{GoesOn}
use Rattle.tunnel_link.specs.Paces.{TakesNoTime}
use Rattle.tunnel_link.specs.Rights.{WhereTold}
use Rattle.tunnel_link.proofs.Acting.{grows_then}
use Rattle.tunnel_link.proofs.Stories.{goes_again}
use Rattle.address_talk.specs.declared.assigned.Assigned.{Assigned}
use Rattle.address_talk.specs.declared.assigned.AssignFault.{AssignFault}
use Rattle.address_talk.specs.Rounds.{Round, after_deed, rounds, has_lost, GoOn, SameRounds}
use Rattle.address_talk.specs.Talk.{TalksRightly}
use Rattle.address_commission.specs.Going.{Going, GoingExact}
use Rattle.address_talk.specs.Ends.{Answered, AnsweredBy, ComesLate, EndsOnce, EndsSo, FailsSo, Leaves as LeavesAnswered}
use Rattle.address_commission.specs.Calls.{ClosesSo, HasAwaited, LeavesSince, PaceKept, LeavesTo}
use Rattle.address_commission.specs.Counted.{CountsEnd}
use Rattle.std.specs.Prelude.{OnOk}
use Rattle.address_commission.proofs.Leaving.{awaits_after, request_left}
use Rattle.address_commission.proofs.Calls.{before}
use Rattle.address_commission.proofs.Folds.{nothing_rounds, one_rounds, NotPuts, PutsNo, nothing_puts, one_puts, not_puts, talks_on}
use Rattle.address_commission.proofs.Heard.{go_same, go_on, go_frame}
use Rattle.address_commission.proofs.Steps.{Step, step_of, told_before, some_is}
use Rattle.address_commission.specs.Exact.{WhereClock}

go_deed : (d : Deed) (rs : List Round) → NotPuts d → GoOn rs (after_deed d rs)
go_deed (Puts cemi) rs h = absurd h
go_deed (Takes cemi) rs h = go_frame (ldata_in cemi) rs
go_deed Loses rs h = go_same rs
go_deed DoesNothing rs h = go_same rs

one_map : {P Q : Moment → Type 0} {l : List Moment} → ((m : Moment) → P m → Q m) → One P l → One Q l
one_map f o = record { newer = o.newer; m = o.m; older = o.older; all = o.all; is = f o.m o.is; newer_nothing = o.newer_nothing; older_nothing = o.older_nothing }

or_loses : (loss : Loss) (l : List Moment) → OrLoses loss l → AtMostOne l
or_loses Stays l h = inl h
or_loses Ended l h = inr (one_map (λ m e octets q. let z : Loses ≡ Puts octets = sym e ∙ q in cc) h)
or_loses Told l h = inr (one_map (λ m e octets q. let z : Loses ≡ Puts octets = sym e ∙ q in cc) h)

pub at_most_one : (what : What) (loss : Loss) (then : ℕ) (l : List Moment) → DoesSo what loss then l → AtMostOne l
at_most_one came.Quiet loss then l h = or_loses loss l h
at_most_one came.Dropped loss then l (inl h) = or_loses loss l h
at_most_one came.Dropped loss then l (inr h) = inr (one_map (λ m t octets q. let z : Takes t.octets ≡ Puts octets = sym t.takes ∙ q in cc) h.0)
at_most_one came.Tunnel loss then l h = or_loses loss l h
at_most_one (came.Up tunnel) loss then l h = or_loses loss l h.0
at_most_one (came.Frame frame) loss then l h = inr (one_map (λ m t octets q. let z : Takes t.octets ≡ Puts octets = sym t.takes ∙ q in cc) h.0)

few_go : (l ms : List Moment) → AtMostOne l → GoOn (rounds ms) (rounds (l ++ ms))
few_go l ms (inl n) = subst (GoOn (rounds ms)) (sym (nothing_rounds l ms n)) (go_same (rounds ms))
few_go l ms (inr o) = subst (GoOn (rounds ms)) (sym (one_rounds PutsNone l ms o)) (go_deed o.m.what (rounds ms) (not_puts o.m.what o.is))

pub few_put : (l : List Moment) → AtMostOne l → Every PutsNo l
few_put l (inl n) = nothing_puts l n
few_put l (inr o) = one_puts PutsNone l o (not_puts o.m.what o.is)

-- of a call that adds at most one moment, which puts nothing
pub few_close : (P : List Placed → List Placed → Type 0) → ((old added : List Placed) → P old added → AtMostOne (moments_on old added)) → (wanted : IndAddr) (s t : Story) → GoesOn s t → Growing P s t → Going (ClosesSo wanted) s t
few_close P few wanted s t g h new p =
    let x = step_of P s t new g h p in
    let one = few x.old x.added x.is in
    record {
      old = x.old;
      told = x.told;
      clock = x.clock;
      is = record {
        goes_on = record { added = x.added; all = x.grow; rounds_go_on = subst (λ (z : List Moment). GoOn (rounds (moments x.old)) (rounds z)) (sym x.moments_grow) (few_go (moments_on x.old x.added) (moments x.old) one) };
        rightly = λ talks. subst (TalksRightly wanted) (sym x.grow) (talks_on wanted x.old x.added (few_put (moments_on x.old x.added) one) talks);
      };
    }

leave_few : (result : Result Bool HubFault) (old added : List Placed) → Leaves result old added → AtMostOne (moments_on old added)
leave_few result old added h = inl h.nothing

act_few : (result : Result Bool HubFault) (old added : List Placed) → Acts result old added → AtMostOne (moments_on old added)
act_few (Ok acted) old added h = inl h.0
act_few (Err fault) old added h = inl h

pub poll_few : (result : Result Came HubFault) (old added : List Placed) → PollAdds result old added → AtMostOne (moments_on old added)
poll_few (Ok came) old added h = at_most_one came.what came.loss _ (moments_on old added) h.does
poll_few (Err fault) old added h = h.at_most_one

pub leave_closes : (result : Result Bool HubFault) (wanted : IndAddr) (s t : Story) → GoesOn s t → Growing (Leaves result) s t → Going (ClosesSo wanted) s t
leave_closes result wanted s t g h = few_close (Leaves result) (leave_few result) wanted s t g h

pub act_closes : (result : Result Bool HubFault) (wanted : IndAddr) (s t : Story) → GoesOn s t → Growing (Acts result) s t → Going (ClosesSo wanted) s t
act_closes result wanted s t g h = few_close (Acts result) (act_few result) wanted s t g h

pub poll_closes : (result : Result Came HubFault) (wanted : IndAddr) (s t : Story) → GoesOn s t → Growing (PollAdds result) s t → Going (ClosesSo wanted) s t
poll_closes result wanted s t g h = few_close (PollAdds result) (poll_few result) wanted s t g h

-- as the rounds go on
pub goes_same_rounds : (s t : Story) → ((wanted : IndAddr) → Going (ClosesSo wanted) s t) → Going SameRounds s t
goes_same_rounds s t h new p = let x = h (record { raw = 0 }) new p in record { old = x.old; told = x.told; clock = x.clock; is = x.is.goes_on.rounds_go_on }

-- ---- one call after another

pub closes_same : (wanted : IndAddr) (s : Story) → Going (ClosesSo wanted) s s
closes_same wanted s new p = record { old = new; told = p; clock = refl; is = record { goes_on = record { added = []; all = refl; rounds_go_on = go_same (rounds (moments new)) }; rightly = λ talks. talks } }

pub closes_on : (wanted : IndAddr) (s t u : Story) → Going (ClosesSo wanted) s t → Going (ClosesSo wanted) t u → Going (ClosesSo wanted) s u
closes_on wanted s t u a b new p =
    let y = b new p in
    let x = a y.old y.told in
    record {
      old = x.old;
      told = x.told;
      clock = y.clock ∙ x.clock;
      is = record {
        goes_on = record {
          added = y.is.goes_on.added ++ x.is.goes_on.added;
          all = y.is.goes_on.all ∙ ap (λ (z : List Placed). y.is.goes_on.added ++ z) x.is.goes_on.all ∙ sym (append_assoc y.is.goes_on.added x.is.goes_on.added x.old);
          rounds_go_on = go_on (rounds (moments x.old)) (rounds (moments y.old)) (rounds (moments new)) x.is.goes_on.rounds_go_on y.is.goes_on.rounds_go_on;
        };
        rightly = λ talks. y.is.rightly (x.is.rightly talks);
      };
    }

-- ---- the channel is asked to end once

or_false : (b : Bool) → (b || false) ≡ true → b ≡ true
or_false true e = e
or_false false e = e

-- the one entry that was added, where it asks to end the channel
pub record Request (old added : List Placed) : Type 0 where
  pub request : Placed
  pub parts : added ≡ request ∷ []
  pub asks : asks_to_end request.what ≡ true

request_by : (old added : List Placed) → SendsOnce old added → asks_end added ≡ true → Request old added
request_by old _ Nothing asks = absurd (let e : false ≡ true = asks in cc)
request_by old _ (Once p still seeks) asks = record { request = p; parts = refl; asks = or_false (asks_to_end p.what) asks }

open_place : (ch : ClientChannel) → HasPlace ch → is_open ch ≡ true
open_place Fresh h = absurd h
open_place (Sought since) h = absurd h
open_place (RefusedBy status) h = absurd h
open_place Unanswered h = absurd h
open_place (Open c l) h = refl
open_place (Lost c) h = absurd h

-- where it asks, it was asked for by one entry
pub asked_by : (s t : Story) → Growing (Leaves (Ok true)) s t → Growing SendsOnce s t → Growing Request s t
asked_by s t g h old p =
    let x = g old p in
    let y = h old p in
    let new : x.new ≡ y.new = some_is x.new y.new (sym x.told ∙ y.told) in
    let same : y.added ≡ x.added = append_cancel_right y.added x.added old (sym y.grown.grow ∙ sym new ∙ x.grown.grow) in
    record { new = x.new; told = x.told; added = x.added; grown = x.grown; is = request_by old x.added (subst (SendsOnce old) same y.is) (x.is.so.1) }

-- it doesn't ask only where no channel is open
pub must_ask : (s t : Story) → Growing (Leaves (Ok false)) s t → WhereTold (λ places. HasPlace (channel (entries places))) s → (old : List Placed) → places_in s ≡ Some old → ⊥
must_ask s t g place old p = let x = g old p in absurd (let e : false ≡ true = x.is.so.0 ∙ open_place (channel (entries old)) (place old p) in cc)

later_ends : (old one two : List Placed) → Request old one → Each EndsNone (one ++ old) two → EndsOnce old (two ++ one)
later_ends old one two r none = record {
  later = two;
  request = r.request;
  parts = ap (λ (z : List Placed). two ++ z) r.parts;
  asks = r.asks;
  once = subst (λ (z : List Placed). Each EndsNone (z ++ old) two) r.parts none;
}

ends_after : (s t u : Story) → GoesOn s t → GoesOn t u → Growing (Leaves (Ok true)) s t → Growing SendsOnce s t → Growing (Each EndsNone) t u → Growing EndsOnce s u
ends_after s t u g h leaves once none = grows_then Request (Each EndsNone) EndsOnce s t u g h later_ends (asked_by s t leaves once) none

ends_by : (asked : Bool) (s t u : Story) → GoesOn s t → GoesOn t u → Growing (Leaves (Ok asked)) s t → Growing SendsOnce s t → Growing (Each EndsNone) t u → WhereTold (λ places. HasPlace (channel (entries places))) s → (new : List Placed) → places_in u ≡ Some new → Step EndsOnce s u new
ends_by true s t u g h leaves once none place new p = step_of EndsOnce s u new (goes_again s t u g h) (ends_after s t u g h leaves once none) p
ends_by false s t u g h leaves once none place new p = let b = told_before s u new (goes_again s t u g h) p in absurd (must_ask s t leaves place b.0 b.1)

module _ (call : Result Bool HubFault) (began : ℕ) (s t u : Story) (g : GoesOn s t) (h : GoesOn t u) (leaves : Growing (Leaves call) s t) (once : Growing SendsOnce s t) (time : Growing (Each TakesNoTime) s t) (none : Growing (Each EndsNone) t u)
    (place : WhereTold (λ places. HasPlace (channel (entries places))) s) (kept : WhereTold (λ places. has_lost (moments places) ≡ false) s) (now : WhereTold (λ places. began ≡ newest_time (entries places)) s) where
  leaves_on : (asked : Bool) → call ≡ Ok asked → ((talk : List Placed) → newest_time (entries talk) ≡ began → WhereClock (LeavesSince 64 talk) t → WhereClock (HasAwaited talk) u) → LeavesTo s u
  leaves_on asked is awaited new p =
      let b = told_before s u new (goes_again s t u g h) p in
      awaits_after s u b.0 b.1 (awaited b.0 (sym (now b.0 b.1)) (request_left call b.0 s t g leaves once time b.1 kept)) new p (ends_by asked s t u g h (subst (λ (r : Result Bool HubFault). Growing (Leaves r) s t) is leaves) once none place new p)

  pub leaves_so : {X : Type 0} (asked : Bool) → call ≡ Ok asked → (result : Result X AssignFault) → OnOk result ((talk : List Placed) → newest_time (entries talk) ≡ began → WhereClock (LeavesSince 64 talk) t → WhereClock (HasAwaited talk) u) → OnOk result (LeavesTo s u)
  leaves_so asked is (Ok x) awaited = leaves_on asked is awaited
  leaves_so asked is (Err why) awaited = tt

-- ---- after an answer

pub answered_at : (wanted : IndAddr) (assigned : Assigned) (s t : Story) → WhereClock (AnsweredBy wanted assigned) s → Going (ClosesSo wanted) s t → GoingExact PaceKept s t → WhereClock (Answered wanted assigned) t
answered_at wanted assigned s t a c k new p =
    let x = c new p in
    let by = before (AnsweredBy wanted assigned) s t x.old x.clock a x.told in
    record {
      talk = x.old;
      answered = by;
      closes = x.is.goes_on;
      rightly = x.is.rightly by.stands.rightly;
      keeps = λ exact.
          let y = k new p exact in
          let same : y.old ≡ x.old = some_is y.old x.old (sym y.told ∙ x.told) in
          y.is (subst (λ (z : List Placed). KeepsPaces (entries z)) (sym same) (by.stands.paced exact).keeps);
    }

pub closing_fails : (wanted : IndAddr) (assigned : Assigned) (why : AssignFault) (s t : Story) → WhereClock (AnsweredBy wanted assigned) s → Going (ClosesSo wanted) s t → GoingExact PaceKept s t → WhereTold (FailsSo why) t → ComesLate why → WhereClock (EndsSo wanted (Err why)) t
closing_fails wanted assigned why s t a c k f late new p = inr (record { cause = f new p; late = late; assigned = assigned; answered = answered_at wanted assigned s t a c k new p })

pub left_so : (wanted : IndAddr) (assigned : Assigned) (s t : Story) → WhereClock (AnsweredBy wanted assigned) s → LeavesTo s t → WhereClock (LeavesAnswered wanted assigned) t
left_so wanted assigned s t a l new p = let x = l new p in record { talk = x.old; answered = before (AnsweredBy wanted assigned) s t x.old x.clock a x.told; leaves = x.is }

-- what the counts tell, where the talk before left them: the channel was left with the counts as they were, or one call of the link failed in that
pub counts_end : (wanted : IndAddr) (assigned : Assigned) (old mid new : FaultCounts) (s t : Story) → mid ≡ old → WhereClock (AnsweredBy wanted assigned) s → ((new ≡ mid) × LeavesTo s t) ⊎ (new ≡ one_failed mid)
    → CountsEnd wanted (Ok assigned) old new t
counts_end wanted assigned old mid new s t same answered (inl left) = inl (left.0 ∙ same, left_so wanted assigned s t answered left.1)
counts_end wanted assigned old mid new s t same answered (inr failed) = inr (failed ∙ ap one_failed same)
