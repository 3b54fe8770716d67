-- A hub with one caller leaves its channel rightly: while something is left no call asks the open channel to end, and each step of the closing goes on
-- from the last entry of the log.
use Rattle.std.proofs.Common.{◌≡◌, ◌≢◌, ◌⊎◌, inl, inr, ℕ, ◌<◌, ◌≤◌, Bool, true, false, List, [], ◌∷◌, ◌++◌, map, Option, Some, None, Result, Ok, Err, IfOk, OnErr, refl, sym, ap, subst, ◌∙◌, arith}
use Rattle.std.proofs.lemmas.Bool.Decides.{nat_tests}
use Rattle.std.proofs.lemmas.List.{append-nil, append_assoc, append_cancel_right}
use Rattle.std.specs.Prelude.{nat_lt, nat_le, is_some}
use Rattle.std.specs.List.{AllByRecursion}
use Rattle.knx_model.specs.declared.address.IndAddr.{IndAddr}
use Rattle.knx_model.specs.Plans as plans
use Rattle.line_model.specs.declared.fault.HubFault.{HubFault}
use Rattle.line_model.specs.declared.group.GroupTurn.{GroupTurn}
use Rattle.line_model.specs.declared.log.LogEntry.{LogEntry}
use Rattle.line_model.specs.Record.{Entry, Placed, entries, placed, counted}
use Rattle.line_model.specs.LinkStory.{Story, Untold, Recorded, Full, places_in, newest_time, IsPlace}
use Rattle.line_model.specs.Log.{Job, latest}
use Rattle.line_model.specs.Closing as line
use Rattle.line_model.specs.Leaves.{StaysOpen, IsFinished, up_to_last, since_last, Closes, LeavesRightly}
use Rattle.tunnel_link.specs.Adds.{place_of, Grows, Growing}
use Rattle.tunnel_link.specs.Alone.{Each, EndsNone, LeavesAlone}
use Rattle.tunnel_link.specs.Goes.{GoesOn}
use Rattle.tunnel_link.specs.Rights.{WhereTold}
use Rattle.tunnel_link.proofs.Growth.{entries_append}
use Rattle.hub_core.specs.declared.answers.GroupDid.{GroupDid}
use Rattle.hub_core.specs.declared.answers.GroupDid.TheVariants as did
use Rattle.hub_work.specs.declared.answers.Turned.{Turned}
use Rattle.hub_work.specs.declared.answers.Turned.TheVariants as turned
use Rattle.hub_work.specs.declared.closing.Closing.{Closing}
use Rattle.hub_work.specs.Books.{AreJobsOf}
use Rattle.hub_work.specs.Turns.{TurnTells}
use Rattle.hub_core.specs.Telegrams.{GroupTells}
use Rattle.hub_work.proofs.Growing.{AreUpto}
use Rattle.hub_core.specs.Closes as hub
use Rattle.hub_core.specs.Closes.{HasCome, resumed}
use Rattle.hub_core.specs.Leaving.{EachFrom, EachOn, ClosesOn, WaitsOn}
use Rattle.hub_core.specs.Pumps.{AddsSo}
use Rattle.hub_core.specs.Seen.{Seen}
use Rattle.hub_core.proofs.Closes.{resumed_both, closing_is}
use Rattle.hub_core.proofs.Counting.{some_is, told_before, place_counts, place_grows, places_upto}
use Rattle.hub_core.proofs.Leaving.{ends_none_of, since_from, from_since, from_then}
use Rattle.hub_core.proofs.Written.{Writes, Same, More, turn_writes, told_writes}
use Rattle.hub_core.specs.Closed.{WaitsSince}
use Rattle.hub_core.specs.Left.{AllDone, IsLeft}
use Rattle.hub_core.specs.Promises.{LeavesOver}
use Rattle.shared_hub.specs.Leaving.{GoesThrough, ClosesSo, IsAt, KnowsHowFar}

-- ---- the record up to the last entry of the log, and since then

none_since : (n : ℕ) (log : List LogEntry) (places : List Placed) → latest log ≡ n → AreUpto n places → since_last log places ≡ []
none_since n log [] is upto = refl
none_since n log (p ∷ places) is upto =
    let not : nat_lt (latest log) p.at ≡ false = (let f = upto.0 in grind (arith, nat_tests, f, is)) in
    rw not (none_since n log places is upto.1)

all_up : (log : List LogEntry) (places : List Placed) → since_last log places ≡ [] → up_to_last log places ≡ places
all_up log [] e = refl
all_up log (p ∷ places) e = by_test (nat_lt (latest log) p.at) refl (λ rest. all_up log places rest)
  where
    by_test : (b : Bool) → nat_lt (latest log) p.at ≡ b → (since_last log places ≡ [] → up_to_last log places ≡ places) → up_to_last log (p ∷ places) ≡ p ∷ places
    by_test true t more = absurd (let z : since_last log (p ∷ places) ≡ p ∷ since_last log places = rw t refl in let y : p ∷ since_last log places ≡ [] = sym z ∙ e in cc)
    by_test false t more =
        let le : nat_le p.at (latest log) ≡ true = grind (arith, nat_tests, t) in
        let rest : since_last log places ≡ [] = (let z : since_last log (p ∷ places) ≡ since_last log places = rw t refl in sym z ∙ e) in
        rw le (ap (λ (l : List Placed). p ∷ l) (more rest))

since_more : (log : List LogEntry) (added old : List Placed) → AllByRecursion (λ (p : Placed). latest log < p.at) added → since_last log (added ++ old) ≡ added ++ since_last log old
since_more log [] old above = refl
since_more log (p ∷ added) old above =
    let is : nat_lt (latest log) p.at ≡ true = (let f = above.0 in grind (arith, nat_tests, f)) in
    rw is (ap (λ (l : List Placed). p ∷ l) (since_more log added old above.1))

up_more : (log : List LogEntry) (added old : List Placed) → AllByRecursion (λ (p : Placed). latest log < p.at) added → up_to_last log (added ++ old) ≡ up_to_last log old
up_more log [] old above = refl
up_more log (p ∷ added) old above =
    let not : nat_le p.at (latest log) ≡ false = (let f = above.0 in grind (arith, nat_tests, f)) in
    rw not (up_more log added old above.1)

higher : (n m : ℕ) (added : List Placed) → n ≤ m → AllByRecursion (λ (p : Placed). m < p.at) added → AllByRecursion (λ (p : Placed). n < p.at) added
higher n m [] le h = tt
higher n m (p ∷ added) le h = ((let f = h.0 in omega (arith, le, f)), higher n m added le h.1)

-- ---- what holds after a call, by what it added

grown_told : (P : List Placed → List Placed → Type 0) (Q : List Placed → Type 0) (s t : Story) → GoesOn s t → Growing P s t → ((old : List Placed) → places_in s ≡ Some old → (g : Grows P (place_of s) (place_of t) old t) → Q (g.added ++ old)) → WhereTold Q t
grown_told P Q s t goes grows h new et = by_old (told_before s t new goes et) where
  by_old : (old : List Placed) × (places_in s ≡ Some old) → Q new
  by_old was =
      let g : Grows P (place_of s) (place_of t) was.0 t = grows was.0 was.1 in
      let same : new ≡ g.added ++ was.0 = sym (some_is g.new new (sym g.told ∙ et)) ∙ g.grown.grow in
      subst Q (sym same) (h was.0 was.1 g)

-- ---- while something is left

stays_on : (old added : List Placed) → Each EndsNone old added → StaysOpen (entries old) → StaysOpen (entries (added ++ old))
stays_on old [] h k = k
stays_on old (p ∷ added) h k = (h.0, stays_on old added h.1 k)

module _ {L : Type 0} (old new : Seen L) (devices : new.devices ≡ old.devices) (turns : new.turns ≡ old.turns) (closing : new.closing ≡ old.closing) where
  finished_before : new.log ≡ old.log → (all : List Job) → IsFinished all new.turns new.log → IsFinished all old.turns old.log
  finished_before log all f = subst (λ (ts : List GroupTurn). IsFinished all ts old.log) turns (subst (λ (l : List LogEntry). IsFinished all new.turns l) log f)

  pub left_same : new.log ≡ old.log → IsLeft old → IsLeft new
  left_same log left all are f = left all (subst (λ (ds : List IndAddr). AreJobsOf ds all) devices are) (finished_before log all f)

  -- a call that only grows the link's story
  pub through_left : (s t : Story) → GoesOn s t → Growing (Each EndsNone) s t → new.log ≡ old.log → IsLeft old → GoesThrough old s → GoesThrough new t
  through_left s t goes grows log left g = record {
    unbegun = closing ∙ g.unbegun;
    stays = grown_told (Each EndsNone) (λ places. StaysOpen (entries places)) s t goes grows (λ was es x. stays_on was x.added x.is (g.stays was es));
    placed = grown_told (Each EndsNone) (λ places. latest new.log ≤ place_of t) s t goes grows (λ was es x.
        let le : latest old.log ≤ place_of s = g.placed was es in
        let up : place_of s ≤ place_of t = place_grows s t goes in
        let same : latest new.log ≡ latest old.log = ap latest log in
        omega (arith, le, up, same));
    punctual = λ all are f. absurd (left_same log left all are f);
  }

  -- a call that does nothing on the link, and tells one thing at most
  pub through_still : (at : ℕ) (s : Story) → IsPlace at s → Writes at old.log new.log → GoesThrough old s → GoesThrough new s
  through_still at s is (Same e) g = record {
    unbegun = closing ∙ g.unbegun;
    stays = g.stays;
    placed = λ places es. subst (λ (l : List LogEntry). latest l ≤ place_of s) (sym e) (g.placed places es);
    punctual = λ all are f places es. subst (λ (l : List LogEntry). since_last l places ≡ []) (sym e) (g.punctual all (subst (λ (ds : List IndAddr). AreJobsOf ds all) devices are) (finished_before e all f) places es);
  }
  through_still at s is (More e e_at log) g = record {
    unbegun = closing ∙ g.unbegun;
    stays = g.stays;
    placed = λ places es.
        (let there : at ≡ place_of s = place_counts at s places es is in
        let last : latest new.log ≡ e.at = ap latest log in
        omega (arith, there, last, e_at));
    punctual = λ all are f places es. none_since (place_of s) new.log places (ap latest log ∙ (e_at ∙ place_counts at s places es is)) (places_upto s places es);
  }

  pub through_turn : (result : Result Turned HubFault) (at worker : ℕ) (s t : Story) → GoesOn s t → Growing (Each LeavesAlone) s t → (Rests : Type 0) → (Rests → t ≡ s) → IfOk result (λ (x : Turned). x ≢ turned.Moved → Rests) → IfOk result (λ (x : Turned). TurnTells at worker x old.log new.log)
      → OnErr result (new.log ≡ old.log) → IsPlace at s → IsLeft old → GoesThrough old s → GoesThrough new t
  through_turn (Err fault) at worker s t goes grows Rests rests still told untold is left g = through_left s t goes (ends_none_of s t grows) untold left g
  through_turn (Ok turned.Moved) at worker s t goes grows Rests rests still told untold is left g = through_left s t goes (ends_none_of s t grows) told left g
  through_turn (Ok (turned.Took job)) at worker s t goes grows Rests rests still told untold is left g = subst (GoesThrough new) (sym (rests (still (λ e. absurd (cc))))) (through_still at s is (turn_writes at worker (turned.Took job) old.log new.log told) g)
  through_turn (Ok turned.Wait) at worker s t goes grows Rests rests still told untold is left g = subst (GoesThrough new) (sym (rests (still (λ e. absurd (cc))))) (through_still at s is (turn_writes at worker turned.Wait old.log new.log told) g)
  through_turn (Ok (turned.Done job)) at worker s t goes grows Rests rests still told untold is left g = subst (GoesThrough new) (sym (rests (still (λ e. absurd (cc))))) (through_still at s is (turn_writes at worker (turned.Done job) old.log new.log told) g)
  through_turn (Ok (turned.Failed job)) at worker s t goes grows Rests rests still told untold is left g = subst (GoesThrough new) (sym (rests (still (λ e. absurd (cc))))) (through_still at s is (turn_writes at worker (turned.Failed job) old.log new.log told) g)
  through_turn (Ok (turned.Refused job)) at worker s t goes grows Rests rests still told untold is left g = subst (GoesThrough new) (sym (rests (still (λ e. absurd (cc))))) (through_still at s is (turn_writes at worker (turned.Refused job) old.log new.log told) g)
  through_turn (Ok turned.Later) at worker s t goes grows Rests rests still told untold is left g = subst (GoesThrough new) (sym (rests (still (λ e. absurd (cc))))) (through_still at s is (turn_writes at worker turned.Later old.log new.log told) g)
  through_turn (Ok turned.NoMore) at worker s t goes grows Rests rests still told untold is left g = subst (GoesThrough new) (sym (rests (still (λ e. absurd (cc))))) (through_still at s is (turn_writes at worker turned.NoMore old.log new.log told) g)

  pub through_group : (result : Result GroupDid HubFault) (at k : ℕ) (s t : Story) → GoesOn s t → Growing (Each LeavesAlone) s t → (Rests : Type 0) → (Rests → t ≡ s) → IfOk result (λ (x : GroupDid). x ≢ did.Put → Rests) → IfOk result (λ (x : GroupDid). GroupTells at k x old.log new.log)
      → OnErr result (new.log ≡ old.log) → IsPlace at s → IsLeft old → GoesThrough old s → GoesThrough new t
  through_group (Err fault) at k s t goes grows Rests rests still told untold is left g = through_left s t goes (ends_none_of s t grows) untold left g
  through_group (Ok did.Put) at k s t goes grows Rests rests still told untold is left g = through_left s t goes (ends_none_of s t grows) told left g
  through_group (Ok did.Wait) at k s t goes grows Rests rests still told untold is left g = subst (GoesThrough new) (sym (rests (still (λ e. absurd (cc))))) (through_still at s is (Same told) g)
  through_group (Ok did.Sent) at k s t goes grows Rests rests still told untold is left g = subst (GoesThrough new) (sym (rests (still (λ e. absurd (cc))))) (through_still at s is (told_writes at k _ old.log new.log told) g)
  through_group (Ok did.Lost) at k s t goes grows Rests rests still told untold is left g = subst (GoesThrough new) (sym (rests (still (λ e. absurd (cc))))) (through_still at s is (told_writes at k _ old.log new.log told) g)

-- no closing begins
pub closing_stays : (a b : Option Closing) → is_some b ≡ is_some a → a ≡ None → b ≡ a
closing_stays None None e none = refl
closing_stays None (Some c) e none = absurd (cc)
closing_stays (Some c) b e none = absurd (cc)

-- a turn that waits tells nothing
pub waits_same : (at worker : ℕ) (x : Turned) (old new : List LogEntry) → (x ≡ turned.Wait) ⊎ (x ≡ turned.Later) → TurnTells at worker x old new → new ≡ old
waits_same at worker x old new (inl e) h = subst (λ (y : Turned). TurnTells at worker y old new) e h
waits_same at worker x old new (inr e) h = subst (λ (y : Turned). TurnTells at worker y old new) e h

-- nor does a group telegram's step that waits
pub waits_told : (at k : ℕ) (x : GroupDid) (old new : List LogEntry) → x ≡ did.Wait → GroupTells at k x old new → new ≡ old
waits_told at k x old new e h = subst (λ (y : GroupDid). GroupTells at k y old new) e h

-- ---- the closing begins

-- some jobs of these devices
some_job : IndAddr → Job
some_job device = record { device = device; image = record { addr = []; assoc = []; objs = []; params = [] }; plan = plans.Over; loads = false }

some_jobs : (devices : List IndAddr) → AreJobsOf devices (map some_job devices)
unfolding some_job
some_jobs [] = refl
some_jobs (d ∷ devices) = ap (λ (ds : List IndAddr). d ∷ ds) (some_jobs devices)

closes_at : (log : List LogEntry) (places : List Placed) → since_last log places ≡ [] → StaysOpen (entries places) → Closes log places
closes_at log places none stays = record {
  stays = subst (λ (l : List Placed). StaysOpen (entries l)) (sym (all_up log places none)) stays;
  closes = subst (λ (l : List Placed). line.ClosesRightly (newest_time (entries (up_to_last log places))) (entries (up_to_last log places)) (entries l)) (sym none) tt;
}

waits_at : (log : List LogEntry) (places : List Placed) → since_last log places ≡ [] → WaitsSince log places
waits_at log places none = subst (λ (l : List Placed). line.WaitsRightly (newest_time (entries (up_to_last log places))) (entries (up_to_last log places)) (entries l)) (sym none) tt

at_none : (c : Option Closing) (log : List LogEntry) (places : List Placed) → c ≡ None → since_last log places ≡ [] → IsAt c log places
at_none c log places e none = subst (λ (o : Option Closing). IsAt o log places) (sym e) none

module _ {L : Type 0} (hub : Seen L) (s : Story) (done : AllDone hub) (g : GoesThrough hub s) where
  nothing_since : WhereTold (λ places. since_last hub.log places ≡ []) s
  nothing_since = g.punctual (map some_job hub.devices) (some_jobs hub.devices) (record { jobs_over = done.jobs (map some_job hub.devices) (some_jobs hub.devices); turns_told = done.telegrams })

  pub closing_begins : ClosesSo hub s
  closing_begins = record {
    placed = g.placed;
    parts = λ places e. sym (ap (λ (l : List Placed). l ++ up_to_last hub.log places) (nothing_since places e) ∙ all_up hub.log places (nothing_since places e));
    closes = λ places e. closes_at hub.log places (nothing_since places e) (g.stays places e);
  }

  pub how_far_first : KnowsHowFar hub s
  how_far_first places e = (at_none hub.closing hub.log places g.unbegun (nothing_since places e), waits_at hub.log places (nothing_since places e))

-- ---- a step of the closing

module _ (log : List LogEntry) (old added : List Placed) (above : AllByRecursion (λ (p : Placed). latest log < p.at) added) (parts : old ≡ since_last log old ++ up_to_last log old) where
  abbrev before : List Entry
  before = entries (up_to_last log old)

  abbrev since : List Entry
  since = entries (since_last log old)

  old_is : entries old ≡ since ++ before
  old_is = ap entries parts ∙ entries_append (since_last log old) (up_to_last log old)

  since_is : entries (since_last log (added ++ old)) ≡ entries added ++ since
  since_is = ap entries (since_more log added old above) ∙ entries_append added (since_last log old)

  -- what holds of each entry of the closing so far, and of those of a step
  module _ (P : List Entry → line.Closing → Entry → Type 0) where
    step_on : (c : Option Closing) → EachOn P c old added → IsAt c log old → line.EachSince P (newest_time before) before since → line.EachSince P (newest_time before) before (entries added ++ since)
    step_on None on none h =
        subst (λ (l : List Placed). line.EachSince P (newest_time before) before (entries added ++ entries l)) (sym none)
        (subst (λ (l : List Entry). line.EachSince P (newest_time before) before l) (sym (append-nil (entries added)))
        (subst (λ (l : List Placed). line.EachSince P (newest_time (entries l)) (entries l) (entries added)) (sym (all_up log old none)) on))
    step_on (Some c) on come h =
        let right : EachFrom P (line.closing (newest_time before) since) (entries old) (entries added) = on (line.closing (newest_time before) since) come in
        since_from P (newest_time before) before (entries added ++ since)
        (from_then P (line.Listening (newest_time before) 0) before since (entries added) (from_since P (newest_time before) before since h)
        (subst (λ (r : List Entry). EachFrom P (resumed (line.Listening (newest_time before) 0) since) r (entries added)) old_is
        (subst (λ (z : line.Closing). EachFrom P z (entries old) (entries added)) (closing_is (newest_time before) since) right)))

    each_more : (c : Option Closing) → EachOn P c old added → IsAt c log old → line.EachSince P (newest_time before) before since
        → line.EachSince P (newest_time (entries (up_to_last log (added ++ old)))) (entries (up_to_last log (added ++ old))) (entries (since_last log (added ++ old)))
    each_more c on at h =
        subst (λ (l : List Placed). line.EachSince P (newest_time (entries l)) (entries l) (entries (since_last log (added ++ old)))) (sym (up_more log added old above))
        (subst (λ (l : List Entry). line.EachSince P (newest_time before) before l) (sym since_is) (step_on c on at h))

  pub closes_more : (c : Option Closing) → ClosesOn c old added → IsAt c log old → Closes log old → Closes log (added ++ old)
  closes_more c on at h = record {
    stays = subst (λ (l : List Placed). StaysOpen (entries l)) (sym (up_more log added old above)) h.stays;
    closes = each_more line.ClosesSo c on at h.closes;
  }

  pub waits_more : (c : Option Closing) → WaitsOn c old added → IsAt c log old → WaitsSince log old → WaitsSince log (added ++ old)
  waits_more c on at h = each_more line.WaitsSo c on at h

  pub parts_more : added ++ old ≡ since_last log (added ++ old) ++ up_to_last log (added ++ old)
  parts_more =
      ap (λ (l : List Placed). added ++ l) parts
      ∙ (sym (append_assoc added (since_last log old) (up_to_last log old))
      ∙ (ap (λ (l : List Placed). l ++ up_to_last log old) (sym (since_more log added old above)) ∙ ap (λ (l : List Placed). since_last log (added ++ old) ++ l) (sym (up_more log added old above))))

  came : (o n : Option Closing) → hub.Closes o n (entries old) (entries added) → IsAt o log old → HasCome n (line.closing (newest_time before) (entries added ++ since))
  came None n h none =
      subst (λ (l : List Placed). HasCome n (line.closing (newest_time before) (entries added ++ entries l))) (sym none)
      (subst (λ (l : List Entry). HasCome n (line.closing (newest_time before) l)) (sym (append-nil (entries added)))
      (subst (λ (l : List Placed). HasCome n (line.closing (newest_time (entries l)) (entries added))) (sym (all_up log old none)) h))
  came (Some c) n h come =
      let same : line.closing (newest_time before) (entries added ++ since) ≡ resumed (line.closing (newest_time before) since) (entries added) =
      closing_is (newest_time before) (entries added ++ since) ∙ (resumed_both (line.Listening (newest_time before) 0) (entries added) since ∙ ap (λ (z : line.Closing). resumed z (entries added)) (sym (closing_is (newest_time before) since))) in
      subst (HasCome n) (sym same) (h (line.closing (newest_time before) since) come)

  is_at : (n : Option Closing) → HasCome n (line.closing (newest_time before) (entries added ++ since)) → IsAt n log (added ++ old)
  is_at None h = absurd h
  is_at (Some c) h =
      subst (λ (l : List Placed). HasCome (Some c) (line.closing (newest_time (entries l)) (entries (since_last log (added ++ old))))) (sym (up_more log added old above))
      (subst (λ (l : List Entry). HasCome (Some c) (line.closing (newest_time before) l)) (sym since_is) h)

  pub at_more : (o n : Option Closing) → hub.Closes o n (entries old) (entries added) → IsAt o log old → IsAt n log (added ++ old)
  at_more o n h at = is_at n (came o n h at)

module _ {L : Type 0} (old new : Seen L) (s t : Story) (goes : GoesOn s t) (grows : Growing (ClosesOn old.closing) s t) (log : new.log ≡ old.log) (c : ClosesSo old s) (at : KnowsHowFar old s) where
  above_of : (was : List Placed) → places_in s ≡ Some was → (x : Grows (ClosesOn old.closing) (place_of s) (place_of t) was t) → AllByRecursion (λ (p : Placed). latest old.log < p.at) x.added
  above_of was es x = higher (latest old.log) (place_of s) x.added (c.placed was es) x.grown.above

  pub closes_step : ClosesSo new t
  closes_step = record {
    placed = grown_told (ClosesOn old.closing) (λ places. latest new.log ≤ place_of t) s t goes grows (λ was es x.
        let le : latest old.log ≤ place_of s = c.placed was es in
        let up : place_of s ≤ place_of t = place_grows s t goes in
        let same : latest new.log ≡ latest old.log = ap latest log in
        omega (arith, le, up, same));
    parts = grown_told (ClosesOn old.closing) (λ places. places ≡ since_last new.log places ++ up_to_last new.log places) s t goes grows (λ was es x.
        subst (λ (l : List LogEntry). x.added ++ was ≡ since_last l (x.added ++ was) ++ up_to_last l (x.added ++ was)) (sym log) (parts_more old.log was x.added (above_of was es x) (c.parts was es)));
    closes = grown_told (ClosesOn old.closing) (Closes new.log) s t goes grows (λ was es x.
        subst (λ (l : List LogEntry). Closes l (x.added ++ was)) (sym log) (closes_more old.log was x.added (above_of was es x) (c.parts was es) old.closing x.is (at was es).0 (c.closes was es)));
  }

  pub how_far_step : AddsSo (hub.Closes old.closing new.closing) s t → Growing (WaitsOn old.closing) s t → KnowsHowFar new t
  how_far_step adds waits = grown_told (WaitsOn old.closing) (λ places. IsAt new.closing new.log places × WaitsSince new.log places) s t goes waits (λ was es x.
      let y = adds was x.new es x.told in
      let same : y.0 ≡ entries x.added = append_cancel_right y.0 (entries x.added) (entries was) (sym y.1.all ∙ x.grown.entries_grow) in
      let above : AllByRecursion (λ (p : Placed). latest old.log < p.at) x.added = higher (latest old.log) (place_of s) x.added (c.placed was es) x.grown.above in
      subst (λ (l : List LogEntry). IsAt new.closing l (x.added ++ was) × WaitsSince l (x.added ++ was)) (sym log) (
        at_more old.log was x.added above (c.parts was es) old.closing new.closing (subst (λ (l : List Entry). hub.Closes old.closing new.closing (entries was) l) same y.2) (at was es).0,
        waits_more old.log was x.added above (c.parts was es) old.closing x.is (at was es).0 (at was es).1,
      ))

-- ---- in the end

through_rightly : {L : Type 0} (hub : Seen L) (s : Story) → GoesThrough hub s → (all : List Job) → AreJobsOf hub.devices all → (places : List Placed) → places_in s ≡ Some places → LeavesRightly all hub.turns hub.log places
through_rightly hub s g all are places e = record {
  unfinished = λ n. g.stays places e;
  finished = λ f. closes_at hub.log places (g.punctual all are f places e) (g.stays places e);
}

closing_rightly : {L : Type 0} (hub : Seen L) (s : Story) → ClosesSo hub s → AllDone hub → (all : List Job) → AreJobsOf hub.devices all → (places : List Placed) → places_in s ≡ Some places → LeavesRightly all hub.turns hub.log places
closing_rightly hub s c done all are places e = record {
  unfinished = λ n. absurd (n (record { jobs_over = done.jobs all are; turns_told = done.telegrams }));
  finished = λ f. c.closes places e;
}

leaves_over : (all : List Job) (turns : List GroupTurn) (s : Story) (log : List LogEntry) → WhereTold (LeavesRightly all turns log) s → LeavesOver all turns s log
leaves_over all turns Untold log h = tt
leaves_over all turns (Recorded clock r) log h = h (counted r) refl
leaves_over all turns (Full start events) log h = h (placed start events) refl

pub through_leaves : {L : Type 0} (hub : Seen L) (s : Story) → GoesThrough hub s → (all : List Job) → AreJobsOf hub.devices all → LeavesOver all hub.turns s hub.log
through_leaves hub s g all are = leaves_over all hub.turns s hub.log (through_rightly hub s g all are)

pub closing_leaves : {L : Type 0} (hub : Seen L) (s : Story) → ClosesSo hub s → AllDone hub → (all : List Job) → AreJobsOf hub.devices all → LeavesOver all hub.turns s hub.log
closing_leaves hub s c done all are = leaves_over all hub.turns s hub.log (closing_rightly hub s c done all are)
