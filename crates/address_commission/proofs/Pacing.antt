-- What a call adds keeps the pace, and time passes in it only where something is awaited.
use Rattle.std.proofs.Common.{◌≡◌, ℕ, ◌+◌, ◌<◌, ◌≤◌, List, [], ◌∷◌, ◌++◌, Bool, true, false, cond, ◌&&◌, Some, None, refl, sym, ◌∙◌, ap, subst, arith}
use Rattle.std.specs.Prelude.{min}
use Rattle.std.specs.List.{AllByRecursion, list_any}
use Rattle.std.proofs.lemmas.List.{append_cancel_right}
use Rattle.knx_model.specs.declared.address.IndAddr.{IndAddr}
use Rattle.knx_model.specs.Connection.{has_passed}
use Rattle.line_model.specs.Asks.{HasPlace, IsQuiet}
use Rattle.line_model.specs.ChannelLost.{Own, own, confirmed, is_request, is_lost}
use Rattle.line_model.specs.ClientView.{ClientChannel, Fresh, Sought, RefusedBy, Unanswered, Open, Lost, Loses, Nothing, after_entry, goes_on, channel, deed, sought_got}
use Rattle.line_model.specs.Closing.{is_open}
use Rattle.line_model.specs.Haste.{KeepsPaces}
use Rattle.line_model.specs.Leaves.{StaysOpen}
use Rattle.line_model.specs.LinkStory.{Story, Exact, newest_time, places_in}
use Rattle.line_model.specs.Moments.{moments, is_loss}
use Rattle.line_model.specs.Reading.{is_connect_request, request_in}
use Rattle.line_model.specs.Record.{Item, Put, Renewed, Got, Quiet, Entry, Placed, entries, is_got, is_poll, is_renewal, put_in, got_in}
use Rattle.line_model.specs.Waiting.{longest_poll}
use Rattle.tunnel_link.specs.declared.came.Came.{Came}
use Rattle.tunnel_link.specs.Adds.{Growing, Brings}
use Rattle.tunnel_link.proofs.SeekKept.{grows_as}
use Rattle.tunnel_link.specs.Alone.{Each, EndsNone, LeavesAlone}
use Rattle.tunnel_link.specs.Paces.{TakesNoTime, BeatsInTime, PollsWithin}
use Rattle.address_talk.specs.Rounds.{Round, after_deed, rounds, quiet_since, has_lost}
use Rattle.address_talk.specs.Talk.{HeardOutBy}
use Rattle.address_talk.specs.Pace.{WaitsSo, WaitsRightly, WaitsUntil, Paced, PacedUntil}
use Rattle.address_commission.specs.Listening.{AwaitsFor}
use Rattle.address_commission.proofs.Folds.{NoGot, left_false, right_false, quiet_on, quiet_no_got}
use Rattle.address_commission.proofs.Steps.{Step, some_is}

-- another thing of what was added
pub also : (P Q : List Placed → List Placed → Type 0) (s t : Story) (new : List Placed) (x : Step P s t new) → Growing Q s t → places_in t ≡ Some new → Q x.old x.added
also P Q s t new x g p =
    let y = g x.old x.told in
    let same : y.added ≡ x.added = append_cancel_right y.added x.added x.old (sym y.grown.grow ∙ (some_is y.new new (sym y.told ∙ p) ∙ x.grow)) in
    subst (Q x.old) same y.is

-- ---- the open channel

pub stays_on : (added old : List Placed) → Each EndsNone old added → StaysOpen (entries old) → StaysOpen (entries (added ++ old))
stays_on [] old h s = s
stays_on (p ∷ added) old h s = (h.0, stays_on added old h.1 s)

ends_none : (old added : List Placed) → Each LeavesAlone old added → Each EndsNone old added
ends_none old [] h = tt
ends_none old (p ∷ added) h = (h.0.ends_none, ends_none old added h.1)

pub ends_none_of : (s t : Story) → Growing (Each LeavesAlone) s t → Growing (Each EndsNone) s t
ends_none_of s t g = grows_as (Each LeavesAlone) (Each EndsNone) s t ends_none g

pub not_both : (b : Bool) → b ≡ true → b ≡ false → ⊥
not_both true t f = cc
not_both false t f = cc

-- ---- the pace of a call that lets no time pass

no_time : (added old : List Placed) → Each TakesNoTime old added → Each EndsNone old added → StaysOpen (entries old) → KeepsPaces (entries old) → KeepsPaces (entries (added ++ old))
no_time [] old t e s k = k
no_time (p ∷ added) old t e s k = (
  record {
    short = let h = t.0.still in omega (arith, h);
    beats = λ poll. absurd (not_both (is_poll p.what.what) poll t.0.polls_not);
    ends_once = λ asks opened. absurd (not_both (is_open (channel (entries (added ++ old)))) opened (e.0 asks));
    seeks = λ renews. stays_on added old e.1 s;
  },
  no_time added old t.1 e.1 s k,
)

pub no_waits : (wanted : IndAddr) (added old : List Placed) → Each TakesNoTime old added → WaitsRightly wanted old → WaitsRightly wanted (added ++ old)
no_waits wanted [] old t w = w
no_waits wanted (p ∷ added) old t w = ((λ poll lt. absurd (not_both (is_poll p.what.what) poll t.0.polls_not)), no_waits wanted added old t.1 w)

pub still_paced : (wanted : IndAddr) (added old : List Placed) → Each TakesNoTime old added → Each EndsNone old added → StaysOpen (entries old) → Paced wanted old → Paced wanted (added ++ old)
still_paced wanted added old t e stays p = record { keeps = no_time added old t e stays p.keeps; waits = no_waits wanted added old t p.waits }

pub so_far : (wanted : IndAddr) (places : List Placed) → Paced wanted places → PacedUntil wanted places
so_far wanted places p = record { keeps = p.keeps; waits = record { older = places; last = []; parts = refl; waits = p.waits; short = omega arith } }

-- where nothing seeks a channel, whether or not it was asked to end
pub alone_paces : (added old : List Placed) → Each TakesNoTime old added → Each LeavesAlone old added → KeepsPaces (entries old) → KeepsPaces (entries (added ++ old))
alone_paces [] old t a k = k
alone_paces (p ∷ added) old t a k = (
  record {
    short = let h = t.0.still in omega (arith, h);
    beats = λ poll. absurd (not_both (is_poll p.what.what) poll t.0.polls_not);
    ends_once = λ asks opened. absurd (not_both (is_open (channel (entries (added ++ old)))) opened (a.0.ends_none asks));
    seeks = λ renews. absurd (not_both (is_renewal p.what.what) renews a.0.seeks_none.renews_not);
  },
  alone_paces added old t.1 a.1 k,
)

-- ---- the pace of a poll

pub poll_paces : (added old : List Placed) → Each (λ r x. x.now ≤ newest_time r + longest_poll) old added → Each BeatsInTime old added → Each LeavesAlone old added → KeepsPaces (entries old) → KeepsPaces (entries (added ++ old))
poll_paces [] old s b a k = k
poll_paces (p ∷ added) old s b a k = (
  record {
    short = s.0;
    beats = b.0;
    ends_once = λ asks opened. absurd (not_both (is_open (channel (entries (added ++ old)))) opened (a.0.ends_none asks));
    seeks = λ renews. absurd (not_both (is_renewal p.what.what) renews a.0.seeks_none.renews_not);
  },
  poll_paces added old s.1 b.1 a.1 k,
)

-- ---- where nothing is got, no place becomes free

no_got_in : (what : Item) → is_got what ≡ false → got_in what ≡ None
no_got_in (Put octets) h = refl
no_got_in Renewed h = refl
no_got_in (Got octets) h = absurd (cc)
no_got_in Quiet h = refl

sent_not : (t : ℕ) (ts : List ℕ) → t ∷ ts ≡ [] → ⊥
sent_not t ts e = cc

quiet_before : (c : ℕ) (l : List Entry) (x : Entry) → got_in x.what ≡ None → IsQuiet c (x ∷ l) → IsQuiet c l
quiet_before c l x none q = by_request (is_request c (request_in (put_in x.what))) refl where
  by_request : (b : Bool) → is_request c (request_in (put_in x.what)) ≡ b → IsQuiet c l
  by_request true e = absurd (sent_not x.now (own c l).sent (let h : (own c (x ∷ l)).sent ≡ [] = q.acknowledged in let g : (own c (x ∷ l)).sent ≡ x.now ∷ (own c l).sent = rw e refl in sym g ∙ h))
  by_request false e =
      let same : own c (x ∷ l) ≡ own c l = rw (e, none) refl in
      let as_well : confirmed c (x ∷ l) ≡ confirmed c l = rw (e, none) refl in
      record { acknowledged = ap (λ (o : Own). o.sent) (sym same) ∙ q.acknowledged; has_confirmation = sym as_well ∙ q.has_confirmation }

no_place : (b : Bool) (c d : ClientChannel) → (HasPlace c → ⊥) → (HasPlace d → ⊥) → HasPlace (cond b c d) → ⊥
no_place true c d m n h = m h
no_place false c d m n h = n h

kept_place : (b : Bool) (c : ℕ) (l : List Entry) (x : Entry) → got_in x.what ≡ None → HasPlace (cond b (Lost c) (Open c (x ∷ l))) → IsQuiet c l
kept_place true c l x none h = absurd h
kept_place false c l x none h = quiet_before c l x none h

goes_place : (ch : ClientChannel) (x : Entry) → got_in x.what ≡ None → HasPlace (goes_on ch x) → HasPlace ch
goes_place Fresh x none h = absurd (no_place (is_connect_request (put_in x.what)) (Sought x.now) Fresh (λ z. z) (λ z. z) h)
goes_place (Sought since) x none h = absurd (no_place (is_poll x.what && has_passed 10000 since x.now) Unanswered (Sought since) (λ z. z) (λ z. z) (subst (λ o. HasPlace (cond (is_poll x.what && has_passed 10000 since x.now) Unanswered (sought_got since x o))) none h))
goes_place (RefusedBy status) x none h = h
goes_place Unanswered x none h = h
goes_place (Open c l) x none h = kept_place (is_lost c l x) c l x none h
goes_place (Lost c) x none h = h

after_place : (ch : ClientChannel) (x : Entry) → got_in x.what ≡ None → HasPlace (after_entry ch x) → HasPlace ch
unfolding after_entry
after_place ch x none h = by_renewal (is_renewal x.what) h where
  by_renewal : (b : Bool) → HasPlace (cond b Fresh (goes_on ch x)) → HasPlace ch
  by_renewal true g = absurd g
  by_renewal false g = goes_place ch x none g

pub place_before : (added old : List Placed) → NoGot added → HasPlace (channel (entries (added ++ old))) → HasPlace (channel (entries old))
place_before [] old n h = h
place_before (p ∷ added) old n h = place_before added old n.1 (after_place (channel (entries (added ++ old))) p.what (no_got_in p.what.what n.0) h)

-- ---- waits change no round

quiet_deed : (ch : ClientChannel) (now : ℕ) (rs : List Round) → after_deed (deed ch (record { what = Quiet; now = now })) rs ≡ rs
unfolding deed
quiet_deed Fresh now rs = refl
quiet_deed (Sought since) now rs = refl
quiet_deed (RefusedBy status) now rs = refl
quiet_deed Unanswered now rs = refl
quiet_deed (Open c l) now rs = by_loss (is_lost c l (record { what = Quiet; now = now })) where
  by_loss : (b : Bool) → after_deed (cond b Loses Nothing) rs ≡ rs
  by_loss true = refl
  by_loss false = refl
quiet_deed (Lost c) now rs = refl

pub waits_rounds : (waits old : List Placed) → AllByRecursion (λ (p : Placed). p.what.what ≡ Quiet) waits → rounds (moments (waits ++ old)) ≡ rounds (moments old)
waits_rounds [] old q = refl
waits_rounds (p ∷ waits) old q =
    let same : p.what ≡ record { what = Quiet; now = p.what.now } = ap (λ (i : Item). record { what = i; now = p.what.now }) q.0 in
    ap (λ (x : Entry). after_deed (deed (channel (entries (waits ++ old))) x) (rounds (moments (waits ++ old)))) same
    ∙ quiet_deed (channel (entries (waits ++ old))) p.what.now (rounds (moments (waits ++ old))) ∙ waits_rounds waits old q.1

-- ---- a poll: time passes in it only where something is awaited

lost_before : (p : Placed) (older : List Placed) → has_lost (moments (p ∷ older)) ≡ false → has_lost (moments older) ≡ false
lost_before p older h = right_false (is_loss (deed (channel (entries older)) p.what)) (has_lost (moments older)) h

within : (a b c d m : ℕ) → a < b → b ≤ c + min d m → a < c + d
within a b c d m lt le = omega (arith, lt, le)

module _ (wanted : IndAddr) (longest : ℕ) (old : List Placed) (for : AwaitsFor wanted longest old) where
  abbrev InTime : Placed → Type 0
  InTime p = p.what.now ≤ newest_time (entries old) + min longest longest_poll

  -- an entry after such waits
  after_waits : (waits : List Placed) → AllByRecursion (λ (p : Placed). p.what.what ≡ Quiet) waits → has_lost (moments (waits ++ old)) ≡ false → (p : Placed) → InTime p → WaitsSo wanted (waits ++ old) p
  after_waits waits q kept p in_time = λ poll lt. record {
    kept = kept;
    unheard = λ place heard.
        let none : NoGot waits = quiet_no_got waits q in
        let then : ℕ = newest_time (entries (waits ++ old)) in
        let here : HeardOutBy wanted (rounds (moments old)) (quiet_since (entries (waits ++ old))) then
        = subst (λ (rs : List Round). HeardOutBy wanted rs (quiet_since (entries (waits ++ old))) then) (waits_rounds waits old q) heard in
        for then (within then p.what.now (newest_time (entries old)) longest longest_poll lt in_time) (place_before waits old none place)
        (subst (λ (n : ℕ). HeardOutBy wanted (rounds (moments old)) n then) (quiet_on waits old none) here);
  }

  all_waits : (waits : List Placed) → AllByRecursion (λ (p : Placed). p.what.what ≡ Quiet) waits → AllByRecursion InTime waits → has_lost (moments (waits ++ old)) ≡ false → WaitsRightly wanted old → WaitsRightly wanted (waits ++ old)
  all_waits [] q t kept w = w
  all_waits (p ∷ waits) q t kept w =
      let before : has_lost (moments (waits ++ old)) ≡ false = lost_before p (waits ++ old) kept in
      (after_waits waits q.1 before p t.0, all_waits waits q.1 t.1 before w)

  sent_waits : (sent tail : List Placed) → list_any (λ (p : Placed). is_poll p.what.what) sent ≡ false → WaitsRightly wanted (tail ++ old) → WaitsRightly wanted ((sent ++ tail) ++ old)
  sent_waits [] tail n w = w
  sent_waits (p ∷ sent) tail n w = (
    (λ poll lt. absurd (not_both (is_poll p.what.what) poll (left_false (is_poll p.what.what) (list_any (λ (p : Placed). is_poll p.what.what) sent) n))),
    sent_waits sent tail (right_false (is_poll p.what.what) (list_any (λ (p : Placed). is_poll p.what.what) sent) n) w,
  )

  sent_kept : (sent tail : List Placed) → has_lost (moments ((sent ++ tail) ++ old)) ≡ false → has_lost (moments (tail ++ old)) ≡ false
  sent_kept [] tail h = h
  sent_kept (p ∷ sent) tail h = sent_kept sent tail (lost_before p ((sent ++ tail) ++ old) h)

  in_tail : (sent tail : List Placed) → AllByRecursion InTime (sent ++ tail) → AllByRecursion InTime tail
  in_tail [] tail h = h
  in_tail (p ∷ sent) tail h = in_tail sent tail h.1

  parts_wait : (sent : List Placed) (last : Placed) (waits : List Placed) → AllByRecursion (λ (p : Placed). p.what.what ≡ Quiet) waits → list_any (λ (p : Placed). is_poll p.what.what) sent ≡ false → AllByRecursion InTime (sent ++ (last ∷ waits))
      → has_lost (moments ((sent ++ (last ∷ waits)) ++ old)) ≡ false → WaitsRightly wanted old → WaitsRightly wanted ((sent ++ (last ∷ waits)) ++ old)
  parts_wait sent last waits q n t kept w =
      let there : has_lost (moments (last ∷ (waits ++ old))) ≡ false = sent_kept sent (last ∷ waits) kept in
      let before : has_lost (moments (waits ++ old)) ≡ false = lost_before last (waits ++ old) there in
      let times : AllByRecursion InTime (last ∷ waits) = in_tail sent (last ∷ waits) t in
      sent_waits sent (last ∷ waits) n (after_waits waits q before last times.0, all_waits waits q times.1 before w)

  pub poll_waits : (came : Came) (added : List Placed) → Brings came old added → AllByRecursion InTime added → has_lost (moments (added ++ old)) ≡ false → WaitsRightly wanted old → WaitsRightly wanted (added ++ old)
  poll_waits came added b t kept w =
      subst (λ (l : List Placed). WaitsRightly wanted (l ++ old)) (sym b.parts)
      (parts_wait b.sent b.last b.waits b.quiet b.sends (subst (AllByRecursion InTime) b.parts t) (subst (λ (l : List Placed). has_lost (moments (l ++ old)) ≡ false) b.parts kept) w)

-- and that of a talk that fails in it
pub newest_within : (bound : ℕ) (added old : List Placed) → newest_time (entries old) ≤ bound → AllByRecursion (λ (p : Placed). p.what.now ≤ bound) added → newest_time (entries (added ++ old)) ≤ bound
newest_within bound [] old le t = le
newest_within bound (p ∷ added) old le t = t.0

at_most_so : (a d m : ℕ) → a + min d m ≤ a + m
at_most_so a d m = omega arith

pub poll_until : (wanted : IndAddr) (longest : ℕ) (added old new : List Placed) → new ≡ added ++ old → AllByRecursion (λ (p : Placed). p.what.now ≤ newest_time (entries old) + min longest longest_poll) added → WaitsRightly wanted old → WaitsUntil wanted new
poll_until wanted longest added old new grow t w =
    let bound : ℕ = newest_time (entries old) + min longest longest_poll in
    let le : newest_time (entries (added ++ old)) ≤ bound = newest_within bound added old (omega arith) t in
    let most : bound ≤ newest_time (entries old) + longest_poll = at_most_so (newest_time (entries old)) longest longest_poll in
    let there : newest_time (entries new) ≤ newest_time (entries old) + longest_poll = subst (λ (l : List Placed). newest_time (entries l) ≤ newest_time (entries old) + longest_poll) (sym grow) (omega (arith, le, most)) in
    record { older = old; last = added; parts = grow; waits = w; short = there }

-- ---- by what the calls of the client's end add

pub record PollsSo (longest : ℕ) (old added : List Placed) : Type 0 where
  pub within : PollsWithin Exact longest old added
  pub beats : Each BeatsInTime old added
  pub alone : Each LeavesAlone old added

-- where the channel stays
pub poll_paced : (wanted : IndAddr) (longest : ℕ) (came : Came) (old added new : List Placed) → new ≡ added ++ old → AwaitsFor wanted longest old → Brings came old added → PollsSo longest old added → has_lost (moments new) ≡ false → Paced wanted old → Paced wanted new
poll_paced wanted longest came old added new grow for b s kept p = subst (Paced wanted) (sym grow) (record {
  keeps = poll_paces added old (s.within.short refl) s.beats s.alone p.keeps;
  waits = poll_waits wanted longest old for came added b (s.within.in_time refl) (subst (λ (l : List Placed). has_lost (moments l) ≡ false) grow kept) p.waits;
})

-- where it fails, or the channel was lost
pub poll_paced_until : (wanted : IndAddr) (longest : ℕ) (old added new : List Placed) → new ≡ added ++ old → PollsSo longest old added → Paced wanted old → PacedUntil wanted new
poll_paced_until wanted longest old added new grow s p = record {
  keeps = subst (λ (l : List Placed). KeepsPaces (entries l)) (sym grow) (poll_paces added old (s.within.short refl) s.beats s.alone p.keeps);
  waits = poll_until wanted longest added old new grow (s.within.in_time refl) p.waits;
}
