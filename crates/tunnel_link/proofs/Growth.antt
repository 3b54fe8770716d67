-- What a sending, a new endpoint and a poll add to the places of a link's story.
use Rattle.std.proofs.Common.{◌≡◌, inl, inr, ℕ, suc, ◌+◌, ◌<◌, ◌≤◌, List, [], ◌∷◌, ◌++◌, length, true, Some, None, refl, sym, subst, ap, ◌∙◌, arith}
use Rattle.std.proofs.lemmas.List.{map-append, length-append}
use Rattle.std.specs.List.{AllByRecursion}
use Rattle.line_model.specs.World.{World, Event, Send, Renew, now, step, replay}
use Rattle.line_model.specs.Fresh.{IsFresh}
use Rattle.line_model.specs.Record.{Item, Put, Renewed, Got, Quiet, Entry, entry, is_poll, item_at, Placed, placed, counted, entries}
use Rattle.line_model.specs.LinkStory as told
use Rattle.line_model.specs.LinkStory.{Story, Untold, Recorded, Full, Clock, Exact, Running, clock_of, places_in, newest_time, IsTime, is_foreign, Same, More, AreWaits, last_wait, EndsAt, EndsBy, PollsRecord, PollsFull, PollsNothing, Polls}
use Rattle.tunnel_link.specs.Goes.{Keeps}
use Rattle.tunnel_link.specs.Adds.{place_of}
use Rattle.tunnel_link.proofs.Ended.{ends_full}
use Rattle.tunnel_link.proofs.Clock.{next_now, same_now, never_falls, newest_is_now, newest_counted}
use Rattle.tunnel_link.proofs.Foreign.{Passes, passes}

abbrev pub IsAbove : ℕ → List Placed → Type 0
IsAbove before added = AllByRecursion (λ (p : Placed). before < p.at) added

abbrev pub IsUpto : ℕ → List Placed → Type 0
IsUpto after added = AllByRecursion (λ (p : Placed). p.at ≤ after) added

abbrev pub AreQuiet : List Placed → Type 0
AreQuiet waits = AllByRecursion (λ (p : Placed). p.what.what ≡ Quiet) waits

pub upto_more : (m n : ℕ) (l : List Placed) → m ≤ n → IsUpto m l → IsUpto n l
upto_more m n [] le h = tt
upto_more m n (p ∷ l) le h = (omega (arith, le, h.0), upto_more m n l le h.1)

-- ---- one entry, with the time that was told before

pub record OneMore (what : Item) (before after : Story) (old : List Placed) : Type 0 where
  pub told : places_in after ≡ Some (record { at = place_of after; what = entry what (newest_time (entries old)) } ∷ old)
  pub up : place_of after ≡ suc (place_of before)

some_is : (a b : List Placed) → Some a ≡ Some b → a ≡ b
some_is a b h = cc

-- an event that is this item and takes no time
pub record IsEvent (what : Item) (e : Event) : Type 0 where
  pub item : (w : World) → item_at w e ≡ Some what
  pub timeless : (w : World) → now (step w e) ≡ now w

pub sends_it : (octets : List ℕ) → IsEvent (Put octets) (Send octets)
sends_it octets = record { item = λ w. refl; timeless = λ w. next_now _ }

pub renews_it : IsEvent Renewed Renew
renews_it = record { item = λ w. refl; timeless = λ w. next_now _ }

recorded_more : (what : Item) (older : List Entry) (old : List Placed) → counted older ≡ old
    → counted (entry what (newest_time older) ∷ older) ≡ record { at = suc (length older); what = entry what (newest_time (entries old)) } ∷ old
recorded_more what older old h = subst (λ (l : List Placed). counted (entry what (newest_time older) ∷ older) ≡ record { at = suc (length older); what = entry what (newest_time (entries l)) } ∷ l) h (rw (newest_counted older) refl)

full_more : (what : Item) (e : Event) (is : IsEvent what e) (start : World) (older : List Event) (old : List Placed) → IsFresh start → placed start older ≡ old
    → placed start (e ∷ older) ≡ record { at = suc (length older); what = entry what (newest_time (entries old)) } ∷ old
full_more what e is start older old fresh h =
    let time : (now (replay start (e ∷ older)) ≡ newest_time (entries (placed start older))) = is.timeless (replay start older) ∙ sym (newest_is_now start older fresh) in
    subst (λ (l : List Placed). placed start (e ∷ older) ≡ record { at = suc (length older); what = entry what (newest_time (entries l)) } ∷ l) h
    (rw (is.item (replay start older), ← time) refl)

pub adds_more : (what : Item) (e : Event) → IsEvent what e → (before after : Story) (old : List Placed) → Keeps before → told.Adds what e before after → places_in before ≡ Some old → OneMore what before after old
adds_more what e is before Untold old k h p = absurd (let g : (places_in before ≡ None) = rw h refl in cc)
adds_more what e is before (Recorded clock r) old k h p =
    let same : (counted h.0 ≡ old) = some_is (counted h.0) old (let g : (places_in before ≡ Some (counted h.0)) = rw h.1 refl in sym g ∙ p) in
    record {
      told = rw h.2 (ap Some (recorded_more what h.0 old same));
      up = rw (h.1, h.2) refl;
    }
adds_more what e is before (Full start events) old k h p =
    let same : (placed start h.0 ≡ old) = some_is (placed start h.0) old (let g : (places_in before ≡ Some (placed start h.0)) = rw h.1 refl in sym g ∙ p) in
    let kept : Keeps (Full start h.0) = subst Keeps h.1 k in
    record {
      told = rw h.2 (ap Some (full_more what e is start h.0 old kept.fresh same));
      up = rw (h.1, h.2) refl;
    }

-- ---- waits

pub entries_append : (a b : List Placed) → entries (a ++ b) ≡ entries a ++ entries b
entries_append a b = map-append (λ (p : Placed). p.what) a b

pub quiet_places : (since : ℕ) (ws : List Placed) → AreWaits since (entries ws) → AreQuiet ws
quiet_places since [] h = tt
quiet_places since (p ∷ ws) h = (h.0, quiet_places since ws h.2)

pub record Waits (since until : ℕ) (before after : ℕ) (old : List Placed) (new : List Placed) : Type 0 where
  pub waits : List Placed
  pub all : new ≡ waits ++ old
  pub times : AreWaits since (entries waits)
  pub later : last_wait since (entries waits) ≤ until
  pub above : IsAbove before waits
  pub upto : IsUpto after waits
  pub up : before ≤ after

module _ (start : World) (before : List Event) where
  abbrev Foreign : List Event → Type 0
  Foreign events = Waits (now (replay start before)) (now (replay start events)) (length before) (length events) (placed start before) (placed start events)

  one_passed : (events : List Event) (e : Event) → Passes (replay start events) e → Foreign events → Foreign (e ∷ events)
  one_passed events e (inl none) f = record {
    waits = f.waits;
    all = rw none f.all;
    times = f.times;
    later = let h = f.later in let n = same_now (replay start events) e none in omega arith;
    above = f.above;
    upto = upto_more (length events) (suc (length events)) f.waits (omega arith) f.upto;
    up = let h = f.up in omega arith;
  }
  one_passed events e (inr quiet) f = record {
    waits = record { at = suc (length events); what = entry Quiet (now (replay start (e ∷ events))) } ∷ f.waits;
    all = rw quiet.0 (ap (λ (l : List Placed). record { at = suc (length events); what = entry Quiet (now (replay start (e ∷ events))) } ∷ l) f.all);
    times = (refl, (let h = f.later in let n = quiet.1 in omega arith), f.times);
    later = omega arith;
    above = ((let h = f.up in omega arith), f.above);
    upto = (omega arith, upto_more (length events) (suc (length events)) f.waits (omega arith) f.upto);
    up = let h = f.up in omega arith;
  }

  pub foreign : (events : List Event) → told.GoesOn start before events → Foreign events
  foreign events Same = record { waits = []; all = refl; times = tt; later = omega arith; above = tt; upto = tt; up = omega arith }
  foreign events (More {events = rest} e is may g) = one_passed rest e (passes (replay start rest) e is) (foreign rest g)

-- ---- the places of a record

abbrev counted_on : List Entry → List Entry → List Placed
counted_on older [] = []
counted_on older (x ∷ ws) = record { at = suc (length (ws ++ older)); what = x } ∷ counted_on older ws

counted_append : (ws older : List Entry) → counted (ws ++ older) ≡ counted_on older ws ++ counted older
counted_append [] older = refl
counted_append (x ∷ ws) older = ap (λ (l : List Placed). record { at = suc (length (ws ++ older)); what = x } ∷ l) (counted_append ws older)

entries_on : (ws older : List Entry) → entries (counted_on older ws) ≡ ws
entries_on [] older = refl
entries_on (x ∷ ws) older = ap (λ (l : List Entry). x ∷ l) (entries_on ws older)

on_above : (ws older : List Entry) → IsAbove (length older) (counted_on older ws)
on_above [] older = tt
on_above (x ∷ ws) older = ((let h = length-append ws older in omega arith), on_above ws older)

on_upto : (ws older : List Entry) → IsUpto (length (ws ++ older)) (counted_on older ws)
on_upto [] older = tt
on_upto (x ∷ ws) older = (omega arith, upto_more (length (ws ++ older)) (suc (length (ws ++ older))) (counted_on older ws) (omega arith) (on_upto ws older))

-- ---- a poll

pub record Polling (what : Item) (wait until : ℕ) (before after : Story) (old : List Placed) : Type 0 where
  pub waited : List Placed
  pub waits : Waits (newest_time (entries old)) until (place_of before) (place_of after) old waited
  pub told : places_in after ≡ Some (record { at = place_of after; what = entry what until } ∷ waited)
  pub ends : EndsBy (clock_of before) what wait (newest_time (entries old)) until (entries waits.waits)
  pub up : place_of before < place_of after

ends_in_time : (what : Item) (wait since until : ℕ) → EndsAt what wait since until → until ≤ since + wait
ends_in_time (Put octets) wait since until h = h
ends_in_time Renewed wait since until h = h
ends_in_time (Got octets) wait since until h = h
ends_in_time Quiet wait since until h = omega (arith, h)

-- with an exact clock it ends in time; and into a wait that is longer nothing fell
pub exact_in_time : (clock : Clock) (what : Item) (wait since until : ℕ) (ws : List Entry) → EndsBy clock what wait since until ws → clock ≡ Exact → until ≤ since + wait
exact_in_time Exact what wait since until ws ends e = ends_in_time what wait since until ends
exact_in_time Running what wait since until ws ends e = absurd (cc)

pub waits_in_time : (clock : Clock) (what : Item) (wait since until : ℕ) (ws : List Entry) → EndsBy clock what wait since until ws → last_wait since ws ≤ until → last_wait since ws ≤ since + wait
waits_in_time Exact what wait since until ws ends later = let e = ends_in_time what wait since until ends in omega (arith, e, later)
waits_in_time Running what wait since until ws ends later = rw ends (omega arith)

-- with a clock that runs nothing is an entry of its own
pub running_at_once : (clock : Clock) (what : Item) (wait since until : ℕ) (ws : List Placed) → EndsBy clock what wait since until (entries ws) → clock ≡ Running → ws ≡ []
running_at_once Exact what wait since until ws ends e = absurd (cc)
running_at_once Running what wait since until [] ends e = refl
running_at_once Running what wait since until (p ∷ ws) ends e = absurd (let z : p.what ∷ entries ws ≡ [] = ends in cc)

record_polls : (clock : Clock) (what : Item) (wait until : ℕ) (older r : List Entry) → PollsRecord clock what wait until older r → Polling what wait until (Recorded clock older) (Recorded clock r) (counted older)
record_polls clock what wait until older r p = record {
  waited = counted (p.waits ++ older);
  waits = record {
    waits = counted_on older p.waits;
    all = counted_append p.waits older;
    times = rw (newest_counted older, entries_on p.waits older) p.are;
    later = rw (newest_counted older, entries_on p.waits older) p.later;
    above = on_above p.waits older;
    upto = upto_more (length (p.waits ++ older)) (length r) (counted_on older p.waits) (rw p.all (omega arith)) (on_upto p.waits older);
    up = rw p.all (let h = length-append p.waits older in omega arith);
  };
  told = rw p.all refl;
  ends = rw (newest_counted older, entries_on p.waits older) p.ends;
  up = rw p.all (let h = length-append p.waits older in omega arith);
}

full_polls : (what : Item) (wait : ℕ) (start : World) (older events : List Event) → IsFresh start → is_poll what ≡ true → PollsFull what wait start older events
    → Polling what wait (now (replay start events)) (Full start older) (Full start events) (placed start older)
full_polls what wait start older events fresh poll p =
    let f = foreign start older p.events p.foreign in
    let falls : (now (replay start p.events) ≤ now (replay start (p.last ∷ p.events))) = never_falls (replay start p.events) p.last in
    subst (λ (es : List Event). Polling what wait (now (replay start es)) (Full start older) (Full start es) (placed start older)) (sym p.all) (record {
      waited = placed start p.events;
      waits = record {
        waits = f.waits;
        all = f.all;
        times = rw (newest_is_now start older fresh) f.times;
        later = rw (newest_is_now start older fresh) (let h = f.later in omega arith);
        above = f.above;
        upto = upto_more (length p.events) (suc (length p.events)) f.waits (omega arith) f.upto;
        up = let h = f.up in omega arith;
      };
      told = rw p.brings refl;
      ends = rw (newest_is_now start older fresh) (subst (λ (es : List Event). EndsAt what wait (now (replay start older)) (now (replay start es))) p.all (ends_full what wait (now (replay start older)) (now (replay start events)) p.last poll p.ends));
      up = let h = f.up in omega arith;
    })

pub same_places : (s : Story) (places old : List Placed) → places_in s ≡ Some places → places_in s ≡ Some old → places ≡ old
same_places s places old h p = some_is places old (sym h ∙ p)

pub polls_more : (what : Item) (wait until : ℕ) (before after : Story) (old : List Placed) → is_poll what ≡ true → Keeps before → Polls what wait until before after → IsTime until after → places_in before ≡ Some old
    → Polling what wait until before after old
polls_more what wait until before Untold old poll k h t p = absurd (let g : (places_in before ≡ None) = rw h refl in cc)
polls_more what wait until before (Recorded clock r) old poll k h t p =
    let same : (counted h.0 ≡ old) = same_places before (counted h.0) old (rw h.1 refl) p in
    subst (λ (s : Story). Polling what wait until s (Recorded clock r) old) (sym h.1)
    (subst (λ (l : List Placed). Polling what wait until (Recorded clock h.0) (Recorded clock r) l) same (record_polls clock what wait until h.0 r h.2))
polls_more what wait until before (Full start events) old poll k h t p =
    let same : (placed start h.0 ≡ old) = same_places before (placed start h.0) old (rw h.1 refl) p in
    let kept : Keeps (Full start h.0) = subst Keeps h.1 k in
    let g : Polling what wait until (Full start h.0) (Full start events) (placed start h.0) = subst (λ (n : ℕ). Polling what wait n (Full start h.0) (Full start events) (placed start h.0)) (sym t) (full_polls what wait start h.0 events kept.fresh poll h.2) in
    subst (λ (s : Story). Polling what wait until s (Full start events) old) (sym h.1)
    (subst (λ (l : List Placed). Polling what wait until (Full start h.0) (Full start events) l) same g)

-- ---- a poll that fails

pub record Failing (wait : ℕ) (before after : Story) (old : List Placed) : Type 0 where
  pub waited : List Placed
  pub until : ℕ
  pub waits : Waits (newest_time (entries old)) until (place_of before) (place_of after) old waited
  pub told : places_in after ≡ Some waited
  pub in_time : until ≤ newest_time (entries old) + wait
  pub at_once : clock_of before ≡ Running → waits.waits ≡ []

pub fails_more : (wait : ℕ) (before after : Story) (old : List Placed) → Keeps before → PollsNothing wait before after → places_in before ≡ Some old → Failing wait before after old
fails_more wait before Untold old k h p = absurd (let g : (places_in before ≡ None) = rw h refl in cc)
fails_more wait before (Recorded clock r) old k h p = record {
  waited = old;
  until = newest_time (entries old);
  waits = record { waits = []; all = refl; times = tt; later = omega arith; above = tt; upto = tt; up = rw h (omega arith) };
  told = sym (ap places_in h) ∙ p;
  in_time = omega arith;
  at_once = λ running. refl;
}
fails_more wait before (Full start events) old k h p =
    let same : (placed start h.0 ≡ old) = same_places before (placed start h.0) old (rw h.1 refl) p in
    let kept : Keeps (Full start h.0) = subst Keeps h.1 k in
    let f = foreign start h.0 events h.2.foreign in
    subst (λ (s : Story). Failing wait s (Full start events) old) (sym h.1)
    (subst (λ (l : List Placed). Failing wait (Full start h.0) (Full start events) l) same (record {
      waited = placed start events;
      until = now (replay start events);
      waits = rw (newest_is_now start h.0 kept.fresh) f;
      told = refl;
      in_time = rw (newest_is_now start h.0 kept.fresh) h.2.in_time;
      at_once = λ running. absurd (let z : Exact ≡ Running = running in cc);
    }))
