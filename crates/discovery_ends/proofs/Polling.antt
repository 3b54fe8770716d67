-- What a sending and a poll add to the record of a link on which something was sent or got just now.
use Rattle.std.proofs.Common.{◌≡◌, inl, inr, ℕ, ◌+◌, ◌≤◌, List, [], ◌∷◌, ◌++◌, true, take, Option, Ok, refl, sym, subst, ap, ◌∙◌, arith}
use Rattle.std.specs.Prelude.{OnErr, OnOk, Result, Err}
use Rattle.line_model.specs.declared.outside.link.LinkFault.{LinkFault}
use Rattle.line_model.specs.declared.outside.link.Polled.{Polled}
use Rattle.line_model.specs.declared.outside.link.Polled.TheVariants as answer
use Rattle.line_model.specs.Polled.{PollsSo}
use Rattle.line_model.specs.World.{World, Event, Send, now, replay}
use Rattle.line_model.specs.Record.{Item, Put, Renewed, Got, Quiet, Entry, entry, is_poll, noted, record_of}
use Rattle.line_model.specs.LinkStory.{Clock, Story, Untold, Recorded, Full, Exact, Running, newest_time, Sends, SendsOrNot, GoesOn, Same, More, AreWaits, last_wait, EndsAt, EndsBy, PollsRecord, Polls, PollsNothing}
use Rattle.tunnel_link.proofs.Clock.{never_falls}
use Rattle.tunnel_link.proofs.Foreign.{Passes, passes}
use Rattle.tunnel_link.proofs.Ended.{ends_full}
use Rattle.discovery_ends.specs.Searching.{quiet_ms, datagrams_in, got_in, is_quiet, before_quiet, IsQuietFor, Listens, recorded}
use Rattle.discovery_ends.specs.Going.{IsAt, Awake, Came, NoneCame}

pub same_clock : (a b : Clock) (r s : List Entry) → Recorded a r ≡ Recorded b s → a ≡ b
same_clock a b r s e = cc

pub same_record : (a b : Clock) (r s : List Entry) → Recorded a r ≡ Recorded b s → r ≡ s
same_record a b r s e = cc

pub none_told : {P : Type 0} (story : Story) (clock : Clock) (r : List Entry) → story ≡ Untold → recorded story ≡ Recorded clock r → P
none_told story clock r e told = absurd (let none : Untold ≡ Recorded clock r = sym (ap recorded e) ∙ told in cc)

-- ---- quiet waits, up to a time

abbrev Waits : ℕ → List Entry → Type 0
Waits until [] = Unit {0}
Waits until (x ∷ waits) = (x.what ≡ Quiet) × (x.now ≤ until) × Waits until waits

waits_later : (until later : ℕ) (waits : List Entry) → until ≤ later → Waits until waits → Waits later waits
waits_later until later [] le w = tt
waits_later until later (x ∷ waits) le w = (w.0, (let h = w.1 in omega arith), waits_later until later waits le w.2)

quiet_poll : (what : Item) → what ≡ Quiet → is_poll what ≡ true
quiet_poll what e = rw e refl

quiet_is : (what : Item) → what ≡ Quiet → is_quiet what ≡ true
quiet_is what e = rw e refl

quiet_got : (what : Item) → what ≡ Quiet → got_in what ≡ []
quiet_got what e = rw e refl

-- what was sent or got last is behind a quiet wait the same
behind_quiet : (x : Entry) (r : List Entry) → x.what ≡ Quiet → before_quiet (x ∷ r) ≡ before_quiet r
behind_quiet x r e = rw (quiet_is x.what e) refl

behind_waits : (until : ℕ) (waits r : List Entry) → Waits until waits → before_quiet (waits ++ r) ≡ before_quiet r
behind_waits until [] r w = refl
behind_waits until (x ∷ waits) r w = behind_quiet x (waits ++ r) w.0 ∙ behind_waits until waits r w.2

none_got : (until : ℕ) (waits : List Entry) → Waits until waits → datagrams_in waits ≡ []
none_got until [] w = refl
none_got until (x ∷ waits) w = rw (none_got until waits w.2, quiet_got x.what w.0) refl

-- polls in each of which it was quiet for so long at most
waits_listen : (until : ℕ) (waits r : List Entry) → before_quiet r ≡ r → until ≤ newest_time r + quiet_ms → Waits until waits → Listens Exact r waits
waits_listen until [] r newest le w = tt
waits_listen until (x ∷ waits) r newest le w =
    let same : before_quiet (waits ++ r) ≡ r = behind_waits until waits r w.2 ∙ newest in
    (quiet_poll x.what w.0, rw same (let h = w.1 in omega arith), waits_listen until waits r newest le w.2)

-- ---- the waits of a record, and of events

record_waits : (since until : ℕ) (waits : List Entry) → AreWaits since waits → last_wait since waits ≤ until → Waits until waits
record_waits since until [] h le = tt
record_waits since until (x ∷ waits) h le = (h.0, le, record_waits since until waits h.2 (let k = h.1 in omega arith))

record FullWaits (start : World) (older events : List Event) : Type 0 where
  waits : List Entry
  all : record_of start events ≡ waits ++ record_of start older
  are : Waits (now (replay start events)) waits
  later : now (replay start older) ≤ now (replay start events)

one_passed : (start : World) (older events : List Event) (e : Event) → Passes (replay start events) e → FullWaits start older events → FullWaits start older (e ∷ events)
one_passed start older events e (inl none) f =
    let falls = never_falls (replay start events) e in
    record {
      waits = f.waits;
      all = rw none f.all;
      are = waits_later (now (replay start events)) (now (replay start (e ∷ events))) f.waits falls f.are;
      later = let h = f.later in omega arith;
    }
one_passed start older events e (inr quiet) f =
    let falls = never_falls (replay start events) e in
    let at : ℕ = now (replay start (e ∷ events)) in
    record {
      waits = entry Quiet at ∷ f.waits;
      all = rw quiet.0 (ap (λ (l : List Entry). entry Quiet at ∷ l) f.all);
      are = (refl, omega arith, waits_later (now (replay start events)) at f.waits falls f.are);
      later = let h = f.later in omega arith;
    }

full_waits : (start : World) (older events : List Event) → GoesOn start older events → FullWaits start older events
full_waits start older events Same = record { waits = []; all = refl; are = tt; later = omega arith }
full_waits start older events (More {events = rest} e is may g) = one_passed start older rest e (passes (replay start rest) e is) (full_waits start older rest g)

-- ---- what a poll adds: quiet waits, and then what it brings

record Brought (clock : Clock) (what : Item) (r : List Entry) (after : Story) : Type 0 where
  waits : List Entry
  until : ℕ
  are : Waits until waits
  ends : EndsBy clock what quiet_ms (newest_time r) until waits
  told : recorded after ≡ Recorded clock (entry what until ∷ (waits ++ r))
  time : IsAt after until

brought : (clock : Clock) (what : Item) (until : ℕ) (before after : Story) (r : List Entry) → is_poll what ≡ true → Awake clock before r → Polls what quiet_ms until before after → Brought clock what r after
brought clock what until before Untold r poll a h = none_told before clock r h a.told
brought clock what until before (Recorded own all) r poll a h =
    let told : Recorded own h.0 ≡ Recorded clock r = sym (ap recorded h.1) ∙ a.told in
    let p : PollsRecord own what quiet_ms until r all = subst (λ (l : List Entry). PollsRecord own what quiet_ms until l all) (same_record own clock h.0 r told) h.2 in
    subst (λ (c : Clock). Brought c what r (Recorded own all)) (same_clock own clock h.0 r told) (record {
      waits = p.waits;
      until = until;
      are = record_waits (newest_time r) until p.waits p.are p.later;
      ends = p.ends;
      told = ap (λ (l : List Entry). Recorded own l) p.all;
      time = ap newest_time p.all;
    })
brought clock what until' before (Full start events) r poll a h =
    let told : Recorded Exact (record_of start h.0) ≡ Recorded clock r = sym (ap recorded h.1) ∙ a.told in
    let same : record_of start h.0 ≡ r = same_record Exact clock (record_of start h.0) r told in
    let time : now (replay start h.0) ≡ newest_time r = subst (λ (s : Story). IsAt s (newest_time r)) h.1 a.time in
    let f = full_waits start h.0 h.2.events h.2.foreign in
    let falls = never_falls (replay start h.2.events) h.2.last in
    let until : ℕ = now (replay start (h.2.last ∷ h.2.events)) in
    let ends : EndsAt what quiet_ms (now (replay start h.0)) (now (replay start events)) = ends_full what quiet_ms (now (replay start h.0)) (now (replay start events)) h.2.last poll h.2.ends in
    let last : record_of start (h.2.last ∷ h.2.events) ≡ entry what until ∷ record_of start h.2.events = ap (λ (o : Option Item). noted o until (record_of start h.2.events)) h.2.brings in
    subst (λ (c : Clock). Brought c what r (Full start events)) (same_clock Exact clock (record_of start h.0) r told) (record {
      waits = f.waits;
      until = until;
      are = waits_later (now (replay start h.2.events)) until f.waits falls f.are;
      ends = subst (λ (n : ℕ). EndsAt what quiet_ms n until) time (subst (λ (es : List Event). EndsAt what quiet_ms (now (replay start h.0)) (now (replay start es))) h.2.all ends);
      told = ap (λ (es : List Event). Recorded Exact (record_of start es)) h.2.all ∙ ap (λ (l : List Entry). Recorded Exact l) last
          ∙ ap (λ (l : List Entry). Recorded Exact (entry what until ∷ l)) (f.all ∙ ap (λ (l : List Entry). f.waits ++ l) same);
      time = ap (λ (es : List Event). now (replay start es)) h.2.all;
    })

-- no poll ends later than its wait, by an exact clock
ends_in_time : (what : Item) (wait since until : ℕ) → EndsAt what wait since until → until ≤ since + wait
ends_in_time (Put octets) wait since until h = h
ends_in_time Renewed wait since until h = h
ends_in_time (Got octets) wait since until h = h
ends_in_time Quiet wait since until h = omega (arith, h)

module _ (what : Item) (until : ℕ) (r : List Entry) (newest : before_quiet r ≡ r) where
  poll_listens : (clock : Clock) (waits : List Entry) → is_poll what ≡ true → Waits until waits → EndsBy clock what quiet_ms (newest_time r) until waits → Listens clock r (entry what until ∷ waits)
  poll_listens Exact waits poll w ends =
      let behind : before_quiet (waits ++ r) ≡ r = behind_waits until waits r w ∙ newest in
      let le : until ≤ newest_time r + quiet_ms = ends_in_time what quiet_ms (newest_time r) until ends in
      (poll, rw behind le, waits_listen until waits r newest le w)
  poll_listens Running [] poll w ends = (poll, newest, tt)
  poll_listens Running (x ∷ waits) poll w ends = absurd cc

was_so_quiet : (clock : Clock) (until : ℕ) (waits r : List Entry) → before_quiet r ≡ r → Waits until waits → EndsBy clock Quiet quiet_ms (newest_time r) until waits → IsQuietFor clock quiet_ms (entry Quiet until ∷ (waits ++ r))
was_so_quiet Exact until waits r newest w ends = let behind : before_quiet (waits ++ r) ≡ r = behind_waits until waits r w ∙ newest in rw behind ends
was_so_quiet Running until waits r newest w ends = refl

module _ (clock : Clock) (r : List Entry) (newest : before_quiet r ≡ r) (after : Story) where
  -- a datagram
  came_of : (octets : List ℕ) → Brought clock (Got octets) r after → Came clock octets r after
  came_of octets b = record {
    polls = entry (Got octets) b.until ∷ b.waits;
    grew = record { told = b.told; listens = poll_listens (Got octets) b.until r newest clock b.waits refl b.are b.ends };
    awake = record { told = b.told; time = b.time; newest = refl };
    got = rw (none_got b.until b.waits b.are) refl;
  }

  -- a quiet wait
  quiet_of : Brought clock Quiet r after → (n : NoneCame clock r after) × IsQuietFor clock quiet_ms (n.polls ++ r)
  quiet_of b = (
    record {
      polls = entry Quiet b.until ∷ b.waits;
      grew = record { told = b.told; listens = poll_listens Quiet b.until r newest clock b.waits refl b.are b.ends };
      got = rw (none_got b.until b.waits b.are) refl;
    },
    was_so_quiet clock b.until b.waits r newest b.are b.ends,
  )

pub polled_came : (clock : Clock) (octets : List ℕ) (until : ℕ) (before after : Story) (r : List Entry) → Awake clock before r → Polls (Got octets) quiet_ms until before after → Came clock octets r after
polled_came clock octets until before after r a h = came_of clock r a.newest after octets (brought clock (Got octets) until before after r refl a h)

pub polled_quiet : (clock : Clock) (until : ℕ) (before after : Story) (r : List Entry) → Awake clock before r → Polls Quiet quiet_ms until before after
    → (n : NoneCame clock r after) × IsQuietFor clock quiet_ms (n.polls ++ r)
polled_quiet clock until before after r a h = quiet_of clock r a.newest after (brought clock Quiet until before after r refl a h)

-- one that fails
pub polled_nothing : (clock : Clock) (before after : Story) (r : List Entry) → Awake clock before r → PollsNothing quiet_ms before after → NoneCame clock r after
polled_nothing clock before Untold r a h = none_told before clock r h a.told
polled_nothing clock before (Recorded own all) r a h = record { polls = []; grew = record { told = sym (ap recorded h) ∙ a.told; listens = tt }; got = refl }
polled_nothing clock before (Full start events) r a h =
    let told : Recorded Exact (record_of start h.0) ≡ Recorded clock r = sym (ap recorded h.1) ∙ a.told in
    let same : record_of start h.0 ≡ r = same_record Exact clock (record_of start h.0) r told in
    let time : now (replay start h.0) ≡ newest_time r = subst (λ (s : Story). IsAt s (newest_time r)) h.1 a.time in
    let f = full_waits start h.0 events h.2.foreign in
    subst (λ (c : Clock). NoneCame c r (Full start events)) (same_clock Exact clock (record_of start h.0) r told) (record {
      polls = f.waits;
      grew = record {
        told = ap (λ (l : List Entry). Recorded Exact l) (f.all ∙ ap (λ (l : List Entry). f.waits ++ l) same);
        listens = waits_listen (now (replay start events)) f.waits r a.newest (let k = h.2.in_time in omega arith) f.are;
      };
      got = none_got (now (replay start events)) f.waits f.are;
    })

-- ---- a sending

pub record SentOne (clock : Clock) (octets : List ℕ) (r : List Entry) (after : Story) : Type 0 where
  pub request : Entry
  pub put : request.what ≡ Put octets
  pub awake : Awake clock after (request ∷ r)

pub sent_one : (clock : Clock) (octets : List ℕ) (before after : Story) (r : List Entry) → recorded before ≡ Recorded clock r → Sends octets before after → SentOne clock octets r after
sent_one clock octets before Untold r told h = none_told before clock r h told
sent_one clock octets before (Recorded own all) r told h =
    let both : Recorded own h.0 ≡ Recorded clock r = sym (ap recorded h.1) ∙ told in
    let same : h.0 ≡ r = same_record own clock h.0 r both in
    let is : all ≡ entry (Put octets) (newest_time h.0) ∷ r = h.2 ∙ ap (λ (l : List Entry). entry (Put octets) (newest_time h.0) ∷ l) same in
    subst (λ (c : Clock). SentOne c octets r (Recorded own all)) (same_clock own clock h.0 r both) (record {
      request = entry (Put octets) (newest_time h.0);
      put = refl;
      awake = record { told = ap (λ (l : List Entry). Recorded own l) is; time = ap newest_time is; newest = refl };
    })
sent_one clock octets before (Full start events) r told h =
    let both : Recorded Exact (record_of start h.0) ≡ Recorded clock r = sym (ap recorded h.1) ∙ told in
    let same : record_of start h.0 ≡ r = same_record Exact clock (record_of start h.0) r both in
    let at : ℕ = now (replay start (Send octets ∷ h.0)) in
    subst (λ (c : Clock). SentOne c octets r (Full start events)) (same_clock Exact clock (record_of start h.0) r both) (record {
      request = entry (Put octets) at;
      put = refl;
      awake = record {
        told = ap (λ (es : List Event). Recorded Exact (record_of start es)) h.2 ∙ ap (λ (l : List Entry). Recorded Exact (entry (Put octets) at ∷ l)) same;
        time = ap (λ (es : List Event). now (replay start es)) h.2;
        newest = refl;
      };
    })

-- ---- what tells nothing stays so

adds_untold : (octets : List ℕ) (before after : Story) → Sends octets before after → before ≡ Untold → after ≡ Untold
adds_untold octets before Untold h e = refl
adds_untold octets before (Recorded clock r) h e = absurd (let k : Untold ≡ Recorded clock h.0 = sym e ∙ h.1 in cc)
adds_untold octets before (Full start events) h e = absurd (let k : Untold ≡ Full start h.0 = sym e ∙ h.1 in cc)

got_untold : (what : Item) (wait until : ℕ) (before after : Story) → Polls what wait until before after → before ≡ Untold → after ≡ Untold
got_untold what wait until before Untold h e = refl
got_untold what wait until before (Recorded clock r) h e = absurd (let k : Untold ≡ Recorded clock h.0 = sym e ∙ h.1 in cc)
got_untold what wait until before (Full start events) h e = absurd (let k : Untold ≡ Full start h.0 = sym e ∙ h.1 in cc)

nothing_untold : (wait : ℕ) (before after : Story) → PollsNothing wait before after → before ≡ Untold → after ≡ Untold
nothing_untold wait before Untold h e = refl
nothing_untold wait before (Recorded clock r) h e = absurd (let k : Untold ≡ Recorded clock r = sym e ∙ h in cc)
nothing_untold wait before (Full start events) h e = absurd (let k : Untold ≡ Full start h.0 = sym e ∙ h.1 in cc)

pub polls_untold : (r : Result Polled LinkFault) (into : List ℕ) (wait until : ℕ) (before after : Story) → PollsSo r into wait until before after → before ≡ Untold → after ≡ Untold
polls_untold (Ok (answer.Got n)) into wait until before after h e = got_untold (Got (take n into)) wait until before after h.1 e
polls_untold (Ok answer.Quiet) into wait until before after h e = got_untold Quiet wait until before after h e
polls_untold (Err fault) into wait until before after h e = nothing_untold wait before after h e

pub sends_untold : {T E : Type 0} (r : Result T E) (octets : List ℕ) (before after : Story) → OnOk r (Sends octets before after) → OnErr r (SendsOrNot octets before after) → before ≡ Untold → after ≡ Untold
sends_untold (Ok x) octets before after sent failed e = adds_untold octets before after sent e
sends_untold (Err x) octets before after sent (inl h) e = adds_untold octets before after h e
sends_untold (Err x) octets before after sent (inr h) e = h ∙ e

-- ---- what a poll answers

pub got_so : (what : Polled) (n : ℕ) (into : List ℕ) (wait clock : ℕ) (before after : Story) → what ≡ answer.Got n → PollsSo (Ok what) into wait clock before after → Polls (Got (take n into)) wait clock before after
got_so (answer.Got m) n into wait clock before after same h = subst (λ (k : ℕ). Polls (Got (take k into)) wait clock before after) (let e : (m ≡ n) = (let q = same in cc) in e) h.1
got_so answer.Quiet n into wait clock before after same h = absurd (cc)

pub quiet_so : (what : Polled) (into : List ℕ) (wait clock : ℕ) (before after : Story) → what ≡ answer.Quiet → PollsSo (Ok what) into wait clock before after → Polls Quiet wait clock before after
quiet_so (answer.Got m) into wait clock before after same h = absurd (cc)
quiet_so answer.Quiet into wait clock before after same h = h
