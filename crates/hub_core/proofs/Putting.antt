-- What is told is kept over a request that is put where the place in flight is free.
use Rattle.std.proofs.Common.{◌≡◌, ◌≢◌, ℕ, ◌<◌, ◌≤◌, ◌⊎◌, inl, inr, Bool, true, false, List, [], ◌∷◌, ◌++◌, Option, Some, None, Result, Ok, Err, refl, sym, ap, subst, ◌∙◌, cond, arith}
use Rattle.std.specs.List.{AllByRecursion}
use Rattle.line_model.specs.declared.fault.HubFault.{HubFault}
use Rattle.line_model.specs.Record.{Item, Put, Renewed, Got, Quiet, entry, Placed, entries, is_got}
use Rattle.line_model.specs.declared.group.GroupTurn.{GroupTurn}
use Rattle.line_model.specs.declared.log.LogEntry.{LogEntry}
use Rattle.line_model.specs.LinkStory.{Story, places_in, newest_time, IsPlace}
use Rattle.line_model.specs.Moments.{Moment, moments, time}
use Rattle.line_model.specs.Log.{Job}
use Rattle.line_model.specs.Signs.{Every}
use Rattle.line_model.specs.ClientView.{ClientChannel, Fresh, Sought, RefusedBy, Unanswered, Open, Lost, Deed, Puts, Takes, Loses, Nothing, own_address, as_counted, channel, deed, deed_of}
use Rattle.line_model.specs.ChannelLost.{is_lost, last_frame, delivers, expected}
use Rattle.line_model.specs.Reading.{RequestFrame, request_in}
use Rattle.line_model.specs.Asks.{HasPlace, IsRightRequest, moment_of}
use Rattle.line_model.specs.Ends.{BeginsSo}
use Rattle.tunnel_link.specs.Adds.{place_of, moments_on, Added, Growing, PutsNone, PutsIt, PutsOne}
use Rattle.tunnel_link.specs.Goes.{GoesOn}
use Rattle.tunnel_link.specs.Rights.{IsOfTunnel}
use Rattle.hub_work.specs.declared.work.Work.{Work}
use Rattle.hub_work.specs.declared.answers.Turned.{Turned}
use Rattle.hub_work.specs.declared.telegrams.Stage.TheVariants as stage
use Rattle.hub_work.specs.declared.work.turn.Turn.TheVariants as turn
use Rattle.hub_work.specs.Fits.{Fits, in_flight}
use Rattle.hub_work.specs.Follows.{IsNew, PutFollows, TurnFollows, TellsTruly, TelegramIsRight, TelegramFollows}
use Rattle.hub_work.specs.Telegrams.{IsNextRequest}
use Rattle.hub_work.specs.Works.{KeepsBooks}
use Rattle.hub_work.proofs.Undecided.{telegram_begins}
use Rattle.hub_core.specs.Discipline.{Asks, TellsAndAsks}
use Rattle.hub_core.specs.Keeps.{HasOwnCause, KeepsTold, Keeps}
use Rattle.hub_core.proofs.Calls.{added_to, not_none, same_refl, same_some, own_of_tunnel}
use Rattle.hub_core.proofs.Counting.{place_counts, place_grows}
use Rattle.hub_core.proofs.Following.{newest}
use Rattle.hub_core.proofs.Keeps.{books_later, tells_same, same_log, Tolds, HastensOn, Opens, Stays, moved}
use Rattle.hub_core.proofs.Quiet.{quiet_told, quiet_runs}
use Rattle.tunnel_link.proofs.PutLast.{counted_puts}
use Rattle.hub_core.proofs.Requests.{Each, Single, single, request_right}
use Rattle.hub_core.proofs.Taking.{NoneGot}
use Rattle.hub_core.specs.Taking.{SameWork}
use Rattle.hub_core.proofs.Telling.{goes_on}

-- ---- what puts a request isn't got

takes_only : (does : Bool) (request : Option RequestFrame) (cemi : List ℕ) → deed_of Takes does request ≢ Puts cemi
takes_only does None cemi e = let z : Nothing ≡ Puts cemi = e in cc
takes_only true (Some r) cemi e = let z : Takes r.cemi ≡ Puts cemi = e in cc
takes_only false (Some r) cemi e = let z : Nothing ≡ Puts cemi = e in cc

got_puts : (ch : ClientChannel) (octets : List ℕ) (now : ℕ) (cemi : List ℕ) → deed ch (entry (Got octets) now) ≢ Puts cemi
unfolding deed
got_puts Fresh octets now cemi e = let z : Nothing ≡ Puts cemi = e in cc
got_puts (Sought since) octets now cemi e = let z : Nothing ≡ Puts cemi = e in cc
got_puts (RefusedBy status) octets now cemi e = let z : Nothing ≡ Puts cemi = e in cc
got_puts Unanswered octets now cemi e = let z : Nothing ≡ Puts cemi = e in cc
got_puts (Open c l) octets now cemi e = by_loss (is_lost c l (entry (Got octets) now)) e where
  by_loss : (b : Bool) → cond {A = Deed} b Loses (as_counted (own_address l) (last_frame c l) (deed_of Takes (delivers c (expected c l) (request_in (Rattle.line_model.specs.Record.got_in (Got octets)))) (request_in (Rattle.line_model.specs.Record.got_in (Got octets))))) ≡ Puts cemi → ⊥
  by_loss true e = let z : Loses ≡ Puts cemi = e in cc
  by_loss false e = takes_only (delivers c (expected c l) (request_in (Rattle.line_model.specs.Record.got_in (Got octets)))) (request_in (Rattle.line_model.specs.Record.got_in (Got octets))) cemi (counted_puts (own_address l) (last_frame c l) (deed_of Takes (delivers c (expected c l) (request_in (Rattle.line_model.specs.Record.got_in (Got octets)))) (request_in (Rattle.line_model.specs.Record.got_in (Got octets)))) cemi e)
got_puts (Lost c) octets now cemi e = let z : Nothing ≡ Puts cemi = e in cc

puts_got : (ch : ClientChannel) (what : Item) (now : ℕ) (cemi : List ℕ) → deed ch (entry what now) ≡ Puts cemi → is_got what ≡ false
puts_got ch (Put octets) now cemi e = refl
puts_got ch Renewed now cemi e = refl
puts_got ch (Got octets) now cemi e = absurd (got_puts ch octets now cemi e)
puts_got ch Quiet now cemi e = refl

-- ---- a request

module _ (s t : Story) (goes : GoesOn s t) (w v : Work) (met : Bool) (jobs : List Job) (old added new : List Placed) (cemi : List ℕ) (now at : ℕ) (then : now ≡ time (moments old)) (there : at ≡ place_of s)
    (turns : v.telegrams.turns ≡ w.telegrams.turns) (logs : v.journal.entries ≡ w.journal.entries) (books : KeepsBooks at v)
    (asks : (m : Moment) → m.now ≡ now → at ≤ m.at → m.what ≡ Puts cemi → IsRightRequest jobs v.telegrams.turns v.journal.entries old m cemi)
    (begins : (m : Moment) → at ≤ m.at → m.what ≡ Puts cemi → BeginsSo jobs v.journal.entries old m)
    (fits : (m : Moment) (later : ℕ) → m.what ≡ Puts cemi → IsNew m now at later → Fits jobs v now later (m ∷ moments old))
    (a : Added (place_of s) (place_of t) old added new) (k : KeepsTold jobs w met None (place_of s) old) where
  abbrev it : Moment
  it = record { what = Puts cemi; now = newest_time (entries old); at = place_of t }

  le : place_of s ≤ place_of t
  le = place_grows s t goes

  here : KeepsBooks (place_of s) v
  here = subst (λ (n : ℕ). KeepsBooks n v) there books

  module _ (puts : PutsIt cemi (place_of t) old added) where
    one : Single old added it
    one = single old added it puts

    what_is : (moment_of old one.p).what ≡ Puts cemi
    what_is = ap (λ (m : Moment). m.what) one.is

    above : place_of s < one.p.at
    above = (subst (λ (xs : List Placed). AllByRecursion (λ (p : Placed). place_of s < p.at) xs) one.added_is a.above).0

    at_is : one.p.at ≡ place_of t
    at_is = ap (λ (m : Moment). m.at) one.is

    right : Asks jobs v.telegrams.turns v.journal.entries old one.p
    right = request_right jobs v.telegrams.turns v.journal.entries old one.p cemi what_is
        (asks (moment_of old one.p) (ap (λ (m : Moment). m.now) one.is ∙ (newest old ∙ sym then)) (let f = above in omega (arith, f, there)) what_is)
        (begins (moment_of old one.p) (let f = above in omega (arith, f, there)) what_is)

    tells : TellsAndAsks jobs v.telegrams.turns v.journal.entries (place_of t) new
    tells =
        subst (λ (l : List Placed). TellsAndAsks jobs v.telegrams.turns v.journal.entries (place_of t) l) (sym a.grow)
        (goes_on jobs v.telegrams.turns v.journal.entries (place_of s) (place_of t) added old le a.above
        (subst (λ (xs : List Placed). Each (Asks jobs v.telegrams.turns v.journal.entries) xs old) (sym one.added_is) (right, tt))
        (tells_same jobs w v (place_of s) old turns logs k.tells))

    none_got : NoneGot added
    none_got = subst NoneGot (sym one.added_is) (puts_got (channel (entries old)) one.p.what.what one.p.what.now cemi what_is, tt)

    fitting : Fits jobs v (time (moments new)) (place_of t) (moments new)
    fitting =
        let all : moments new ≡ it ∷ moments old = a.moments_grow ∙ ap (λ z. z ++ moments old) puts in
        let when : newest_time (entries old) ≡ now = newest old ∙ sym then in
        let f : Fits jobs v now (place_of t) (it ∷ moments old) = fits it (place_of t) refl (record { time = when; after = (let g = above in let e = at_is in omega (arith, g, e, there)); within = omega arith }) in
        subst (λ (l : List Moment). Fits jobs v (time l) (place_of t) l) (sym all) (subst (λ (n : ℕ). Fits jobs v n (place_of t) (it ∷ moments old)) (sym when) f)

    pub put_told : (g : Option HubFault) → ((why : HubFault) → g ≡ Some why → HasOwnCause jobs v.journal.entries (entries new) why) → KeepsTold jobs v met g (place_of t) new
    put_told g cause = record {
      books = books_later (place_of s) (place_of t) v le here;
      tells = tells;
      runs = λ none. quiet_runs (place_of s) (place_of t) old added new a le jobs w v met logs none_got fitting (k.runs refl);
      cause = cause;
    }

  pub unput_told : (g : Option HubFault) (fault : HubFault) → g ≡ Some fault → ((why : HubFault) → g ≡ Some why → HasOwnCause jobs v.journal.entries (entries new) why) → added ≡ [] → KeepsTold jobs v met g (place_of t) new
  unput_told g fault is cause none =
      quiet_told (place_of s) (place_of t) old added new a le jobs w v met met g turns logs here (subst (λ (xs : List Placed). Every PutsNone (moments_on old xs)) (sym none) tt) (λ no. absurd (not_none g fault is no)) cause k

-- ---- what a call that puts comes to

-- of each told record: what is asked and what fits then, and that there is a place
pub record PutsSo (s : Story) (w v : Work) (cemi : List ℕ) (at : ℕ) (jobs : List Job) (old : List Placed) : Type 0 where
  pub there : at ≡ place_of s
  pub place : HasPlace (channel (entries old))
  pub asks : (m : Moment) → m.now ≡ time (moments old) → at ≤ m.at → m.what ≡ Puts cemi → IsRightRequest jobs v.telegrams.turns v.journal.entries old m cemi
  pub begins : (m : Moment) → at ≤ m.at → m.what ≡ Puts cemi → BeginsSo jobs v.journal.entries old m
  pub fits : (m : Moment) (later : ℕ) → m.what ≡ Puts cemi → IsNew m (time (moments old)) at later → Fits jobs v (time (moments old)) later (m ∷ moments old)

module _ (p q : ℕ) (s t : Story) (w v : Work) (met : Bool) (f g : Option HubFault) (none : f ≡ None) (le : p ≤ q) (goes : GoesOn s t) (cemi : List ℕ) (at : ℕ) (at_place : at ≡ p)
    (stays : Stays w v) (books : KeepsBooks at v) (hastens : HastensOn s t w)
    (so : (jobs : List Job) (old : List Placed) → places_in s ≡ Some old → Fits jobs w (time (moments old)) (place_of s) (moments old) → PutsSo s w v cemi at jobs old) where
  abbrev Adding : Result (Unit {0}) HubFault → Type 0
  Adding result = Growing (PutsOne {X = Unit {0}} result cemi (place_of t)) s t

  books_then : KeepsBooks q v
  books_then = books_later at q v (omega (arith, at_place, le)) books

  pub put_done : (x : Unit {0}) → Adding (Ok x) → g ≡ None → Opens s t w v g → Keeps p s w met f → Keeps q t v met g
  put_done x adds stands opens k = moved p q s t w v met met f g none stays books_then goes told hastens opens k where
    told : Tolds s t w v met met g
    told jobs old new are es et k =
        let how : PutsSo s w v cemi at jobs old = so jobs old es (k.runs refl).fits in
        put_told s t goes w v met jobs old (adds old es).added new cemi (time (moments old)) at refl how.there stays.turns stays.logs books how.asks how.begins how.fits
        (added_to s t w w met (PutsOne {X = Unit {0}} (Ok x) cemi (place_of t)) goes (same_refl w) adds old new es et) k ((adds old es).is how.place) g (λ why e. absurd (not_none g why e stands))

  pub put_failed : (fault : HubFault) → Adding (Err fault) → g ≡ Some fault → IsOfTunnel fault → Keeps p s w met f → Keeps q t v met g
  put_failed fault adds is tunnel k = moved p q s t w v met met f g none stays books_then goes told hastens (λ stands asked. absurd (not_none g fault is stands)) k where
    told : Tolds s t w v met met g
    told jobs old new are es et k = by_put ((adds old es).is how.place) where
      how : PutsSo s w v cemi at jobs old
      how = so jobs old es (k.runs refl).fits

      a : Added (place_of s) (place_of t) old (adds old es).added new
      a = added_to s t w w met (PutsOne {X = Unit {0}} (Err fault) cemi (place_of t)) goes (same_refl w) adds old new es et

      cause : (why : HubFault) → g ≡ Some why → HasOwnCause jobs v.journal.entries (entries new) why
      cause why e = subst (HasOwnCause jobs v.journal.entries (entries new)) (same_some g fault why is e) (own_of_tunnel jobs v.journal.entries (entries new) fault tunnel)

      by_put : ((adds old es).added ≡ []) ⊎ PutsIt cemi (place_of t) old (adds old es).added → KeepsTold jobs v met g (place_of t) new
      by_put (inl nothing) = unput_told s t goes w v met jobs old (adds old es).added new cemi (time (moments old)) at refl how.there stays.turns stays.logs books how.asks how.begins how.fits a k g fault is cause nothing
      by_put (inr puts) = put_told s t goes w v met jobs old (adds old es).added new cemi (time (moments old)) at refl how.there stays.turns stays.logs books how.asks how.begins how.fits a k puts g cause

-- ---- of a worker's turn, and of a group telegram

pub turn_so : (s : Story) (w v : Work) (cemi : List ℕ) (now at : ℕ) (jobs : List Job) (old : List Placed) → places_in s ≡ Some old → IsPlace at s → now ≡ newest_time (entries old) → HasPlace (channel (entries old)) → in_flight (moments old) ≡ false
    → TurnFollows now at w v (turn.Puts cemi) → Fits jobs w (time (moments old)) (place_of s) (moments old) → PutsSo s w v cemi at jobs old
turn_so s w v cemi now at jobs old es is then place free follows fits =
    let there : at ≡ place_of s = place_counts at s old es is in
    let when : now ≡ time (moments old) = then ∙ newest old in
    let f : Fits jobs w now at (moments old) = subst (λ (n : ℕ). Fits jobs w n at (moments old)) (sym when) (subst (λ (n : ℕ). Fits jobs w (time (moments old)) n (moments old)) (sym there) fits) in
    let puts : PutFollows jobs old now at v cemi = (follows jobs old f).0 free in
    record {
      there = there;
      place = place;
      asks = λ m e le what. puts.asks m (e ∙ sym when) le place;
      begins = puts.begins;
      fits = λ m later what new. subst (λ (n : ℕ). Fits jobs v n later (m ∷ moments old)) when (puts.fits m later what (record { time = new.time ∙ sym when; after = new.after; within = new.within }));
    }

pub turn_did : (w v : Work) (now at : ℕ) (jobs : List Job) (places : List Placed) (turned : Turned) → now ≡ newest_time (entries places) → TurnFollows now at w v (turn.Did turned) → Fits jobs w (time (moments places)) at (moments places)
    → Fits jobs v (time (moments places)) at (moments places) × TellsTruly jobs places w v
turn_did w v now at jobs places turned then follows fits =
    let when : now ≡ time (moments places) = then ∙ newest places in
    let both : Fits jobs v now at (moments places) × TellsTruly jobs places w v = follows jobs places (subst (λ (n : ℕ). Fits jobs w n at (moments places)) (sym when) fits) in
    (subst (λ (n : ℕ). Fits jobs v n at (moments places)) when both.0, both.1)

pub telegram_so : (s : Story) (w v : Work) (cemi : List ℕ) (at : ℕ) (jobs : List Job) (old : List Placed) → places_in s ≡ Some old → IsPlace at s → HasPlace (channel (entries old)) → in_flight (moments old) ≡ false → KeepsBooks at w → w.telegrams.stage ≡ stage.Unput
    → TelegramIsRight w cemi → TelegramFollows w v → IsNextRequest w.telegrams cemi → SameWork w v → Fits jobs w (time (moments old)) (place_of s) (moments old) → PutsSo s w v cemi at jobs old
telegram_so s w v cemi at jobs old es is place free books unput right follows next same fits =
    let there : at ≡ place_of s = place_counts at s old es is in
    let f : Fits jobs w (time (moments old)) at (moments old) = subst (λ (n : ℕ). Fits jobs w (time (moments old)) n (moments old)) (sym there) fits in
    record {
      there = there;
      place = place;
      asks = λ m e le what.
          subst (λ (ts : List GroupTurn). IsRightRequest jobs ts v.journal.entries old m cemi) (sym same.turns)
          (subst (λ (l : List LogEntry). IsRightRequest jobs w.telegrams.turns l old m cemi) (sym (same_log w v same)) (right jobs old (time (moments old)) at m books f unput what le place));
      begins = λ m le what. telegram_begins jobs v.journal.entries old w.telegrams cemi m next what;
      fits = λ m later what new. follows jobs (time (moments old)) at later cemi m (moments old) books f free unput next what new;
    }
