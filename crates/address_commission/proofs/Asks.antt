-- A request is put, and waited for.
use Rattle.std.proofs.Common.{◌≡◌, ◌≢◌, ℕ, ◌+◌, ◌-◌, ◌<◌, ◌≤◌, List, [], ◌∷◌, ◌++◌, Bool, true, false, cond, Option, Some, None, Result, Ok, Err, refl, sym, ◌∙◌, ap, subst, inl, inr, ◌⊎◌, arith}
use Rattle.std.specs.Prelude.{OnOk}
use Rattle.std.proofs.lemmas.Bool.{ltb-true, ltb-false}
use Rattle.std.proofs.Math.Dec.{ltb}
use Rattle.std.proofs.lemmas.List.{append-nil}
use Rattle.knx_model.specs.declared.address.IndAddr.{IndAddr}
use Rattle.knx_model.specs.ApduReading.{apdu_in, tpdu_in, service_in}
use Rattle.line_model.specs.declared.fault.HubFault.{HubFault}
use Rattle.line_model.specs.Reading.{ldata_in, RequestFrame, request_in}
use Rattle.line_model.specs.Record.{Item, Put, Renewed, Got, Quiet, entry, Placed, entries, is_got, got_in}
use Rattle.line_model.specs.Leaves.{StaysOpen}
use Rattle.line_model.specs.LinkStory.{Story, Clock, Exact, clock_of, newest_time}
use Rattle.line_model.specs.Asks.{moment_of}
use Rattle.line_model.specs.ChannelLost.{is_lost, last_frame, delivers, expected}
use Rattle.line_model.specs.ClientView.{ClientChannel, Fresh, Sought, RefusedBy, Unanswered, Open, Lost, Deed, Puts, Takes, Loses, own_address, as_counted, channel, deed, deed_of, deed_in}
use Rattle.line_model.specs.Faults.{datagrams_taken, flood}
use Rattle.line_model.specs.Moments.{Moment, moments}
use Rattle.tunnel_link.proofs.PutLast.{counted_puts}
use Rattle.tunnel_link.specs.Adds.{Growing, PutsIt, PutsOne, moments_on}
use Rattle.tunnel_link.specs.Alone.{Each, EndsNone}
use Rattle.tunnel_link.specs.Goes.{GoesOn}
use Rattle.tunnel_link.specs.Paces.{TakesNoTime}
use Rattle.address_world.specs.declared.asked.Asked.{Asked}
use Rattle.address_world.specs.declared.asked.Asked.TheVariants.{Read, Connect, Disconnect, Write}
use Rattle.address_world.specs.Keeps.{frame_of}
use Rattle.address_talk.specs.declared.assigned.AssignFault.{AssignFault}
use Rattle.address_commission.specs.declared.ear.Ear.{Ear}
use Rattle.address_commission.specs.declared.ear.Heard.TheVariants as ear
use Rattle.address_talk.specs.Rounds.{Round, begun, rounds, is_read, answers, quiet_since, has_lost, GoOn, SameRounds}
use Rattle.address_talk.specs.Talk.{MayAsk, ReadsFirst, Connects, Disconnects, Writes, ReadsLast, AsksRightly, DoesRightly, TalksRightly, HeardOut, HeardOutBy, listening_wait}
use Rattle.address_talk.specs.Pace.{Paced}
use Rattle.address_commission.specs.Going.{Going, OneMore, AsksOne}
use Rattle.address_commission.specs.Listening.{HeardSo, HearsRounds, Listens, HasWaited, IsTurnTo, IsOut, ListensFor, AwaitsFor, quiet_after}
use Rattle.address_talk.specs.Ends.{Stands, FailsSo}
use Rattle.address_commission.specs.Calls.{ToldAs, CausedBy, AsksGoes, TalkGoes}
use Rattle.address_commission.proofs.Calls.{before, paced_on, paced_so_far, stays_open_on}
use Rattle.address_commission.proofs.Folds.{NoGot, quiet_on, count_on}
use Rattle.address_commission.proofs.Steps.{step_of}
use Rattle.address_commission.specs.Exact.{WhereClock}
use Rattle.tunnel_link.specs.Rights.{WhereTold}

-- ---- which frames are reads

pub read_is : (wanted : IndAddr) → is_read (Some (frame_of wanted Read)) ≡ true
unfolding service_in tpdu_in apdu_in
read_is wanted = refl

connect_isnt : (wanted : IndAddr) → is_read (Some (frame_of wanted Connect)) ≡ false
connect_isnt wanted = refl

disconnect_isnt : (wanted : IndAddr) → is_read (Some (frame_of wanted Disconnect)) ≡ false
disconnect_isnt wanted = refl

write_isnt : (wanted : IndAddr) → is_read (Some (frame_of wanted Write)) ≡ false
unfolding service_in tpdu_in apdu_in
write_isnt wanted = refl

pub other_isnt : (wanted : IndAddr) (asked : Asked) → (asked ≡ Read → ⊥) → is_read (Some (frame_of wanted asked)) ≡ false
other_isnt wanted Read h = absurd (h refl)
other_isnt wanted Connect h = connect_isnt wanted
other_isnt wanted Disconnect h = disconnect_isnt wanted
other_isnt wanted Write h = write_isnt wanted

-- ---- what is put isn't got

takes_not : (test : Bool) (o : Option RequestFrame) (cemi : List ℕ) → deed_of Takes test o ≡ Puts cemi → ⊥
takes_not test None cemi e = cc
takes_not true (Some request) cemi e = cc
takes_not false (Some request) cemi e = cc

unless_lost : (t : Bool) (d : Deed) (cemi : List ℕ) → (d ≡ Puts cemi → ⊥) → cond t Loses d ≡ Puts cemi → ⊥
unless_lost true d cemi h e = cc
unless_lost false d cemi h e = h e

got_not_put : (ch : ClientChannel) (octets : List ℕ) (now : ℕ) (cemi : List ℕ) → deed ch (entry (Got octets) now) ≡ Puts cemi → ⊥
unfolding deed
got_not_put Fresh octets now cemi e = cc
got_not_put (Sought since) octets now cemi e = cc
got_not_put (RefusedBy status) octets now cemi e = cc
got_not_put Unanswered octets now cemi e = cc
got_not_put (Lost c) octets now cemi e = cc
got_not_put (Open c l) octets now cemi e =
    unless_lost (is_lost c l (entry (Got octets) now)) (as_counted (own_address l) (last_frame c l) (deed_in c l (entry (Got octets) now))) cemi
    (λ d. takes_not (delivers c (expected c l) (request_in (got_in (Got octets)))) (request_in (got_in (Got octets))) cemi (counted_puts (own_address l) (last_frame c l) (deed_in c l (entry (Got octets) now)) cemi d)) e

put_not_got : (what : Item) (ch : ClientChannel) (now : ℕ) (cemi : List ℕ) → deed ch (entry what now) ≡ Puts cemi → is_got what ≡ false
put_not_got (Put octets) ch now cemi e = refl
put_not_got Renewed ch now cemi e = refl
put_not_got (Got octets) ch now cemi e = absurd (got_not_put ch octets now cemi e)
put_not_got Quiet ch now cemi e = refl

-- ---- one request

pub record OnePut (wanted : IndAddr) (cemi : List ℕ) (old added : List Placed) : Type 0 where
  pub talks : AsksRightly wanted old cemi → TalksRightly wanted old → TalksRightly wanted (added ++ old)
  pub no_got : NoGot added

one_put : (wanted : IndAddr) (cemi : List ℕ) (m : Moment) (old added : List Placed) → moments_on old added ≡ m ∷ [] → m.what ≡ Puts cemi → OnePut wanted cemi old added
one_put wanted cemi m old [] e is = absurd (cc)
one_put wanted cemi m old (p ∷ []) e is =
    let here : moment_of old p ≡ m = cc in
    let what : deed (channel (entries old)) p.what ≡ Puts cemi = ap (λ (x : Moment). x.what) here ∙ is in
    record {
      talks = λ asks talks. (subst (λ (d : Deed). DoesRightly wanted old d) (sym what) asks, talks);
      no_got = (put_not_got p.what.what (channel (entries old)) p.what.now cemi what, tt);
    }
one_put wanted cemi m old (p ∷ q ∷ added) e is = absurd (cc)

-- ---- what was heard before it

pub record Before (asked : Asked) (e f : Ear) : Type 0 where
  pub confirmed : f.confirmed ≡ None
  pub since : f.since ≡ e.since
  pub read : asked ≡ Read → f.heard ≡ ear.Nobody
  pub other : (asked ≡ Read → ⊥) → f.heard ≡ e.heard

heard_other : (wanted : IndAddr) (asked : Asked) (e f : Ear) (cemi : List ℕ) (r : Round) (rs : List Round) → Before asked e f → (asked ≡ Read → ⊥) → ldata_in cemi ≡ Some (frame_of wanted asked) → HearsRounds e (r ∷ rs) → HearsRounds f (begun cemi ∷ r ∷ rs)
heard_other wanted asked e f cemi r rs b not is h = (
  (rw (is, other_isnt wanted asked not, b.other not) (subst (λ (l : List IndAddr). HeardSo e.heard l) (sym (append-nil (answers (r ∷ rs)))) h.0)),
  b.confirmed,
)

heard_read : (wanted : IndAddr) (e f : Ear) (cemi : List ℕ) (rs : List Round) → Before Read e f → ldata_in cemi ≡ Some (frame_of wanted Read) → HearsRounds f (begun cemi ∷ rs)
heard_read wanted e f cemi rs b is = (rw (is, read_is wanted, b.read refl) refl, b.confirmed)

heard_before : (wanted : IndAddr) (asked : Asked) (e f : Ear) (cemi : List ℕ) (rs : List Round) → MayAsk wanted rs asked → Before asked e f → ldata_in cemi ≡ Some (frame_of wanted asked) → HearsRounds e rs → HearsRounds f (begun cemi ∷ rs)
heard_before wanted _ e f cemi rs (ReadsFirst silent few) b is h = heard_read wanted e f cemi rs b is
heard_before wanted _ e f cemi (r ∷ before) (Connects searches one) b is h = heard_other wanted Connect e f cemi r before b (λ q. cc) is h
heard_before wanted _ e f cemi (c ∷ rs) (Disconnects asks) b is h = heard_other wanted Disconnect e f cemi c rs b (λ q. cc) is h
heard_before wanted _ e f cemi (d ∷ c ∷ r ∷ before) (Writes searches asks ends ok one) b is h = heard_other wanted Write e f cemi d (c ∷ r ∷ before) b (λ q. cc) is h
heard_before wanted _ e f cemi rs (ReadsLast asks) b is h = heard_read wanted e f cemi rs b is

-- ---- the step

module _ (wanted : IndAddr) (asked : Asked) (e f : Ear) (cemi : List ℕ) (at : ℕ) (is : ldata_in cemi ≡ Some (frame_of wanted asked)) (b : Before asked e f) where
  right : (old : List Placed) → IsTurnTo wanted asked old → has_lost (moments old) ≡ false → AsksRightly wanted old cemi
  right old t kept = record { asked = asked; reads = is; may = t.may; heard_out = t.heard_out; place = t.place; kept = kept }

  put_talks : (clock : Clock) (old added new : List Placed) → new ≡ added ++ old → PutsIt cemi at old added → IsTurnTo wanted asked old → Stands wanted clock old → TalksRightly wanted new
  put_talks clock old added new grow put t s = subst (TalksRightly wanted) (sym grow) ((one_put wanted cemi _ old added put refl).talks (right old t s.kept) s.rightly)

  none_talks : (clock : Clock) (old added new : List Placed) → new ≡ added ++ old → (added ≡ []) ⊎ PutsIt cemi at old added → IsTurnTo wanted asked old → Stands wanted clock old → TalksRightly wanted new
  none_talks clock old added new grow (inl none) t s = subst (TalksRightly wanted) (sym (grow ∙ ap (λ (z : List Placed). z ++ old) none)) s.rightly
  none_talks clock old added new grow (inr put) t s = put_talks clock old added new grow put t s

  new_rounds : (old added new : List Placed) → moments new ≡ moments_on old added ++ moments old → PutsIt cemi at old added → rounds (moments new) ≡ begun cemi ∷ rounds (moments old)
  new_rounds old added new more put = ap rounds (more ∙ ap (λ (z : List Moment). z ++ moments old) put)

  put_listens : (clock : Clock) (old added new : List Placed) → new ≡ added ++ old → moments new ≡ moments_on old added ++ moments old → PutsIt cemi at old added → IsTurnTo wanted asked old → StaysOpen (entries new) → (clock ≡ Exact → Paced wanted new) → Listens wanted e clock old → Listens wanted f clock new
  put_listens clock old added new grow more put t stays paced l =
      let none : NoGot added = (one_put wanted cemi _ old added put refl).no_got in
      let count : datagrams_taken (entries new) ≡ datagrams_taken (entries old) = ap (λ (z : List Placed). datagrams_taken (entries z)) grow ∙ count_on added old none in
      let quiet : quiet_since (entries new) ≡ quiet_since (entries old) = ap (λ (z : List Placed). quiet_since (entries z)) grow ∙ quiet_on added old none in
      record {
        stands = record {
          rightly = put_talks clock old added new grow put t l.stands;
          kept = ap has_lost (more ∙ ap (λ (z : List Moment). z ++ moments old) put) ∙ l.stands.kept;
          few = subst (λ (z : ℕ). z < flood) (sym count) l.stands.few;
          stays_open = stays;
          paced = paced;
        };
        hears = record {
          rounds_so = subst (HearsRounds f) (sym (new_rounds old added new more put)) (heard_before wanted asked e f cemi (rounds (moments old)) t.may b is l.hears.rounds_so);
          since = b.since ∙ l.hears.since ∙ sym quiet;
        };
      }

  pub put_goes : (s t : Story) → GoesOn s t → Growing (PutsOne {X = Unit {0}} (Ok tt) cemi at) s t → Growing (Each TakesNoTime) s t → Growing (Each EndsNone) s t → WhereTold (IsTurnTo wanted asked) s → AsksGoes {X = Unit {0}} wanted asked e f s t (Ok tt)
  put_goes s t g h time none turn = record {
    listens = λ l new p.
        let x = step_of (PutsOne {X = Unit {0}} (Ok tt) cemi at) s t new g h p in
        let now = turn x.old x.told in
        put_listens (clock_of t) x.old x.added new x.grow x.moments_grow (x.is now.place) now (stays_open_on e s t g none wanted l new p) (paced_on e s t g time none wanted l new p) (before (Listens wanted e) s t x.old x.clock l x.told);
    moves = λ l new p.
        let x = step_of (PutsOne {X = Unit {0}} (Ok tt) cemi at) s t new g h p in
        let now = turn x.old x.told in
        record { old = x.old; told = x.told; clock = x.clock; is = subst (OneMore wanted asked (rounds (moments x.old))) (sym (new_rounds x.old x.added new x.moments_grow (x.is now.place))) (is, refl) };
    fails = λ l. tt;
  }

  pub put_fails : (fault : HubFault) (s t : Story) (why : AssignFault) → GoesOn s t → Growing (PutsOne {X = Unit {0}} (Err fault) cemi at) s t → Growing (Each TakesNoTime) s t → Growing (Each EndsNone) s t → WhereTold (IsTurnTo wanted asked) s → WhereTold (FailsSo why) t → AsksGoes {X = Unit {0}} wanted asked e f s t (Err why)
  put_fails fault s t why g h time none turn cause = record {
    listens = λ l. tt;
    moves = λ l. tt;
    fails = λ l new p.
        let x = step_of (PutsOne {X = Unit {0}} (Err fault) cemi at) s t new g h p in
        let now = turn x.old x.told in
        record { cause = cause new p; rightly = none_talks (clock_of s) x.old x.added new x.grow (x.is now.place) now (l x.old x.told).stands; stays_open = stays_open_on e s t g none wanted l new p; paced = paced_so_far e s t g time none wanted l new p };
  }

-- ---- its wait

one_more_on : (wanted : IndAddr) (asked : Asked) (rs ss ts : List Round) → OneMore wanted asked rs ss → GoOn ss ts → OneMore wanted asked rs ts
one_more_on wanted asked rs [] ts m g = absurd m
one_more_on wanted asked rs (s ∷ ss) [] m g = absurd g
one_more_on wanted asked rs (s ∷ ss) (t ∷ ts) m g = (g.0 ∙ m.0, g.1 ∙ m.1)

waited_moves : (wanted : IndAddr) (asked : Asked) (s t u : Story) → Going (AsksOne wanted asked) s t → Going SameRounds t u → Going (AsksOne wanted asked) s u
waited_moves wanted asked s t u m w new p =
    let y = w new p in
    let x = m y.old y.told in
    record { old = x.old; told = x.told; clock = y.clock ∙ x.clock; is = one_more_on wanted asked (rounds (moments x.old)) (rounds (moments y.old)) (rounds (moments new)) x.is y.is }

pub asked_goes : (wanted : IndAddr) (asked : Asked) (e d f : Ear) (s t u : Story) (result : Result (Unit {0}) AssignFault) → AsksGoes {X = Unit {0}} wanted asked e d s t (Ok tt) → TalkGoes SameRounds d f t u result → AsksGoes wanted asked e f s u result
asked_goes wanted asked e d f s t u (Ok done) m w = record { listens = λ l. w.listens wanted (m.listens l); moves = λ l. waited_moves wanted asked s t u (m.moves l) (w.moves wanted (m.listens l)); fails = λ l. tt }
asked_goes wanted asked e d f s t u (Err why) m w = record { listens = λ l. tt; moves = λ l. tt; fails = λ l. w.fails wanted (m.listens l) }

-- ---- heard out

apart : (wanted : IndAddr) (asked : Asked) → (asked ≡ Read → ⊥) → Some (frame_of wanted asked) ≡ Some (frame_of wanted Read) → ⊥
apart wanted asked not e =
    let same : is_read (Some (frame_of wanted asked)) ≡ is_read (Some (frame_of wanted Read)) = ap is_read e in
    let no : true ≡ false = sym (same ∙ read_is wanted) ∙ other_isnt wanted asked not in cc

quiet_enough : (wanted : IndAddr) (asked : Asked) (since now : ℕ) → quiet_after asked ≤ now - since → Some (frame_of wanted asked) ≡ Some (frame_of wanted Read) → since + listening_wait ≤ now
quiet_enough wanted Read since now h e = omega (arith, h)
quiet_enough wanted Connect since now h e = absurd (apart wanted Connect (λ q. cc) e)
quiet_enough wanted Disconnect since now h e = absurd (apart wanted Disconnect (λ q. cc) e)
quiet_enough wanted Write since now h e = absurd (apart wanted Write (λ q. cc) e)

out_by : (wanted : IndAddr) (asked : Asked) (f : Ear) (new : List Placed) (rs before : List Round) → OneMore wanted asked before rs → HearsRounds f rs → f.since ≡ quiet_since (entries new) → HasWaited (quiet_after asked) f new → HeardOut wanted rs (entries new)
out_by wanted asked f new [] before m h s w = absurd m
out_by wanted asked f new (r ∷ rs) before m h s w = record {
  confirmed = λ none. w.confirmed (h.1 ∙ none);
  quiet = λ reads. subst (λ (n : ℕ). n + listening_wait ≤ newest_time (entries new)) s (quiet_enough wanted asked f.since (newest_time (entries new)) w.enough (sym m.0 ∙ reads));
}

pub asked_out : (wanted : IndAddr) (asked : Asked) (e f : Ear) (s u : Story) → AsksGoes {X = Unit {0}} wanted asked e f s u (Ok tt) → WhereTold (HasWaited (quiet_after asked) f) u → WhereClock (Listens wanted e) s → WhereClock (IsOut wanted f) u
asked_out wanted asked e f s u m w l new p =
    let listens = m.listens l new p in
    let x = m.moves l new p in
    record {
      heard_out = out_by wanted asked f new (rounds (moments new)) (rounds (moments x.old)) x.is listens.hears.rounds_so listens.hears.since (w new p);
      place = (w new p).place;
      confirmed = (w new p).confirmed;
      listens = listens;
    }

-- ---- by what the client's end of the tunnel told

pub put_told : (wanted : IndAddr) (asked : Asked) (e f : Ear) (cemi : List ℕ) (at : ℕ) → ldata_in cemi ≡ Some (frame_of wanted asked) → Before asked e f → (call : Result (Unit {0}) HubFault) (result : Result (Unit {0}) AssignFault) → ToldAs call result → (s t : Story) → GoesOn s t → Growing (PutsOne call cemi at) s t
    → Growing (Each TakesNoTime) s t → Growing (Each EndsNone) s t → WhereTold (IsTurnTo wanted asked) s → WhereTold (CausedBy result) t → AsksGoes wanted asked e f s t result
put_told wanted asked e f cemi at is b (Ok done) (Ok same) told s t g h time none turn cause = put_goes wanted asked e f cemi at is b s t g h time none turn
put_told wanted asked e f cemi at is b (Ok done) (Err why) told s t g h time none turn cause = absurd (cc)
put_told wanted asked e f cemi at is b (Err fault) (Ok done) told s t g h time none turn cause = absurd (cc)
put_told wanted asked e f cemi at is b (Err fault) (Err why) told s t g h time none turn cause = put_fails wanted asked e f cemi at is b fault s t why g h time none turn cause

-- ---- a request and its wait, where it listened before

pub out_goes : (wanted : IndAddr) (asked : Asked) (e f : Ear) (s u : Story) (result : Result (Unit {0}) AssignFault) → AsksGoes wanted asked e f s u result → OnOk result (WhereTold (HasWaited (quiet_after asked) f) u) → WhereClock (Listens wanted e) s → OnOk result (WhereClock (IsOut wanted f) u)
out_goes wanted asked e f s u (Ok done) m w l = asked_out wanted asked e f s u m w l
out_goes wanted asked e f s u (Err why) m w l = tt

-- ---- the wait for a request

listens_by : (wanted : IndAddr) (asked : Asked) (old new : List Round) → OneMore wanted asked old new → ListensFor (quiet_after asked) new
listens_by wanted asked old [] m = absurd m
listens_by wanted Read old (r ∷ rs) m = inr (refl, λ other. m.0)
listens_by wanted Connect old (r ∷ rs) m = inl refl
listens_by wanted Disconnect old (r ∷ rs) m = inl refl
listens_by wanted Write old (r ∷ rs) m = inl refl

pub listens_for : (wanted : IndAddr) (asked : Asked) (s t : Story) → Going (AsksOne wanted asked) s t → WhereTold (λ places. ListensFor (quiet_after asked) (rounds (moments places))) t
listens_for wanted asked s t m new p = let x = m new p in listens_by wanted asked (rounds (moments x.old)) (rounds (moments new)) x.is

still_for : (quiet : ℕ) (rs ss : List Round) → GoOn rs ss → ListensFor quiet rs → ListensFor quiet ss
still_for quiet [] ss g h = absurd h
still_for quiet (r ∷ rs) [] g h = absurd g
still_for quiet (r ∷ rs) (s ∷ ss) g (inl none) = inl none
still_for quiet (r ∷ rs) (s ∷ ss) g (inr h) = inr (h.0, λ wanted. g.0 ∙ h.1 wanted)

pub still_listens_for : (quiet : ℕ) (s t : Story) → Going SameRounds s t → WhereTold (λ places. ListensFor quiet (rounds (moments places))) s → WhereTold (λ places. ListensFor quiet (rounds (moments places))) t
still_listens_for quiet s t m h new p = let x = m new p in still_for quiet (rounds (moments x.old)) (rounds (moments new)) x.is (h x.old x.told)

-- as long as it hasn't waited, something is awaited until the listening ends
awaits_by : (wanted : IndAddr) (quiet longest now newest since : ℕ) (e : Ear) (rs : List Round) → ListensFor quiet rs → HearsRounds e rs → (e.confirmed ≢ None → quiet ≤ newest - since → ⊥) → (e.confirmed ≢ None → newest - since < quiet → longest ≡ quiet - (newest - since)) → now < newest + longest
    → HeardOutBy wanted rs since now → ⊥
awaits_by wanted quiet longest now newest since e [] f h not rest lt out = absurd f
awaits_by wanted quiet longest now newest since e (r ∷ rs) (inl none) h not rest lt out = not (λ c. out.confirmed (sym h.1 ∙ c)) (omega (arith, none))
awaits_by wanted quiet longest now newest since e (r ∷ rs) (inr f) h not rest lt out = by_quiet (ltb (newest - since) quiet) refl where
  some : e.confirmed ≢ None
  some c = out.confirmed (sym h.1 ∙ c)

  by_quiet : (t : Bool) → ltb (newest - since) quiet ≡ t → ⊥
  by_quiet true w =
      let less : newest - since < quiet = ltb-true (newest - since) quiet w in
      let is : longest ≡ quiet - (newest - since) = rest some less in
      let all : quiet ≡ listening_wait = f.0 in
      let over : since + listening_wait ≤ now = out.quiet (f.1 wanted) in
      absurd (let z : now < now = omega (arith, less, is, all, over, lt) in omega (arith, z))
  by_quiet false w = not some (ltb-false (newest - since) quiet w)

pub awaits_for : (quiet longest now : ℕ) (e : Ear) (s : Story) → WhereTold (λ places. ListensFor quiet (rounds (moments places))) s → WhereTold (λ places. now ≡ newest_time (entries places)) s → WhereTold (λ places. HasWaited quiet e places → ⊥) s
    → (e.confirmed ≢ None → now - e.since < quiet → longest ≡ quiet - (now - e.since)) → (wanted : IndAddr) → WhereClock (Listens wanted e) s → WhereTold (AwaitsFor wanted longest) s
awaits_for quiet longest now e s f time not rest wanted l places p then lt place out =
    let h = (l places p).hears in
    let is : now ≡ newest_time (entries places) = time places p in
    let as_well : (e.confirmed ≢ None → newest_time (entries places) - e.since < quiet → longest ≡ quiet - (newest_time (entries places) - e.since)) = subst (λ (n : ℕ). e.confirmed ≢ None → n - e.since < quiet → longest ≡ quiet - (n - e.since)) is rest in
    awaits_by wanted quiet longest then (newest_time (entries places)) e.since e (rounds (moments places)) (f places p) h.rounds_so
    (λ some enough. not places p (record { place = place; confirmed = some; enough = enough })) as_well lt (subst (λ (n : ℕ). HeardOutBy wanted (rounds (moments places)) n then) (sym h.since) out)
