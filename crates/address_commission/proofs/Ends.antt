-- The whole of it: how it ends, and what it keeps of the units.
use Rattle.std.proofs.Common.{◌≡◌, List, [], ◌∷◌, map, Some, None, Result, Err, refl, sym, ◌∙◌, ap, subst, inl, arith}
use Rattle.knx_model.specs.declared.address.IndAddr.{IndAddr}
use Rattle.line_model.specs.Asks.{HasPlace}
use Rattle.line_model.specs.Moments.{moments}
use Rattle.line_model.specs.Record.{Entry, Placed, entries, counted, placed}
use Rattle.line_model.specs.ClientView.{channel}
use Rattle.line_model.specs.Renews.{AcknowledgesRightly, RenewsRightly}
use Rattle.line_model.specs.LinkStory.{Story, Clock, Untold, Recorded, Full, Exact, clock_of, IsNewLink, places_in}
use Rattle.line_model.specs.Sendings.{SendsRightly}
use Rattle.line_model.proofs.Entries.{entries_counted}
use Rattle.tunnel_link.specs.declared.known.Known.{Known}
use Rattle.tunnel_link.specs.Rights.{KeepsRecord, WhereTold}
use Rattle.address_world.specs.AddressWorld.{AddressWorld, AddressEvent, replay}
use Rattle.address_world.specs.AddressLegal.{IsFresh, IsLegal}
use Rattle.address_world.specs.AddressStory.{AddressStory, Told, Agrees, TellsTruly, record_of}
use Rattle.address_world.specs.Keeps.{AllAskFirst, PutsOnly, AlwaysKeepsUnits}
use Rattle.address_talk.specs.declared.assigned.Assigned.{Assigned}
use Rattle.address_talk.specs.declared.assigned.AssignFault.{AssignFault}
use Rattle.address_commission.specs.declared.ear.Ear.{Ear}
use Rattle.address_commission.specs.declared.ear.Heard.TheVariants as ear
use Rattle.address_talk.specs.Rounds.{Round, rounds, GoOn, SameRounds}
use Rattle.address_commission.specs.Listening.{Listens, Begins}
use Rattle.address_commission.specs.Going.{Going}
use Rattle.address_commission.specs.Exact.{WhereClock}
use Rattle.address_law.specs.Calm.{AreCalm}
use Rattle.address_law.specs.Determined.{IsDetermined}
use Rattle.address_world.specs.Shown.{shown}
use Rattle.address_commission.proofs.Steps.{some_is}
use Rattle.address_commission.specs.Always.{KeepsChannel}
use Rattle.address_talk.proofs.Ends.{all_first, ends_rightly}
use Rattle.address_talk.specs.Ends.{EndsSo, FailsRightly, HasThreeTries}

-- ---- how it ends

pub fails_before : (wanted : IndAddr) (why : AssignFault) (t : Story) → WhereClock (FailsRightly wanted why) t → WhereClock (EndsSo wanted (Err why)) t
fails_before wanted why t h new p = inl (h new p)

-- ---- what was sent

pub keeps_channel : (k : Known) (story : Story) → KeepsRecord k story → WhereTold KeepsChannel story
keeps_channel k story keeps places e = let right = (keeps places e).right in record { renews = right.renews; sends = right.sends; writes = right.writes; acknowledges = right.acknowledges; parts = right.parts }

pub puts_only : (wanted : IndAddr) (result : Result Assigned AssignFault) (k : Known) (story : Story) → WhereClock (EndsSo wanted result) story → KeepsRecord k story → ((r : List Entry) → SendsRightly r → AllAskFirst wanted r → PutsOnly wanted r) → WhereTold (λ places. PutsOnly wanted (entries places)) story
puts_only wanted result k story ends keeps law places e = law (entries places) (keeps places e).right.sends (all_first wanted places (ends_rightly wanted result (clock_of story) places (ends places e)))

-- ---- the units

pub units_kept : (wanted : IndAddr) (result : Result Assigned AssignFault) (k : Known) (story : Story) (told : AddressStory) → WhereClock (EndsSo wanted result) story → KeepsRecord k story → Agrees told story
    → ((r : List Entry) → SendsRightly r → AllAskFirst wanted r → PutsOnly wanted r) → ((start : AddressWorld) (events : List AddressEvent) → IsFresh start → PutsOnly wanted (record_of start events) → AlwaysKeepsUnits wanted start events)
    → (start : AddressWorld) (events : List AddressEvent) → told ≡ Told start events → AlwaysKeepsUnits wanted start events
units_kept wanted result k story told ends keeps agrees puts law start events is =
    let truly : TellsTruly start events story = subst (λ (z : AddressStory). Agrees z story) is agrees in
    let places : places_in story ≡ Some (counted (record_of start events)) = ap places_in truly.recorded in
    let all : entries (counted (record_of start events)) ≡ record_of start events = entries_counted (record_of start events) in
    law start events truly.fresh (subst (PutsOnly wanted) all (puts_only wanted result k story ends keeps puts (counted (record_of start events)) places))

pub units_determined : (wanted : IndAddr) (result : Result Assigned AssignFault) (k : Known) (story : Story) (told : AddressStory) → WhereClock (EndsSo wanted result) story → KeepsRecord k story → Agrees told story → HasThreeTries result
    → ((wanted : IndAddr) (start : AddressWorld) (events : List AddressEvent) (came : Result Assigned AssignFault) → HasThreeTries came → IsFresh start → IsLegal start events → AreCalm start events → RenewsRightly (record_of start events) → SendsRightly (record_of start events)
    → AcknowledgesRightly (record_of start events) → EndsSo wanted came Exact (counted (record_of start events)) → IsDetermined wanted (map shown start.units) (map shown (replay start events).units) came)
    → (start : AddressWorld) (events : List AddressEvent) → told ≡ Told start events → AreCalm start events → IsDetermined wanted (map shown start.units) (map shown (replay start events).units) result
units_determined wanted result k story told ends keeps agrees three law start events is calm =
    let truly : TellsTruly start events story = subst (λ (z : AddressStory). Agrees z story) is agrees in
    let r : List Entry = record_of start events in
    let places : places_in story ≡ Some (counted r) = ap places_in truly.recorded in
    let all : entries (counted r) ≡ r = entries_counted r in
    let right = (keeps (counted r) places).right in
    law wanted start events result three truly.fresh truly.legal calm (subst RenewsRightly all right.renews) (subst SendsRightly all right.sends) (subst AcknowledgesRightly all right.acknowledges)
    (subst (λ (c : Clock). EndsSo wanted result c (counted r)) (ap clock_of truly.recorded) (ends (counted r) places))

-- ---- how it begins

new_places : (s : Story) → IsNewLink s → (places : List Placed) → places_in s ≡ Some places → places ≡ []
new_places Untold n places e = absurd (let z : None ≡ Some places = e in cc)
new_places (Recorded clock r) n places e = sym (some_is (counted r) places e) ∙ ap counted n
new_places (Full start events) n places e = sym (some_is (placed start events) places e) ∙ ap (placed start) n.0

nothing_yet : (wanted : IndAddr) (e : Ear) (clock : Clock) → e ≡ record { heard = ear.Nobody; confirmed = None; since = 0 } → Listens wanted e clock []
nothing_yet wanted e clock is = record { stands = record { rightly = tt; kept = refl; few = omega arith; stays_open = tt; paced = λ exact. record { keeps = tt; waits = tt } }; hears = record { rounds_so = tt; since = ap (λ (x : Ear). x.since) is } }

pub new_listens : (wanted : IndAddr) (e : Ear) (s : Story) → e ≡ record { heard = ear.Nobody; confirmed = None; since = 0 } → IsNewLink s → WhereClock (Listens wanted e) s
new_listens wanted e s is n places p = subst (Listens wanted e (clock_of s)) (sym (new_places s n places p)) (nothing_yet wanted e (clock_of s) is)

go_none : (rs : List Round) → GoOn [] rs → rs ≡ []
go_none [] g = refl
go_none (r ∷ rs) g = absurd g

pub open_begins : (s t : Story) → IsNewLink s → Going SameRounds s t → WhereTold (λ places. HasPlace (channel (entries places))) t → WhereTold Begins t
open_begins s t n m place new p =
    let x = m new p in
    let none : x.old ≡ [] = new_places s n x.old x.told in
    record { nothing = go_none (rounds (moments new)) (subst (λ (z : List Placed). GoOn (rounds (moments z)) (rounds (moments new))) none x.is); place = place new p }
