-- Which group indications the calls took, one after another.
use Rattle.std.proofs.Common.{◌≡◌, ◌⊎◌, inl, inr, ⊎_elim, ℕ, List, [], ◌++◌, Bool, Option, Some, None, Result, Ok, Err, refl, sym, ap, subst, ◌∙◌}
use Rattle.std.specs.Prelude.{filter_map, IfOk, OnErr, OnOk}
use Rattle.std.specs.List.{cons_option}
use Rattle.line_model.specs.declared.fault.HubFault.{HubFault}
use Rattle.line_model.specs.declared.group.Indication.{Indication}
use Rattle.line_model.specs.Record.{Placed, entries}
use Rattle.line_model.specs.LinkStory.{Story, places_in}
use Rattle.line_model.specs.Asks.{HasPlace}
use Rattle.line_model.specs.ClientView.{Deed, Puts, Takes, Loses, Nothing, and_takes, channel, group_indication, indication_of, indications}
use Rattle.line_model.specs.Moments.{Moment, moments}
use Rattle.line_model.specs.Told.{IsLoss}
use Rattle.tunnel_link.specs.declared.came.Came.{Came}
use Rattle.tunnel_link.specs.declared.came.Loss.{Loss}
use Rattle.tunnel_link.specs.declared.came.Loss.TheVariants.{Stays, Ended, Told}
use Rattle.tunnel_link.specs.declared.came.What.{What}
use Rattle.tunnel_link.specs.declared.came.What.TheVariants as came
use Rattle.tunnel_link.specs.Adds.{place_of, moments_on, Grows, Growing, AllNothing, AtMostOne, Fails, Leaves, PutsIt, PutsOne, Seeks, TakesAt, TakesUnread, OrLoses, DoesSo, PollAdds}
use Rattle.tunnel_link.specs.Goes.{GoesOn}
use Rattle.tunnel_link.specs.Rights.{WhereTold}
use Rattle.tunnel_link.proofs.Stories.{goes_again}
use Rattle.hub_core.specs.declared.answers.Finished.{Finished}
use Rattle.hub_core.specs.declared.answers.Pumped.{Pumped}
use Rattle.hub_core.specs.Hears.{HearsSo, HearsFew, heard_of, heard_at_end}
use Rattle.hub_core.specs.Puts.{PutsRequest}
use Rattle.hub_core.specs.Taking.{HeardIn}
use Rattle.hub_core.proofs.Counting.{some_is, told_before}
use Rattle.hub_core.proofs.Hearing.{heard_in, heard_is, nothings, one_heard, takes_heard, loses_heard}

hears_by : (heard : Option Indication) (s t : Story) (P : List Placed → List Placed → Type 0) → Growing P s t → ((old added : List Placed) → P old added → heard_in (moments_on old added ++ moments old) ≡ cons_option heard (heard_in (moments old))) → HearsSo heard s t
hears_by heard s t P grows h old new es et =
    let g : Grows P (place_of s) (place_of t) old t = grows old es in
    let same : new ≡ g.new = sym (some_is g.new new (sym g.told ∙ et)) in
    heard_is new ∙ (ap (λ (l : List Placed). heard_in (moments l)) same ∙ (ap heard_in g.grown.moments_grow ∙ (h old g.added g.is ∙ ap (cons_option heard) (sym (heard_is old)))))

pub hears_none : (s t : Story) (P : List Placed → List Placed → Type 0) → Growing P s t → ((old added : List Placed) → P old added → AllNothing old added) → HearsSo None s t
hears_none s t P grows none = hears_by None s t P grows (λ old added h. nothings (moments_on old added) (moments old) (none old added h))

pub seeks_heard : (s t : Story) (result : Result Bool HubFault) → Growing (Seeks result) s t → OnOk result (HearsSo None s t)
seeks_heard s t (Ok b) grows = hears_none s t (Seeks (Ok b)) grows (λ old added h. h.nothing)
seeks_heard s t (Err fault) grows = tt

unread_heard : (m : Moment) (taken : List (List ℕ)) → TakesUnread m → filter_map group_indication (and_takes m.what taken) ≡ cons_option None (filter_map group_indication taken)
unread_heard m taken is = let none : group_indication is.octets ≡ None = ap indication_of is.unread in rw is.takes (rw none refl)

or_loses_heard : (loss : Loss) (l ms : List Moment) → OrLoses loss l → heard_in (l ++ ms) ≡ heard_in ms
or_loses_heard Stays l ms h = nothings l ms h
or_loses_heard Ended l ms h = one_heard IsLoss None l ms (λ m taken is. loses_heard m taken is) h
or_loses_heard Told l ms h = one_heard IsLoss None l ms (λ m taken is. loses_heard m taken is) h

does_heard : (what : What) (loss : Loss) (now : ℕ) (l ms : List Moment) (heard : Option Indication) → DoesSo what loss now l → HeardIn what heard → heard_in (l ++ ms) ≡ cons_option heard (heard_in ms)
does_heard came.Quiet loss now l ms heard h is = subst (λ o. heard_in (l ++ ms) ≡ cons_option o (heard_in ms)) (sym is) (or_loses_heard loss l ms h)
does_heard came.Dropped loss now l ms heard (inl h) is = subst (λ o. heard_in (l ++ ms) ≡ cons_option o (heard_in ms)) (sym is) (or_loses_heard loss l ms h)
does_heard came.Dropped loss now l ms heard (inr h) is = subst (λ o. heard_in (l ++ ms) ≡ cons_option o (heard_in ms)) (sym is) (one_heard TakesUnread None l ms unread_heard h.0)
does_heard came.Tunnel loss now l ms heard h is = subst (λ o. heard_in (l ++ ms) ≡ cons_option o (heard_in ms)) (sym is) (or_loses_heard loss l ms h)
does_heard (came.Up tunnel) loss now l ms heard h is = subst (λ o. heard_in (l ++ ms) ≡ cons_option o (heard_in ms)) (sym is) (or_loses_heard loss l ms h.0)
does_heard (came.Frame frame) loss now l ms heard h is =
    subst (λ o. heard_in (l ++ ms) ≡ cons_option o (heard_in ms)) (sym is) (one_heard (TakesAt frame now) (indication_of (Some frame)) l ms (λ m taken one. takes_heard frame one.octets m taken one.takes one.reads) h.0)

pub hears_poll : (s t : Story) (what : Came) (heard : Option Indication) → Growing (PollAdds (Ok what)) s t → HeardIn what.what heard → HearsSo heard s t
hears_poll s t what heard grows is = hears_by heard s t (PollAdds (Ok what)) grows (λ old added h. does_heard what.what what.loss _ (moments_on old added) (moments old) heard h.does is)

-- a request, where the place in flight was free
pub hears_put : (s t : Story) (x : Unit {0}) (cemi : List ℕ) (at : ℕ) → Growing (PutsOne {X = Unit {0}} (Ok x) cemi at) s t → WhereTold (λ places. HasPlace (channel (entries places))) s → HearsSo None s t
hears_put s t x cemi at grows place =
    hears_by None s t (PutsIt cemi at) put (λ old added h. ap (λ (l : List Moment). heard_in (l ++ moments old)) h) where
      put : Growing (PutsIt cemi at) s t
      put old es = let g : Grows (PutsOne {X = Unit {0}} (Ok x) cemi at) (place_of s) (place_of t) old t = grows old es in record { new = g.new; told = g.told; added = g.added; grown = g.grown; is = g.is (place old es) }

pub puts_request : (s t : Story) (x : Unit {0}) (cemi : List ℕ) (at : ℕ) → Growing (PutsOne {X = Unit {0}} (Ok x) cemi at) s t → WhereTold (λ places. HasPlace (channel (entries places))) s → PutsRequest s t
puts_request s t x cemi at grows place old es =
    let g : Grows (PutsOne {X = Unit {0}} (Ok x) cemi at) (place_of s) (place_of t) old t = grows old es in
    record { new = g.new; told = g.told; added = g.added; grown = g.grown; is = (cemi, at, g.is (place old es)) }

-- after a call that took none
pub hears_then : (a b c : Story) (heard : Option Indication) → GoesOn b c → HearsSo None a b → HearsSo heard b c → HearsSo heard a c
hears_then a b c heard goes none h old new ea ec = by_middle (told_before b c new goes ec) where
  by_middle : (mid : List Placed) × (places_in b ≡ Some mid) → indications (entries new) ≡ cons_option heard (indications (entries old))
  by_middle mid = h mid.0 new mid.1 ec ∙ ap (cons_option heard) (none old mid.0 ea mid.1)

-- after two of them
pub hears_all : (a b c d : Story) (p : Pumped) (heard : Option Indication) → heard_of p ≡ heard → GoesOn b c → GoesOn c d → HearsSo None a b → HearsSo None b c → HearsSo heard c d → HearsSo (heard_of p) a d
hears_all a b c d p heard is goes last first second third =
    subst (λ o. HearsSo o a d) (sym is) (hears_then a b d heard (goes_again b c d goes last) first (hears_then b c d heard last second third))

pub hears_after : (a b c : Story) (result : Result Finished HubFault) → GoesOn b c → HearsSo None a b → IfOk result (λ done. HearsSo (heard_at_end done) b c) → IfOk result (λ done. HearsSo (heard_at_end done) a c)
hears_after a b c (Ok done) goes none h = hears_then a b c (heard_at_end done) goes none h
hears_after a b c (Err fault) goes none h = tt

-- ---- calls that failed: they took one at most

pub few_still : (s : Story) → HearsFew s s
few_still s = (None, λ old new eo en. ap (λ (l : List Placed). indications (entries l)) (some_is new old (sym en ∙ eo)))

pub failed_few : {X : Type 0} (result : Result X HubFault) (s t : Story) → HearsFew s t → OnErr result (HearsFew s t)
failed_few (Ok x) s t few = tt
failed_few (Err fault) s t few = few

pub acts_few : (s t : Story) → Growing AllNothing s t → HearsFew s t
acts_few s t grows = (None, hears_none s t AllNothing grows (λ old added h. h))

pub seeks_few : (s t : Story) (result : Result Bool HubFault) → Growing (Seeks result) s t → OnErr result (HearsFew s t)
seeks_few s t (Ok b) grows = tt
seeks_few s t (Err fault) grows = (None, hears_none s t (Seeks (Err fault)) grows (λ old added h. h.nothing))

pub leaves_few : (s t : Story) (fault : HubFault) → Growing (Leaves (Err fault)) s t → HearsFew s t
leaves_few s t fault grows = (None, hears_none s t (Leaves (Err fault)) grows (λ old added h. h.nothing))

-- a request that was put or wasn't, where the place in flight was free
abbrev pub PutsOrNot : List ℕ → ℕ → List Placed → List Placed → Type 0
PutsOrNot cemi at old added = (added ≡ []) ⊎ PutsIt cemi at old added

pub puts_few : (s t : Story) (cemi : List ℕ) (at : ℕ) → Growing (λ old added. HasPlace (channel (entries old)) → PutsOrNot cemi at old added) s t → WhereTold (λ places. HasPlace (channel (entries places))) s → HearsFew s t
puts_few s t cemi at grows place =
    (None, hears_by None s t (PutsOrNot cemi at) put (λ old added h. ⊎_elim (λ none. subst (λ (l : List Placed). heard_in (moments_on old l ++ moments old) ≡ heard_in (moments old)) (sym none) refl) (λ is. ap (λ (l : List Moment). heard_in (l ++ moments old)) is) h)) where
      put : Growing (PutsOrNot cemi at) s t
      put old es =
          let g : Grows (λ old added. HasPlace (channel (entries old)) → PutsOrNot cemi at old added) (place_of s) (place_of t) old t = grows old es in
          record { new = g.new; told = g.told; added = g.added; grown = g.grown; is = g.is (place old es) }

-- what one moment tells
heard_by : Deed → Option Indication
heard_by (Takes octets) = group_indication octets
heard_by what = None

tells_so : (what : Deed) (m : Moment) (taken : List (List ℕ)) → m.what ≡ what → filter_map group_indication (and_takes m.what taken) ≡ cons_option (heard_by what) (filter_map group_indication taken)
unfolding heard_by
tells_so (Puts octets) m taken is = rw is refl
tells_so (Takes octets) m taken is = rw is refl
tells_so Loses m taken is = rw is refl
tells_so Nothing m taken is = rw is refl

-- where the places before it are told
few_at : (s t : Story) (old : List Placed) → places_in s ≡ Some old → Grows Fails (place_of s) (place_of t) old t → HearsFew s t
few_at s t old es g = by_one g.is.at_most_one
  where
    all_so : (heard : Option Indication) → heard_in (moments_on old g.added ++ moments old) ≡ cons_option heard (heard_in (moments old)) → HearsSo heard s t
    all_so heard h was new ew et =
        let same : was ≡ old = some_is was old (sym ew ∙ es) in
        let now : new ≡ g.new = sym (some_is g.new new (sym g.told ∙ et)) in
        heard_is new ∙ (ap (λ (l : List Placed). heard_in (moments l)) now ∙ (ap heard_in g.grown.moments_grow ∙ (h ∙ ap (cons_option heard) (sym (heard_is old) ∙ ap (λ (l : List Placed). indications (entries l)) (sym same)))))

    by_one : AtMostOne (moments_on old g.added) → HearsFew s t
    by_one (inl none) = (None, all_so None (nothings (moments_on old g.added) (moments old) none))
    by_one (inr o) = (
      heard_by o.m.what,
      all_so (heard_by o.m.what) (one_heard (λ (m : Moment). m.what ≡ o.m.what) (heard_by o.m.what) (moments_on old g.added) (moments old) (tells_so o.m.what)
          (record { newer = o.newer; m = o.m; older = o.older; all = o.all; is = refl; newer_nothing = o.newer_nothing; older_nothing = o.older_nothing })),
    )

pub polls_few : (s t : Story) → Growing Fails s t → HearsFew s t
polls_few s t grows = by_places (places_in s) refl where
  by_places : (o : Option (List Placed)) → places_in s ≡ o → HearsFew s t
  by_places None e = (None, λ old new eo en. absurd (let z : None ≡ Some old = sym e ∙ eo in cc))
  by_places (Some old) e = few_at s t old e (grows old e)

-- after a call that took none
pub few_then : (a b c : Story) → GoesOn b c → HearsSo None a b → HearsFew b c → HearsFew a c
few_then a b c goes none few = (few.0, hears_then a b c few.0 goes none few.1)

pub few_after : (a b c : Story) (result : Result Finished HubFault) → GoesOn b c → HearsSo None a b → OnErr result (HearsFew b c) → OnErr result (HearsFew a c)
few_after a b c (Ok done) goes none few = tt
few_after a b c (Err fault) goes none few = few_then a b c goes none few
