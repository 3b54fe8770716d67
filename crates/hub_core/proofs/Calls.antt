-- What is told is kept over each call of the tunnel: one that failed, and one after which nothing was put, taken or lost.
use Rattle.std.proofs.Common.{◌≡◌, ℕ, ◌≤◌, Bool, true, false, List, Option, Some, None, Result, Ok, Err, refl, sym, subst, ◌∙◌}
use Rattle.std.specs.Prelude.{IfErr, OnOk}
use Rattle.line_model.specs.declared.fault.HubFault.{HubFault}
use Rattle.line_model.specs.declared.fault.HubFault.TheVariants.{NoMemory, LinkFailed, GatewayRefused, Flooded, WrongLine}
use Rattle.line_model.specs.declared.log.LogEntry.{LogEntry}
use Rattle.line_model.specs.Record.{Entry, Placed, entries}
use Rattle.line_model.specs.LinkStory.{Story, places_in, newest_time}
use Rattle.line_model.specs.Signs.{Every}
use Rattle.line_model.specs.Log.{Job}
use Rattle.tunnel_link.specs.Adds.{place_of, moments_on, Added, Grows, Growing, AllNothing, PutsNone, Acts, Seeks, Leaves, PollAdds}
use Rattle.tunnel_link.specs.Goes.{GoesOn}
use Rattle.tunnel_link.specs.Rights.{IsOfTunnel, WhereTold}
use Rattle.hub_work.specs.declared.work.Work.{Work}
use Rattle.hub_work.specs.Follows.{AsideFollows, StaysFitting}
use Rattle.hub_core.specs.Keeps.{HasOwnCause, Keeps}
use Rattle.hub_core.specs.Taking.{SameWork, FollowsAll}
use Rattle.hub_core.proofs.Counting.{some_is, place_grows, places_ascend}
use Rattle.hub_core.proofs.Keeps.{books_same, same_log, Tolds, HastensOn, Opens, moves}
use Rattle.hub_core.proofs.Quiet.{Asides, nothing_aside, asides_fit, fits_after, quiet_told, quiet_runs}
use Rattle.hub_core.proofs.Requests.{nothings_put}
use Rattle.hub_core.proofs.Taking.{NoneGot, sent_not_got}

pub same_refl : (w : Work) → SameWork w w
same_refl w = record { reservation = refl; turns = refl; told = refl; held = refl; journal = refl; tasks_are = refl; unfinished = refl; begun = refl }

pub not_none : (g : Option HubFault) (fault : HubFault) → g ≡ Some fault → g ≡ None → ⊥
not_none g fault e none = absurd (let z : Some fault ≡ None = sym e ∙ none in cc)

pub own_of_tunnel : (jobs : List Job) (log : List LogEntry) (r : List Entry) (fault : HubFault) → IsOfTunnel fault → HasOwnCause jobs log r fault
own_of_tunnel jobs log r (NoMemory want) h = tt
own_of_tunnel jobs log r LinkFailed h = tt
own_of_tunnel jobs log r (GatewayRefused three) h = tt
own_of_tunnel jobs log r Flooded h = absurd h
own_of_tunnel jobs log r (WrongLine device tunnel) h = absurd h

pub same_some : (g : Option HubFault) (fault why : HubFault) → g ≡ Some fault → g ≡ Some why → fault ≡ why
same_some g fault why e f = let z : Some fault ≡ Some why = sym e ∙ f in cc

module _ (s t : Story) (w v : Work) (met : Bool) (P : List Placed → List Placed → Type 0) (goes : GoesOn s t) (same : SameWork w v) (adds : Growing P s t) where
  -- those that it added, up to these
  pub added_to : (old new : List Placed) (es : places_in s ≡ Some old) → places_in t ≡ Some new → Added (place_of s) (place_of t) old (adds old es).added new
  added_to old new es et =
      let g : Grows P (place_of s) (place_of t) old t = adds old es in
      let is : g.new ≡ new = some_is g.new new (sym g.told ∙ et) in
      subst (λ (x : List Placed). Added (place_of s) (place_of t) old g.added x) is g.grown

  pub failed : ((old added : List Placed) → P old added → Every PutsNone (moments_on old added)) → (after : Bool) (g : Option HubFault) (fault : HubFault) → g ≡ Some fault → IsOfTunnel fault → Tolds s t w v met after g
  failed puts after g fault is tunnel jobs old new are es et k =
      quiet_told (place_of s) (place_of t) old (adds old es).added new (added_to old new es et) (place_grows s t goes) jobs w v met after g same.turns (same_log w v same) (books_same w v same (place_of s) k.books) (puts old (adds old es).added (adds old es).is)
      (λ none. absurd (not_none g fault is none))
      (λ why e. subst (HasOwnCause jobs v.journal.entries (entries new)) (same_some g fault why is e) (own_of_tunnel jobs v.journal.entries (entries new) fault tunnel)) k

  pub quiet : (now : ℕ) → StaysFitting → WhereTold (λ places. now ≡ newest_time (entries places)) t → ((old added : List Placed) → P old added → AllNothing old added × NoneGot added × FollowsAll Asides now w v)
      → (g : Option HubFault) → g ≡ None → Tolds s t w v met met g
  quiet now law told so g none jobs old new are es et k =
      let added : List Placed = (adds old es).added in
      let is : AllNothing old added × NoneGot added × FollowsAll Asides now w v = so old added (adds old es).is in
      let le : place_of s ≤ place_of t = place_grows s t goes in
      let a : Added (place_of s) (place_of t) old added new = added_to old new es et in
      quiet_told (place_of s) (place_of t) old added new a le jobs w v met met g same.turns (same_log w v same) (books_same w v same (place_of s) k.books) (nothings_put (moments_on old added) is.0)
      (λ no. quiet_runs (place_of s) (place_of t) old added new a le jobs w v met (same_log w v same) is.1
      (fits_after (place_of s) (place_of t) old added new a le Asides now w v jobs law is.2 same (places_ascend t new et) k.books (k.runs refl).fits (nothing_aside (moments_on old added) is.0) (told new et))
      (k.runs refl))
      (λ why e. absurd (not_none g why e none)) k

-- ---- each of them, all that is kept

module _ (p q : ℕ) (s t : Story) (met : Bool) (f g : Option HubFault) (none : f ≡ None) (le : p ≤ q) (goes : GoesOn s t) where
  -- one that failed
  opens_not : (w v : Work) (fault : HubFault) → g ≡ Some fault → Opens s t w v g
  opens_not w v fault is stands asked = absurd (not_none g fault is stands)

  pub acts_failed : (w : Work) (fault : HubFault) → Growing (Acts (Err fault)) s t → g ≡ Some fault → IsOfTunnel fault → HastensOn s t w → Keeps p s w met f → Keeps q t w met g
  acts_failed w fault adds is tunnel hastens k =
      moves p q s t w w met met f g none le (same_refl w) goes (failed s t w w met (Acts (Err fault)) goes (same_refl w) adds (λ old added h. nothings_put (moments_on old added) h) met g fault is tunnel) hastens (opens_not w w fault is) k

  pub acts_done : (w : Work) (acted : Bool) (now : ℕ) → Growing (Acts (Ok acted)) s t → g ≡ None → StaysFitting → AsideFollows → WhereTold (λ places. now ≡ newest_time (entries places)) t → HastensOn s t w → Opens s t w w g → Keeps p s w met f → Keeps q t w met g
  acts_done w acted now adds stands law aside told hastens opens k =
      moves p q s t w w met met f g none le (same_refl w) goes
      (quiet s t w w met (Acts (Ok acted)) goes (same_refl w) adds now law told (λ old added h. (h.0, sent_not_got added h.1.only_sends, asides_fit w now aside)) g stands) hastens opens k

  pub seeks_kept : (w : Work) (result : Result Bool HubFault) (now : ℕ) → Growing (Seeks result) s t → IfErr result (λ fault. g ≡ Some fault) → OnOk result (g ≡ None) → IfErr result IsOfTunnel → StaysFitting → AsideFollows
      → WhereTold (λ places. now ≡ newest_time (entries places)) t → HastensOn s t w → Opens s t w w g → Keeps p s w met f → Keeps q t w met g
  seeks_kept w (Ok true) now adds is stands tunnel law aside told hastens opens k =
      moves p q s t w w met met f g none le (same_refl w) goes
      (quiet s t w w met (Seeks (Ok true)) goes (same_refl w) adds now law told (λ old added h. (h.nothing, sent_not_got added h.so.0, asides_fit w now aside)) g stands) hastens opens k
  seeks_kept w (Ok false) now adds is stands tunnel law aside told hastens opens k =
      moves p q s t w w met met f g none le (same_refl w) goes
      (quiet s t w w met (Seeks (Ok false)) goes (same_refl w) adds now law told (λ old added h. (h.nothing, subst NoneGot (sym h.so.0) tt, asides_fit w now aside)) g stands) hastens opens k
  seeks_kept w (Err fault) now adds is stands tunnel law aside told hastens opens k =
      moves p q s t w w met met f g none le (same_refl w) goes
      (failed s t w w met (Seeks (Err fault)) goes (same_refl w) adds (λ old added h. nothings_put (moments_on old added) h.nothing) met g fault is tunnel) hastens opens k

  pub leaves_failed : (w : Work) (fault : HubFault) → Growing (Leaves (Err fault)) s t → g ≡ Some fault → IsOfTunnel fault → HastensOn s t w → Keeps p s w met f → Keeps q t w met g
  leaves_failed w fault adds is tunnel hastens k =
      moves p q s t w w met met f g none le (same_refl w) goes (failed s t w w met (Leaves (Err fault)) goes (same_refl w) adds (λ old added h. nothings_put (moments_on old added) h.nothing) met g fault is tunnel) hastens (opens_not w w fault is) k

  pub leaves_done : (w v : Work) (asked : Bool) (now : ℕ) → Growing (Leaves (Ok asked)) s t → g ≡ None → SameWork w v → StaysFitting → FollowsAll Asides now w v → WhereTold (λ places. now ≡ newest_time (entries places)) t → HastensOn s t w → Opens s t w v g → Keeps p s w met f → Keeps q t v met g
  leaves_done w v asked now adds stands same law aside told hastens opens k =
      moves p q s t w v met met f g none le same goes
      (quiet s t w v met (Leaves (Ok asked)) goes same adds now law told (λ old added h. (h.nothing, sent_not_got added h.so.2, aside)) g stands) hastens opens k

  pub polls_failed : (w : Work) (fault : HubFault) → Growing (PollAdds (Err fault)) s t → g ≡ Some fault → IsOfTunnel fault → HastensOn s t w → Keeps p s w met f → Keeps q t w met g
  polls_failed w fault adds is tunnel hastens k =
      moves p q s t w w met met f g none le (same_refl w) goes (failed s t w w met (PollAdds (Err fault)) goes (same_refl w) adds (λ old added h. h.puts_none) met g fault is tunnel) hastens (opens_not w w fault is) k
