-- What is told is kept over a poll, after which the run goes on or ends.
use Rattle.std.proofs.Common.{◌≡◌, ℕ, suc, ◌<◌, ◌≤◌, inl, inr, Bool, true, false, List, ◌∷◌, ◌++◌, Option, Some, None, Ok, refl, sym, ap, subst, ◌∙◌, append_assoc, arith}
use Rattle.std.specs.Prelude.{is_some, min, ◌^◌, ◌-◌}
use Rattle.knx_model.specs.declared.address.IndAddr.{IndAddr}
use Rattle.line_model.specs.declared.fault.HubFault.{HubFault}
use Rattle.line_model.specs.declared.fault.HubFault.TheVariants.{NoMemory, LinkFailed, GatewayRefused, Flooded, WrongLine}
use Rattle.line_model.specs.declared.log.LogEntry.{LogEntry}
use Rattle.line_model.specs.Record.{Entry, Placed, entries, got_in}
use Rattle.line_model.specs.LinkStory.{Story, places_in, newest_time}
use Rattle.line_model.specs.Moments.{Moment}
use Rattle.line_model.specs.Signs.{Every}
use Rattle.line_model.specs.Told.{IsLoss}
use Rattle.line_model.specs.Log.{Job, JobUnfinished}
use Rattle.line_model.specs.ClientView.{channel}
use Rattle.line_model.specs.Faults.{datagrams_taken, flood, opens, or_newer, first_tunnel, first_elsewhere, IsWrongLine}
use Rattle.device_reservation.specs.Reservation.{Reservation}
use Rattle.tunnel_link.specs.declared.came.Came.{Came}
use Rattle.tunnel_link.specs.declared.came.Loss.{Loss}
use Rattle.tunnel_link.specs.declared.came.Loss.TheVariants.{Stays, Ended, Told}
use Rattle.tunnel_link.specs.declared.came.What.{What}
use Rattle.tunnel_link.specs.declared.came.What.TheVariants as came
use Rattle.tunnel_link.specs.Adds.{place_of, moments_on, Added, Growing, PutsNone, TakesAt, TakesUnread, OrLoses, DoesSo, GotSo, Brings, PollAdds}
use Rattle.tunnel_link.specs.Goes.{GoesOn}
use Rattle.tunnel_link.specs.Rights.{WhereTold, at_most_64_bits}
use Rattle.hub_work.specs.declared.work.Work.{Work}
use Rattle.hub_work.specs.Books.{AreJobsOf}
use Rattle.hub_work.specs.Follows.{StaysFitting}
use Rattle.hub_work.specs.Works.{KeepsBooks}
use Rattle.hub_core.specs.Keeps.{HasOwnCause, Runs, KeepsTold, Keeps}
use Rattle.hub_core.specs.Taking.{SameWork, TakesIn, MeetsOne, MeetsSo, NotFlooded, EndsSo}
use Rattle.hub_core.proofs.Calls.{added_to, not_none, same_some as same_why}
use Rattle.hub_core.proofs.Counting.{places_ascend, place_grows}
use Rattle.hub_core.proofs.Keeps.{books_same, books_later, same_log, Tolds, HastensOn, Opens, moves}
use Rattle.hub_core.proofs.Quiet.{fits_after, quiet_told}
use Rattle.hub_core.proofs.Requests.{nothings_put, loses_put, takes_put, one_puts}
use Rattle.hub_core.proofs.Taking.{quiet_not_got, sent_not_got, none_counted, none_opened, counted_once, opens_none}

-- ---- it puts nothing

or_loses_puts : (loss : Loss) (l : List Moment) → OrLoses loss l → Every PutsNone l
or_loses_puts Stays l h = nothings_put l h
or_loses_puts Ended l h = one_puts IsLoss l (λ m is. loses_put m is) h
or_loses_puts Told l h = one_puts IsLoss l (λ m is. loses_put m is) h

does_puts : (what : What) (loss : Loss) (now : ℕ) (l : List Moment) → DoesSo what loss now l → Every PutsNone l
does_puts came.Quiet loss now l h = or_loses_puts loss l h
does_puts came.Dropped loss now l (inl h) = or_loses_puts loss l h
does_puts came.Dropped loss now l (inr h) = one_puts TakesUnread l (λ m is. takes_put m is.octets is.takes) h.0
does_puts came.Tunnel loss now l h = or_loses_puts loss l h
does_puts (came.Up tunnel) loss now l h = or_loses_puts loss l h.0
does_puts (came.Frame frame) loss now l h = one_puts (TakesAt frame now) l (λ m is. takes_put m is.octets is.takes) h.0

-- ---- the tunnel that it tells, and how many datagrams were taken

abbrev up_in : What → Option IndAddr
up_in came.Quiet = None
up_in came.Dropped = None
up_in came.Tunnel = None
up_in (came.Up tunnel) = Some tunnel
up_in (came.Frame frame) = None

opened_so : (what : What) (r : List Entry) (x : Entry) → GotSo what r x → opens (channel r) (channel (x ∷ r)) x ≡ up_in what
opened_so came.Quiet r x h = opens_none (channel r) (channel (x ∷ r)) x (ap got_in h)
opened_so came.Dropped r x h = h.1
opened_so came.Tunnel r x h = h.1
opened_so (came.Up tunnel) r x h = h.1
opened_so (came.Frame frame) r x h = h.1

module _ (what : Came) (old added new : List Placed) (b : Brings what old added) (grow : new ≡ added ++ old) where
  parts_are : new ≡ b.sent ++ (b.last ∷ (b.waits ++ old))
  parts_are = grow ∙ (ap (λ z. z ++ old) b.parts ∙ append_assoc b.sent (b.last ∷ b.waits) old)

  tunnel_is : first_tunnel (entries new) ≡ or_newer (first_tunnel (entries old)) (up_in what.what)
  tunnel_is =
      ap (λ (l : List Placed). first_tunnel (entries l)) parts_are
      ∙ (none_opened b.sent (b.last ∷ (b.waits ++ old)) (sent_not_got b.sent b.sends)
      ∙ (ap (or_newer (first_tunnel (entries (b.waits ++ old)))) (opened_so what.what (entries (b.waits ++ old)) b.last.what b.got)
      ∙ ap (λ z. or_newer z (up_in what.what)) (none_opened b.waits old (quiet_not_got b.waits b.quiet))))

  count_is : datagrams_taken (entries new) ≤ suc (datagrams_taken (entries old))
  count_is =
      let all : datagrams_taken (entries new) ≡ datagrams_taken (entries (b.last ∷ (b.waits ++ old))) = ap (λ (l : List Placed). datagrams_taken (entries l)) parts_are ∙ none_counted b.sent (b.last ∷ (b.waits ++ old)) (sent_not_got b.sent b.sends) in
      let once : datagrams_taken (entries (b.last ∷ (b.waits ++ old))) ≤ suc (datagrams_taken (entries (b.waits ++ old))) = counted_once (entries (b.waits ++ old)) b.last.what in
      let before : datagrams_taken (entries (b.waits ++ old)) ≡ datagrams_taken (entries old) = none_counted b.waits old (quiet_not_got b.waits b.quiet) in
      omega (arith, all, once, before)

-- ---- the first channel

pub record MeetsRight (jobs : List Job) (after : Bool) (r : List Entry) (why : Option HubFault) : Type 0 where
  pub met_one : after ≡ is_some (first_tunnel r)
  pub right_line : why ≡ None → first_elsewhere jobs (first_tunnel r) ≡ None
  pub cause : (fault : HubFault) → why ≡ Some fault → (device tunnel : IndAddr) → fault ≡ WrongLine device tunnel → IsWrongLine jobs r device tunnel

or_none : (o : Option IndAddr) → or_newer o None ≡ o
or_none None = refl
or_none (Some t) = refl

module _ (jobs : List Job) (w : Work) (are : AreJobsOf w.reservation.devices jobs) (r : List Entry) (first : Option IndAddr) (line : first_elsewhere jobs first ≡ None) where
  unmet : (met after : Bool) (why : Option HubFault) → met ≡ is_some first → first_tunnel r ≡ or_newer first None → (after ≡ met) × (why ≡ None) → MeetsRight jobs after r why
  unmet met after why m e h = record {
    met_one = h.0 ∙ (m ∙ ap is_some (sym (e ∙ or_none first)));
    right_line = λ none. ap (first_elsewhere jobs) (e ∙ or_none first) ∙ line;
    cause = λ fault is device tunnel wrong. absurd (not_none why fault is h.1);
  }

  met_again : (before : IndAddr) (after : Bool) (tunnel : IndAddr) (why : Option HubFault) → first ≡ Some before → first_tunnel r ≡ or_newer first (Some tunnel) → after ≡ true → why ≡ None → MeetsRight jobs after r why
  met_again before after tunnel why is e up none =
      let same : first_tunnel r ≡ first = e ∙ (ap (λ z. or_newer z (Some tunnel)) is ∙ sym is) in
      record {
        met_one = up ∙ ap is_some (sym (same ∙ is));
        right_line = λ no. ap (first_elsewhere jobs) same ∙ line;
        cause = λ fault so device told wrong. absurd (not_none why fault so none);
      }

  met_first : (after : Bool) (tunnel : IndAddr) (why : Option HubFault) → first ≡ None → first_tunnel r ≡ or_newer first (Some tunnel) → after ≡ true → MeetsOne w false tunnel why → MeetsRight jobs after r why
  met_first after tunnel None is e up h =
      let told : first_tunnel r ≡ Some tunnel = e ∙ ap (λ z. or_newer z (Some tunnel)) is in
      record { met_one = up ∙ ap is_some (sym told); right_line = λ no. ap (first_elsewhere jobs) told ∙ h jobs are; cause = λ fault so device other wrong. absurd (cc) }
  met_first after tunnel (Some (NoMemory want)) is e up h = absurd h
  met_first after tunnel (Some LinkFailed) is e up h = absurd h
  met_first after tunnel (Some (GatewayRefused three)) is e up h = absurd h
  met_first after tunnel (Some Flooded) is e up h = absurd h
  met_first after tunnel (Some (WrongLine device told)) is e up h =
      let first_told : first_tunnel r ≡ Some tunnel = e ∙ ap (λ z. or_newer z (Some tunnel)) is in
      record {
        met_one = up ∙ ap is_some (sym first_told);
        right_line = λ no. absurd (cc);
        cause = λ fault so d t wrong.
            (let same : WrongLine device told ≡ WrongLine d t = (let z : Some (WrongLine device told) ≡ Some fault = so in let y : WrongLine device told ≡ fault = cc in y ∙ wrong) in
            let dev : device ≡ d = cc in
            let tun : told ≡ t = cc in
            record { told = first_told ∙ ap Some (sym h.0 ∙ tun); job = (h.1 jobs are).job; first = ap (λ z. first_elsewhere jobs (Some z)) (sym (sym h.0 ∙ tun)) ∙ (h.1 jobs are).first; is_its = sym dev ∙ (h.1 jobs are).is_its });
      }

  pub meets_right : (what : What) (met after : Bool) (why : Option HubFault) → met ≡ is_some first → first_tunnel r ≡ or_newer first (up_in what) → MeetsSo w met after what why → MeetsRight jobs after r why
  meets_right came.Quiet met after why m e h = unmet met after why m e h
  meets_right came.Dropped met after why m e h = unmet met after why m e h
  meets_right came.Tunnel met after why m e h = unmet met after why m e h
  meets_right (came.Up tunnel) met after why m e h = by_first first refl met m h.1 where
    by_first : (o : Option IndAddr) → first ≡ o → (b : Bool) → b ≡ is_some first → MeetsOne w b tunnel why → MeetsRight jobs after r why
    by_first None is true m one = absurd (let z : true ≡ false = m ∙ ap is_some is in cc)
    by_first None is false m one = met_first after tunnel why is e h.0 one
    by_first (Some before) is true m one = met_again before after tunnel why is e h.0 one
    by_first (Some before) is false m one = absurd (let z : false ≡ true = m ∙ ap is_some is in cc)
  meets_right (came.Frame frame) met after why m e h = unmet met after why m e h

-- ---- too many datagrams

at_most : (n k : ℕ) → k < 2 ^ 64 - 1 → (min n (2 ^ 64 - 1) < k → n < k) × (k ≤ min n (2 ^ 64 - 1) → k ≤ n)
at_most n k lt = (λ h. omega (arith, h, lt), λ h. omega (arith, h, lt))

-- ---- all of it, by why the run ends

module _ (p q : ℕ) (s t : Story) (w v : Work) (met after : Bool) (f g : Option HubFault) (none : f ≡ None) (le : p ≤ q) (goes : GoesOn s t) (same : SameWork w v) (came : Came) (now taken : ℕ)
    (adds : Growing (PollAdds (Ok came)) s t) (law : StaysFitting) (takes : TakesIn came now w v) (told : WhereTold (λ places. now ≡ newest_time (entries places)) t)
    (counted : WhereTold (λ places. taken ≡ at_most_64_bits (datagrams_taken (entries places))) t) where
  module _ (jobs : List Job) (old new : List Placed) (are : AreJobsOf w.reservation.devices jobs) (es : places_in s ≡ Some old) (et : places_in t ≡ Some new) (k : KeepsTold jobs w met None (place_of s) old) where
    a : Added (place_of s) (place_of t) old (adds old es).added new
    a = added_to s t w v met (PollAdds (Ok came)) goes same adds old new es et

    there : newest_time (entries ((adds old es).added ++ old)) ≡ now
    there = ap (λ (l : List Placed). newest_time (entries l)) (sym a.grow) ∙ sym (told new et)

    does : DoesSo came.what came.loss now (moments_on old (adds old es).added)
    does = subst (λ (n : ℕ). DoesSo came.what came.loss n (moments_on old (adds old es).added)) there (adds old es).is.does

    here : AreJobsOf v.reservation.devices jobs
    here = subst (λ (r : Reservation). AreJobsOf r.devices jobs) (sym same.reservation) are

    right : (why : Option HubFault) → MeetsSo v met after came.what why → MeetsRight jobs after (entries new) why
    right why h = meets_right jobs v here (entries new) (first_tunnel (entries old)) (k.runs refl).right_line came.what met after why (k.runs refl).met_one (tunnel_is came old (adds old es).added new (adds old es).is a.grow) h

    kept : KeepsBooks (place_of t) v
    kept = books_same w v same (place_of t) (books_later (place_of s) (place_of t) w (place_grows s t goes) k.books)

    tells : (runs : g ≡ None → Runs jobs v after (place_of t) new) (cause : (why : HubFault) → g ≡ Some why → HasOwnCause jobs v.journal.entries (entries new) why) → KeepsTold jobs v after g (place_of t) new
    tells runs cause = quiet_told (place_of s) (place_of t) old (adds old es).added new a (place_grows s t goes) jobs w v met after g same.turns (same_log w v same) (books_same w v same (place_of s) k.books) (does_puts came.what came.loss now (moments_on old (adds old es).added) does) runs cause k

    goes_on_told : g ≡ None → MeetsSo v met after came.what None → NotFlooded v taken → KeepsTold jobs v after g (place_of t) new
    goes_on_told stands meets few = tells
        (λ no. record {
          fits = fits_after (place_of s) (place_of t) old (adds old es).added new a (place_grows s t goes) (DoesSo came.what came.loss now) now w v jobs law takes same (places_ascend t new et) k.books (k.runs refl).fits does (told new et);
          met_one = (right None meets).met_one;
          no_flood = λ u. (at_most (datagrams_taken (entries new)) flood (omega arith)).0 (subst (λ (n : ℕ). n < flood) (counted new et) (few jobs (place_of t) kept here u));
          right_line = (right None meets).right_line refl;
        })
        (λ why e. absurd (not_none g why e stands))

    flooded_told : g ≡ Some Flooded → flood ≤ taken → JobUnfinished jobs v.journal.entries → KeepsTold jobs v after g (place_of t) new
    flooded_told is many u =
        let old_few : datagrams_taken (entries old) < flood = (k.runs refl).no_flood (subst (λ (l : List LogEntry). JobUnfinished jobs l) (ap (λ j. j.entries) same.journal) u) in
        let one : datagrams_taken (entries new) ≤ suc (datagrams_taken (entries old)) = count_is came old (adds old es).added new (adds old es).is a.grow in
        let reached : flood ≤ datagrams_taken (entries new) = (at_most (datagrams_taken (entries new)) flood (omega arith)).1 (subst (λ (n : ℕ). flood ≤ n) (counted new et) many) in
        tells (λ no. absurd (not_none g Flooded is no))
        (λ why e. subst (HasOwnCause jobs v.journal.entries (entries new)) (same_why g Flooded why is e) (record { count = (omega (arith, old_few, one, reached)); early = u }))

    wrong_told : (device tunnel : IndAddr) → g ≡ Some (WrongLine device tunnel) → MeetsSo v met after came.what (Some (WrongLine device tunnel)) → KeepsTold jobs v after g (place_of t) new
    wrong_told device tunnel is meets =
        tells (λ no. absurd (not_none g (WrongLine device tunnel) is no))
        (λ why e. subst (HasOwnCause jobs v.journal.entries (entries new)) (same_why g (WrongLine device tunnel) why is e)
        ((right (Some (WrongLine device tunnel)) meets).cause (WrongLine device tunnel) refl device tunnel refl))

  by_why : (why : Option HubFault) → g ≡ why → EndsSo v met after came.what taken why → Tolds s t w v met after g
  by_why None is ends jobs old new are es et k = goes_on_told jobs old new are es et k is ends.0 ends.1
  by_why (Some (NoMemory want)) is ends jobs old new are es et k = absurd ends
  by_why (Some LinkFailed) is ends jobs old new are es et k = absurd ends
  by_why (Some (GatewayRefused three)) is ends jobs old new are es et k = absurd ends
  by_why (Some Flooded) is ends jobs old new are es et k = flooded_told jobs old new are es et k is ends.1 (ends.2 jobs (place_of t) (kept jobs old new are es et k) (here jobs old new are es et k))
  by_why (Some (WrongLine device tunnel)) is ends jobs old new are es et k = wrong_told jobs old new are es et k device tunnel is ends

  pub polls_kept : (why : Option HubFault) → g ≡ why → EndsSo v met after came.what taken why → HastensOn s t w → Opens s t w v g → Keeps p s w met f → Keeps q t v after g
  polls_kept why is ends hastens opens k = moves p q s t w v met after f g none le same goes (by_why why is ends) hastens opens k
