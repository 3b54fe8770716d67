use Rattle.std.proofs.Common.{◌≡◌, ℕ, true, false, None, refl, sym, subst, ◌∙◌}
use Rattle.line_model.specs.Asks.{HasPlace}
use Rattle.line_model.specs.ClientView.{channel}
use Rattle.line_model.specs.Moments.{moments, time}
use Rattle.line_model.specs.Record.{entries}
use Rattle.hub_work.specs.Follows.{WasSent, WasLost}
use Rattle.hub_work.specs.Works.{KeepsBooks}
use Rattle.hub_core.proofs.Keeps.{books_same, of_books, stays_same}
use Rattle.hub_core.proofs.Hastening.{asked_same, hastens_alone, opens_by}
use Rattle.hub_core.proofs.Leaving.{ends_none_of}
use Rattle.hub_core.proofs.Putting.{telegram_so, put_done, put_failed}
use Rattle.hub_core.proofs.Since.{call_since, since_itself, still_since}
use Rattle.hub_core.proofs.View.{same_run, work_run}
use Rattle.hub_core.proofs.Written.{written, told_writes}
use Rattle.hub_core.proofs.Hears.{hears_put, puts_request, failed_few, few_still, puts_few}
use Rattle.hub_core.proofs.Waits.{waits_under_way, waits_unplaced, waits_held, sent_waits_not, lost_waits_not, put_waits_not}
use Rattle.std.specs.Prelude.{is_none}
use Rattle.line_model.specs.LinkStory.{IsPlace}
use Rattle.line_model.specs.Log.{IsNextTurn}
use Rattle.hub_work.specs.Waits.{HoldsBack}
use Rattle.tunnel_link.specs.Alone.{LeavesAlone}
use Rattle.tunnel_link.proofs.Alone.{none_each}
use Rattle.hub_core.proofs.hub.Hub.send_group.Goals as goal

pub invariant_of-self : goal.invariant_of-self
invariant_of-self g c =
    let none : c.self.inside.tunnel.known.fault ≡ None = sym c.fault.ensures ∙ c.in_default.is in
    written _ c.at-at.result _ c.self.inside.work c.tell_telegram.new.self _ _ none c.at-at.ensures.value c.at-at.ensures.told c.tell_telegram.ensures.run c.tell_telegram.ensures.books (told_writes c.at-at.result c.args.k _ _ _ c.tell_telegram.ensures.told)
    (λ jobs places e fits. c.tell_telegram.ensures.follows jobs places (time (moments places)) fits (WasSent (sym c.stage.ensures ∙ c.in-Confirmed.is) refl)) c.self.invariant

pub invariant_of-self-in-Lost : goal.invariant_of-self-in-Lost
invariant_of-self-in-Lost g c =
    let none : c.self.inside.tunnel.known.fault ≡ None = sym c.fault.ensures ∙ c.in_default.is in
    written _ c.at-at.result _ c.self.inside.work c.tell_telegram-in-Lost.new.self _ _ none c.at-at.ensures.value c.at-at.ensures.told c.tell_telegram-in-Lost.ensures.run c.tell_telegram-in-Lost.ensures.books (told_writes c.at-at.result c.args.k _ _ _ c.tell_telegram-in-Lost.ensures.told)
    (λ jobs places e fits. c.tell_telegram-in-Lost.ensures.follows jobs places (time (moments places)) fits (WasLost (sym c.stage.ensures ∙ c.in-Lost.is) refl)) c.self.invariant

pub invariant_of-self-in_err-put-in-Unput : goal.invariant_of-self-in_err-put-in-Unput
invariant_of-self-in_err-put-in-Unput g c =
    let none : c.self.inside.tunnel.known.fault ≡ None = sym c.fault.ensures ∙ c.in_default.is in
    put_failed _ _ _ _ c.self.inside.work c.telegram_put.new.self _ _ _ none c.put.ensures.events c.put.ensures.grows _ c.at-at.result c.at-at.ensures.value (stays_same c.self.inside.work c.telegram_put.new.self (of_books c.self.inside.work c.telegram_put.new.self c.telegram_put.ensures.books))
    (books_same c.self.inside.work c.telegram_put.new.self (of_books c.self.inside.work c.telegram_put.new.self c.telegram_put.ensures.books) c.at-at.result (subst (λ (n : ℕ). KeepsBooks n c.self.inside.work) (sym c.at-at.ensures.value) c.self.invariant.books)) (hastens_alone _ _ c.self.inside.work c.put.ensures.timeless c.put.ensures.alone)
    (λ jobs old es fits.
    let place : HasPlace (channel (entries old)) = (c.has_place.ensures.told none old es).0 c.if-not-has_place.false in
    telegram_so _ c.self.inside.work c.telegram_put.new.self _ c.at-at.result jobs old es c.at-at.ensures.told place (c.places_are_free.ensures old (c.keeps.ensures.record old es).right.renews place)
    (subst (λ (n : ℕ). KeepsBooks n c.self.inside.work) (sym c.at-at.ensures.value) c.self.invariant.books) (sym c.stage.ensures ∙ c.in-Unput.is) c.in-Some-telegram.ensures.right c.telegram_put.ensures.follows c.in-Some-telegram.ensures.next (of_books c.self.inside.work c.telegram_put.new.self c.telegram_put.ensures.books) fits)
    _ c.in_err-put-in-Unput.ensures.adds c.in_err-put-in-Unput.ensures.fault (c.in_err-put-in-Unput.ensures.by_tunnel none) c.self.invariant

pub invariant_of-self-in-Unput : goal.invariant_of-self-in-Unput
invariant_of-self-in-Unput g c =
    let none : c.self.inside.tunnel.known.fault ≡ None = sym c.fault.ensures ∙ c.in_default.is in
    put_done _ _ _ _ c.self.inside.work c.telegram_put.new.self _ _ _ none c.put.ensures.events c.put.ensures.grows _ c.at-at.result c.at-at.ensures.value (stays_same c.self.inside.work c.telegram_put.new.self (of_books c.self.inside.work c.telegram_put.new.self c.telegram_put.ensures.books))
    (books_same c.self.inside.work c.telegram_put.new.self (of_books c.self.inside.work c.telegram_put.new.self c.telegram_put.ensures.books) c.at-at.result (subst (λ (n : ℕ). KeepsBooks n c.self.inside.work) (sym c.at-at.ensures.value) c.self.invariant.books)) (hastens_alone _ _ c.self.inside.work c.put.ensures.timeless c.put.ensures.alone)
    (λ jobs old es fits.
    let place : HasPlace (channel (entries old)) = (c.has_place.ensures.told none old es).0 c.if-not-has_place.false in
    telegram_so _ c.self.inside.work c.telegram_put.new.self _ c.at-at.result jobs old es c.at-at.ensures.told place (c.places_are_free.ensures old (c.keeps.ensures.record old es).right.renews place)
    (subst (λ (n : ℕ). KeepsBooks n c.self.inside.work) (sym c.at-at.ensures.value) c.self.invariant.books) (sym c.stage.ensures ∙ c.in-Unput.is) c.in-Some-telegram.ensures.right c.telegram_put.ensures.follows c.in-Some-telegram.ensures.next (of_books c.self.inside.work c.telegram_put.new.self c.telegram_put.ensures.books) fits)
    _ c.in_ok-put-in-Unput.ensures.adds c.in_ok-put-in-Unput.ensures.stands
    (opens_by _ _ c.self.inside.work c.telegram_put.new.self _ c.put.ensures.grows (ends_none_of _ _ c.put.ensures.alone) (asked_same c.self.inside.work.closing c.telegram_put.new.self.closing c.telegram_put.ensures.books.closing)) c.self.invariant

pub returns-in-Some-clause-since : goal.returns-in-Some-clause-since
returns-in-Some-clause-since g c = since_itself

pub returns-in-UnderWay-clause-since : goal.returns-in-UnderWay-clause-since
returns-in-UnderWay-clause-since g c = since_itself

pub returns-then-not-has_place-clause-since : goal.returns-then-not-has_place-clause-since
returns-then-not-has_place-clause-since g c = since_itself

pub returns-in_default-telegram-clause-since : goal.returns-in_default-telegram-clause-since
returns-in_default-telegram-clause-since g c = since_itself

pub returns-in-Confirmed-clause-since : goal.returns-in-Confirmed-clause-since
returns-in-Confirmed-clause-since g c = rw (← c.self.view_is) (still_since refl refl (work_run _ _ _ _ c.self.inside.work c.tell_telegram.new.self _ _ _ c.tell_telegram.ensures.run))

pub returns-in-Lost-clause-since : goal.returns-in-Lost-clause-since
returns-in-Lost-clause-since g c = rw (← c.self.view_is) (still_since refl refl (work_run _ _ _ _ c.self.inside.work c.tell_telegram-in-Lost.new.self _ _ _ c.tell_telegram-in-Lost.ensures.run))

pub returns-in_err-put-in-Unput-clause-since : goal.returns-in_err-put-in-Unput-clause-since
returns-in_err-put-in-Unput-clause-since g c =
    let none : c.self.inside.tunnel.known.fault ≡ None = sym c.fault.ensures ∙ c.in_default.is in
    rw (← c.self.view_is) (call_since c.put.result none c.put.ensures.grows c.put.ensures.script (same_run _ _ _ _ c.self.inside.work c.telegram_put.new.self _ _ _ (of_books c.self.inside.work c.telegram_put.new.self c.telegram_put.ensures.books)) (c.put.ensures.counts none) c.put.ensures.stands c.put.ensures.fault)

pub returns-in_ok-put-in-Unput-clause-since : goal.returns-in_ok-put-in-Unput-clause-since
returns-in_ok-put-in-Unput-clause-since g c =
    let none : c.self.inside.tunnel.known.fault ≡ None = sym c.fault.ensures ∙ c.in_default.is in
    rw (← c.self.view_is) (call_since c.put.result none c.put.ensures.grows c.put.ensures.script (same_run _ _ _ _ c.self.inside.work c.telegram_put.new.self _ _ _ (of_books c.self.inside.work c.telegram_put.new.self c.telegram_put.ensures.books)) (c.put.ensures.counts none) c.put.ensures.stands c.put.ensures.fault)

pub returns-in_ok-put-in-Unput-clause-heard : goal.returns-in_ok-put-in-Unput-clause-heard
returns-in_ok-put-in-Unput-clause-heard g c =
    let none : c.self.inside.tunnel.known.fault ≡ None = sym c.fault.ensures ∙ c.in_default.is in
    rw (← c.self.view_is) (hears_put _ _ _ _ _ c.in_ok-put-in-Unput.ensures.adds (λ old es. (c.has_place.ensures.told none old es).0 c.if-not-has_place.false))

pub returns-in-UnderWay-clause-waits : goal.returns-in-UnderWay-clause-waits
returns-in-UnderWay-clause-waits g c =
    let none : c.self.inside.tunnel.known.fault ≡ None = sym c.fault.ensures ∙ c.in_default.is in
    rw (← c.self.view_is) (waits_under_way _ c.args.k _ c.self.inside.work _ _ none (subst (λ (n : ℕ). IsPlace n (g.L.Link.story c.self.inside.tunnel.link)) c.at-at.ensures.value c.at-at.ensures.told) c.self.invariant
    (subst (λ v. IsNextTurn v.turns v.log c.args.k) (sym c.self.view_is) c.requires.next) (sym c.stage.ensures ∙ c.in-UnderWay.is))

pub returns-then-not-has_place-clause-waits : goal.returns-then-not-has_place-clause-waits
returns-then-not-has_place-clause-waits g c =
    let none : c.self.inside.tunnel.known.fault ≡ None = sym c.fault.ensures ∙ c.in_default.is in
    rw (← c.self.view_is) (waits_unplaced _ c.args.k _ c.self.inside.work _ _ none (subst (λ (n : ℕ). IsPlace n (g.L.Link.story c.self.inside.tunnel.link)) c.at-at.ensures.value c.at-at.ensures.told) c.self.invariant
    (subst (λ v. IsNextTurn v.turns v.log c.args.k) (sym c.self.view_is) c.requires.next) (sym c.stage.ensures ∙ c.in-Unput.is) (λ places e place. let isnt : true ≡ false = sym ((c.has_place.ensures.told none places e).1 place) ∙ c.if-not-has_place.true in cc))

pub returns-in_default-telegram-clause-waits : goal.returns-in_default-telegram-clause-waits
returns-in_default-telegram-clause-waits g c =
    let none : c.self.inside.tunnel.known.fault ≡ None = sym c.fault.ensures ∙ c.in_default.is in
    rw (← c.self.view_is) (waits_held _ c.args.k _ c.self.inside.work _ _ none (subst (λ (n : ℕ). IsPlace n (g.L.Link.story c.self.inside.tunnel.link)) c.at-at.ensures.value c.at-at.ensures.told) c.self.invariant
    (subst (λ v. IsNextTurn v.turns v.log c.args.k) (sym c.self.view_is) c.requires.next) (sym c.stage.ensures ∙ c.in-Unput.is)
    (subst (λ o. HoldsBack c.self.inside.work (is_none o)) c.in_default-telegram.is c.telegram.ensures.held))

pub returns-in-Confirmed-clause-waits : goal.returns-in-Confirmed-clause-waits
returns-in-Confirmed-clause-waits g c =
    let none : c.self.inside.tunnel.known.fault ≡ None = sym c.fault.ensures ∙ c.in_default.is in
    rw (← c.self.view_is) (sent_waits_not _ c.args.k _ c.self.inside.work _ _ none (subst (λ (n : ℕ). IsPlace n (g.L.Link.story c.self.inside.tunnel.link)) c.at-at.ensures.value c.at-at.ensures.told) c.self.invariant
    (subst (λ v. IsNextTurn v.turns v.log c.args.k) (sym c.self.view_is) c.requires.next) (sym c.stage.ensures ∙ c.in-Confirmed.is))

pub returns-in-Lost-clause-waits : goal.returns-in-Lost-clause-waits
returns-in-Lost-clause-waits g c =
    let none : c.self.inside.tunnel.known.fault ≡ None = sym c.fault.ensures ∙ c.in_default.is in
    rw (← c.self.view_is) (lost_waits_not _ c.args.k _ c.self.inside.work _ _ none (subst (λ (n : ℕ). IsPlace n (g.L.Link.story c.self.inside.tunnel.link)) c.at-at.ensures.value c.at-at.ensures.told) c.self.invariant
    (subst (λ v. IsNextTurn v.turns v.log c.args.k) (sym c.self.view_is) c.requires.next) (sym c.stage.ensures ∙ c.in-Lost.is))

pub returns-in_ok-put-in-Unput-clause-waits : goal.returns-in_ok-put-in-Unput-clause-waits
returns-in_ok-put-in-Unput-clause-waits g c =
    let none : c.self.inside.tunnel.known.fault ≡ None = sym c.fault.ensures ∙ c.in_default.is in
    rw (← c.self.view_is) (put_waits_not _ c.args.k _ c.self.inside.work _ _ none (subst (λ (n : ℕ). IsPlace n (g.L.Link.story c.self.inside.tunnel.link)) c.at-at.ensures.value c.at-at.ensures.told) c.self.invariant
    (subst (λ v. IsNextTurn v.turns v.log c.args.k) (sym c.self.view_is) c.requires.next) (sym c.stage.ensures ∙ c.in-Unput.is) (λ places e. (c.has_place.ensures.told none places e).0 c.if-not-has_place.false)
    (subst (λ o. HoldsBack c.self.inside.work (is_none o)) c.in-Some-telegram.is c.telegram.ensures.held))

pub returns-in_err-put-in-Unput-clause-alone : goal.returns-in_err-put-in-Unput-clause-alone
returns-in_err-put-in-Unput-clause-alone g c = rw (← c.self.view_is) c.put.ensures.alone

pub returns-in_ok-put-in-Unput-clause-alone : goal.returns-in_ok-put-in-Unput-clause-alone
returns-in_ok-put-in-Unput-clause-alone g c = rw (← c.self.view_is) c.put.ensures.alone

pub returns-in-Confirmed-clause-alone : goal.returns-in-Confirmed-clause-alone
returns-in-Confirmed-clause-alone g c = rw (← c.self.view_is) (none_each LeavesAlone (g.L.Link.story c.self.inside.tunnel.link))

pub returns-in-Lost-clause-alone : goal.returns-in-Lost-clause-alone
returns-in-Lost-clause-alone g c = rw (← c.self.view_is) (none_each LeavesAlone (g.L.Link.story c.self.inside.tunnel.link))

pub returns-in_ok-put-in-Unput-clause-puts : goal.returns-in_ok-put-in-Unput-clause-puts
returns-in_ok-put-in-Unput-clause-puts g c =
    let none : c.self.inside.tunnel.known.fault ≡ None = sym c.fault.ensures ∙ c.in_default.is in
    rw (← c.self.view_is) (λ put. puts_request _ _ _ _ _ c.in_ok-put-in-Unput.ensures.adds (λ old es. (c.has_place.ensures.told none old es).0 c.if-not-has_place.false))

pub returns-in_err-put-in-Unput-clause-few : goal.returns-in_err-put-in-Unput-clause-few
returns-in_err-put-in-Unput-clause-few g c =
    let none : c.self.inside.tunnel.known.fault ≡ None = sym c.fault.ensures ∙ c.in_default.is in
    rw (← c.self.view_is) (failed_few _ _ _ (puts_few _ _ _ _ c.in_err-put-in-Unput.ensures.adds (λ old es. (c.has_place.ensures.told none old es).0 c.if-not-has_place.false)))

pub returns-in-Some-clause-few : goal.returns-in-Some-clause-few
returns-in-Some-clause-few g c = few_still _
