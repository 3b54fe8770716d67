use Rattle.std.proofs.Common.{◌≡◌, ℕ, ◌-◌, ◌≤◌, length, None, refl, sym, ap, subst, ◌∙◌, arith}
use Rattle.std.specs.Prelude.{is_some}
use Rattle.line_model.specs.Asks.{HasPlace}
use Rattle.line_model.specs.ClientView.{channel}
use Rattle.line_model.specs.Record.{entries}
use Rattle.hub_core.proofs.Hastening.{asked_same, hastens_alone, opens_by}
use Rattle.hub_core.proofs.Leaving.{ends_none_of}
use Rattle.hub_core.proofs.Putting.{turn_so, turn_did, put_done, put_failed}
use Rattle.hub_core.proofs.Since.{call_since, since_itself, still_since}
use Rattle.hub_core.proofs.View.{work_run}
use Rattle.hub_core.proofs.Written.{written, turn_writes}
use Rattle.hub_core.proofs.Hears.{hears_put, puts_request, failed_few, few_still, puts_few}
use Rattle.line_model.specs.LinkStory.{IsPlace}
use Rattle.hub_work.specs.declared.answers.Turned.TheVariants as answer
use Rattle.hub_work.specs.declared.work.turn.Turn.TheVariants as turn
use Rattle.hub_work.specs.Waits.{WaitsExactly}
use Rattle.hub_work.specs.Came.{waiting_at}
use Rattle.hub_core.proofs.Waits.{turn_waits, did_same, puts_same, did_takes_in, did_moves, puts_takes_none_in, holder_moves}
use Rattle.tunnel_link.specs.Alone.{LeavesAlone}
use Rattle.tunnel_link.proofs.Alone.{none_each}
use Rattle.hub_core.proofs.hub.Hub.turn.Goals as goal

pub turn-requires-clause-within : goal.turn-requires-clause-within
turn-requires-clause-within g c = subst (λ v. c.args.worker ≤ length v.crew) (sym c.self.view_is) c.requires.within

pub invariant_of-self : goal.invariant_of-self
invariant_of-self g c =
    let none : c.self.inside.tunnel.known.fault ≡ None = sym c.fault.ensures ∙ c.in_default.is in
    written _ c.at-at.result _ c.self.inside.work c.turn.new.self _ _ none c.at-at.ensures.value c.at-at.ensures.told c.turn.ensures.run c.turn.ensures.books (turn_writes c.at-at.result c.args.worker c.in-Did.turned _ _ c.in-Did.ensures.told)
    (λ jobs places e fits. turn_did c.self.inside.work c.turn.new.self c.now-now.result c.at-at.result jobs places c.in-Did.turned (c.now-now.ensures.newest places e) c.in-Did.ensures.follows fits) c.self.invariant

pub invariant_of-self-in_err-put-in-Puts : goal.invariant_of-self-in_err-put-in-Puts
invariant_of-self-in_err-put-in-Puts g c =
    let none : c.self.inside.tunnel.known.fault ≡ None = sym c.fault.ensures ∙ c.in_default.is in
    put_failed _ _ _ _ c.self.inside.work c.turn.new.self _ _ _ none c.put.ensures.events c.put.ensures.grows _ c.at-at.result c.at-at.ensures.value (record { tasks_are = c.turn.ensures.run.tasks_are; devices = c.turn.ensures.run.devices; turns = c.turn.ensures.run.turns; logs = c.in-Puts.ensures.told; begun = ap is_some c.turn.ensures.run.closing }) c.turn.ensures.books (hastens_alone _ _ c.self.inside.work c.put.ensures.timeless c.put.ensures.alone)
    (λ jobs old es fits.
    let place : HasPlace (channel (entries old)) = (c.has_place-has_place.ensures.told none old es).0 c.in-Puts.ensures.placed in
    turn_so _ c.self.inside.work c.turn.new.self _ c.now-now.result c.at-at.result jobs old es c.at-at.ensures.told (c.now-now.ensures.newest old es) place (c.places_are_free.ensures old (c.keeps.ensures.record old es).right.renews place) c.in-Puts.ensures.follows fits)
    _ c.in_err-put-in-Puts.ensures.adds c.in_err-put-in-Puts.ensures.fault (c.in_err-put-in-Puts.ensures.by_tunnel none) c.self.invariant

pub invariant_of-self-in-Puts : goal.invariant_of-self-in-Puts
invariant_of-self-in-Puts g c =
    let none : c.self.inside.tunnel.known.fault ≡ None = sym c.fault.ensures ∙ c.in_default.is in
    put_done _ _ _ _ c.self.inside.work c.turn.new.self _ _ _ none c.put.ensures.events c.put.ensures.grows _ c.at-at.result c.at-at.ensures.value (record { tasks_are = c.turn.ensures.run.tasks_are; devices = c.turn.ensures.run.devices; turns = c.turn.ensures.run.turns; logs = c.in-Puts.ensures.told; begun = ap is_some c.turn.ensures.run.closing }) c.turn.ensures.books (hastens_alone _ _ c.self.inside.work c.put.ensures.timeless c.put.ensures.alone)
    (λ jobs old es fits.
    let place : HasPlace (channel (entries old)) = (c.has_place-has_place.ensures.told none old es).0 c.in-Puts.ensures.placed in
    turn_so _ c.self.inside.work c.turn.new.self _ c.now-now.result c.at-at.result jobs old es c.at-at.ensures.told (c.now-now.ensures.newest old es) place (c.places_are_free.ensures old (c.keeps.ensures.record old es).right.renews place) c.in-Puts.ensures.follows fits)
    _ c.in_ok-put-in-Puts.ensures.adds c.in_ok-put-in-Puts.ensures.stands
    (opens_by _ _ c.self.inside.work c.turn.new.self _ c.put.ensures.grows (ends_none_of _ _ c.put.ensures.alone) (asked_same c.self.inside.work.closing c.turn.new.self.closing c.turn.ensures.run.closing)) c.self.invariant

pub returns-in-Some-clause-since : goal.returns-in-Some-clause-since
returns-in-Some-clause-since g c = since_itself

pub returns-in_err-put-in-Puts-clause-since : goal.returns-in_err-put-in-Puts-clause-since
returns-in_err-put-in-Puts-clause-since g c =
    let none : c.self.inside.tunnel.known.fault ≡ None = sym c.fault.ensures ∙ c.in_default.is in
    rw (← c.self.view_is) (call_since c.put.result none c.put.ensures.grows c.put.ensures.script (work_run _ _ _ _ c.self.inside.work c.turn.new.self _ _ _ c.turn.ensures.run) (c.put.ensures.counts none) c.put.ensures.stands c.put.ensures.fault)

pub returns-in-Did-clause-since : goal.returns-in-Did-clause-since
returns-in-Did-clause-since g c =
    rw (← c.self.view_is) (still_since refl refl (work_run _ _ _ _ c.self.inside.work c.turn.new.self _ _ _ c.turn.ensures.run))

pub returns-in_ok-put-in-Puts-clause-since : goal.returns-in_ok-put-in-Puts-clause-since
returns-in_ok-put-in-Puts-clause-since g c =
    let none : c.self.inside.tunnel.known.fault ≡ None = sym c.fault.ensures ∙ c.in_default.is in
    rw (← c.self.view_is) (call_since c.put.result none c.put.ensures.grows c.put.ensures.script (work_run _ _ _ _ c.self.inside.work c.turn.new.self _ _ _ c.turn.ensures.run) (c.put.ensures.counts none) c.put.ensures.stands c.put.ensures.fault)

pub returns-in_ok-put-in-Puts-clause-heard : goal.returns-in_ok-put-in-Puts-clause-heard
returns-in_ok-put-in-Puts-clause-heard g c =
    let none : c.self.inside.tunnel.known.fault ≡ None = sym c.fault.ensures ∙ c.in_default.is in
    rw (← c.self.view_is) (hears_put _ _ _ _ _ c.in_ok-put-in-Puts.ensures.adds (λ old es. (c.has_place-has_place.ensures.told none old es).0 c.in-Puts.ensures.placed))

pub returns-in-Did-clause-waits : goal.returns-in-Did-clause-waits
returns-in-Did-clause-waits g c =
    let none : c.self.inside.tunnel.known.fault ≡ None = sym c.fault.ensures ∙ c.in_default.is in
    rw (← c.self.view_is) (turn_waits (g.L.Link.place c.self.inside.tunnel.link) (g.L.Link.story c.self.inside.tunnel.link) c.self.inside.work _ _ none (subst (λ (n : ℕ). IsPlace n (g.L.Link.story c.self.inside.tunnel.link)) c.at-at.ensures.value c.at-at.ensures.told) c.self.invariant
    c.args.worker c.now-now.result c.now-now.ensures.newest c.has_place-has_place.result (c.has_place-has_place.ensures.told none) c.turn.result c.in-Did.turned
    (subst (λ (n : ℕ). WaitsExactly c.now-now.result n c.has_place-has_place.result c.args.worker c.self.inside.work c.turn.result) c.at-at.ensures.value c.turn.ensures.waits) (did_same c.turn.result c.in-Did.turned c.in-Did.is))

pub returns-in_ok-put-in-Puts-clause-waits : goal.returns-in_ok-put-in-Puts-clause-waits
returns-in_ok-put-in-Puts-clause-waits g c =
    let none : c.self.inside.tunnel.known.fault ≡ None = sym c.fault.ensures ∙ c.in_default.is in
    rw (← c.self.view_is) (turn_waits (g.L.Link.place c.self.inside.tunnel.link) (g.L.Link.story c.self.inside.tunnel.link) c.self.inside.work _ _ none (subst (λ (n : ℕ). IsPlace n (g.L.Link.story c.self.inside.tunnel.link)) c.at-at.ensures.value c.at-at.ensures.told) c.self.invariant
    c.args.worker c.now-now.result c.now-now.ensures.newest c.has_place-has_place.result (c.has_place-has_place.ensures.told none) c.turn.result answer.Moved
    (subst (λ (n : ℕ). WaitsExactly c.now-now.result n c.has_place-has_place.result c.args.worker c.self.inside.work c.turn.result) c.at-at.ensures.value c.turn.ensures.waits) (puts_same c.turn.result c.in-Puts.cemi c.in-Puts.is))

pub returns-in-Did-clause-finished : goal.returns-in-Did-clause-finished
returns-in-Did-clause-finished g c = λ no_more. c.in-Did.ensures.finished (ap turn.Did no_more)

pub returns-in_err-put-in-Puts-clause-alone : goal.returns-in_err-put-in-Puts-clause-alone
returns-in_err-put-in-Puts-clause-alone g c = rw (← c.self.view_is) c.put.ensures.alone

pub returns-in-Did-clause-alone : goal.returns-in-Did-clause-alone
returns-in-Did-clause-alone g c = rw (← c.self.view_is) (none_each LeavesAlone (g.L.Link.story c.self.inside.tunnel.link))

pub returns-in_ok-put-in-Puts-clause-alone : goal.returns-in_ok-put-in-Puts-clause-alone
returns-in_ok-put-in-Puts-clause-alone g c = rw (← c.self.view_is) c.put.ensures.alone

pub returns-in-Did-clause-suits : goal.returns-in-Did-clause-suits
returns-in-Did-clause-suits g c = rw (← c.self.view_is) c.in-Did.ensures.suits

pub returns-in_ok-put-in-Puts-clause-suits : goal.returns-in_ok-put-in-Puts-clause-suits
returns-in_ok-put-in-Puts-clause-suits g c = rw (← c.self.view_is) (holder_moves _ c.in-Puts.ensures.suits)

pub returns-in-Did-clause-takes_in : goal.returns-in-Did-clause-takes_in
returns-in-Did-clause-takes_in g c = rw (← c.self.view_is) (λ came. (did_takes_in _ c.in-Did.turned c.in-Did.ensures.takes_in came, refl))

pub returns-in_ok-put-in-Puts-clause-takes_in : goal.returns-in_ok-put-in-Puts-clause-takes_in
returns-in_ok-put-in-Puts-clause-takes_in g c = rw (← c.self.view_is) (λ came. puts_takes_none_in _ c.in-Puts.cemi c.in-Puts.ensures.takes_in came)

pub returns-in-Did-clause-puts : goal.returns-in-Did-clause-puts
returns-in-Did-clause-puts g c = rw (← c.self.view_is) (λ moved none.
    let came : 1 ≤ waiting_at c.self.inside.work.crew (c.args.worker - 1) = did_moves _ c.in-Did.turned c.in-Did.ensures.takes_in moved in absurd (omega (arith, came, none)))

pub returns-in_ok-put-in-Puts-clause-puts : goal.returns-in_ok-put-in-Puts-clause-puts
returns-in_ok-put-in-Puts-clause-puts g c =
    let none : c.self.inside.tunnel.known.fault ≡ None = sym c.fault.ensures ∙ c.in_default.is in
    rw (← c.self.view_is) (λ moved nothing. puts_request _ _ _ _ _ c.in_ok-put-in-Puts.ensures.adds (λ old es. (c.has_place-has_place.ensures.told none old es).0 c.in-Puts.ensures.placed))

pub returns-in_err-put-in-Puts-clause-few : goal.returns-in_err-put-in-Puts-clause-few
returns-in_err-put-in-Puts-clause-few g c =
    let none : c.self.inside.tunnel.known.fault ≡ None = sym c.fault.ensures ∙ c.in_default.is in
    rw (← c.self.view_is) (failed_few _ _ _ (puts_few _ _ _ _ c.in_err-put-in-Puts.ensures.adds (λ old es. (c.has_place-has_place.ensures.told none old es).0 c.in-Puts.ensures.placed)))

pub returns-in-Some-clause-few : goal.returns-in-Some-clause-few
returns-in-Some-clause-few g c = few_still _
