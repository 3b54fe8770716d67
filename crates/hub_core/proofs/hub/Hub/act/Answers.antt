use Rattle.std.proofs.Common.{◌≡◌, None, refl}
use Rattle.hub_core.proofs.Calls.{acts_failed, acts_done}
use Rattle.hub_core.proofs.Keeps.{none_inside}
use Rattle.hub_core.proofs.Hastening.{hastens_alone, opens_by}
use Rattle.hub_core.proofs.Leaving.{ends_none_of}
use Rattle.hub_core.proofs.Hears.{hears_none, acts_few, failed_few}
use Rattle.hub_core.proofs.Pumping.{acts_so}
use Rattle.hub_core.proofs.Endings.{acts_resume}
use Rattle.hub_core.proofs.Polls.{acts_send}
use Rattle.hub_core.proofs.Came.{acts_nothing}
use Rattle.hub_core.proofs.InTime.{awaits_on}
use Rattle.hub_core.proofs.Since.{call_since}
use Rattle.hub_core.proofs.hub.Hub.act.Goals as goal

pub invariant_of-self : goal.invariant_of-self
invariant_of-self g c =
    let none : c.self.inside.tunnel.known.fault ≡ None = none_inside _ _ c.self.view_is c.requires.stands in
    acts_failed _ _ _ _ _ _ _ none c.act.ensures.events c.act.ensures.grows _ _ c.in_err-acted.ensures.adds c.in_err-acted.ensures.fault (c.in_err-acted.ensures.by_tunnel none) (hastens_alone _ _ c.self.inside.work c.act.ensures.timeless c.act.ensures.alone) c.self.invariant

pub invariant_of-self-2 : goal.invariant_of-self-2
invariant_of-self-2 g c =
    let none : c.self.inside.tunnel.known.fault ≡ None = none_inside _ _ c.self.view_is c.requires.stands in
    acts_done _ _ _ _ _ _ _ none c.act.ensures.events c.act.ensures.grows _ _ _ c.in_ok-acted.ensures.adds c.in_ok-acted.ensures.stands c.moments_go_on.ensures.later c.moments_go_on.ensures.aside c.now-now.ensures.newest (hastens_alone _ _ c.self.inside.work c.act.ensures.timeless c.act.ensures.alone)
    (opens_by _ _ c.self.inside.work c.self.inside.work _ c.act.ensures.grows (ends_none_of _ _ c.act.ensures.alone) (λ isnt. isnt)) c.self.invariant

pub returns-in_err-acted-clause-since : goal.returns-in_err-acted-clause-since
returns-in_err-acted-clause-since g c =
    let none : c.self.inside.tunnel.known.fault ≡ None = none_inside _ _ c.self.view_is c.requires.stands in
    rw (← c.self.view_is) (call_since c.act.result none c.act.ensures.grows c.act.ensures.script (record { tasks = refl; devices = refl; turns = refl; workers = refl; missed = refl }) (c.act.ensures.counts none) c.act.ensures.stands c.act.ensures.fault)

pub returns-clause-since : goal.returns-clause-since
returns-clause-since g c =
    let none : c.self.inside.tunnel.known.fault ≡ None = none_inside _ _ c.self.view_is c.requires.stands in
    rw (← c.self.view_is) (call_since c.act.result none c.act.ensures.grows c.act.ensures.script (record { tasks = refl; devices = refl; turns = refl; workers = refl; missed = refl }) (c.act.ensures.counts none) c.act.ensures.stands c.act.ensures.fault)

pub returns-clause-heard : goal.returns-clause-heard
returns-clause-heard g c = rw (← c.self.view_is) (hears_none _ _ _ c.in_ok-acted.ensures.adds (λ old added h. h.0))

pub returns-clause-does : goal.returns-clause-does
returns-clause-does g c = rw (← c.self.view_is) (acts_so _ _ c.in_ok-acted.acted c.in_ok-acted.ensures.adds)

pub returns-clause-resumes : goal.returns-clause-resumes
returns-clause-resumes g c = rw (← c.self.view_is) (acts_resume _ _ c.in_ok-acted.acted _ c.in_ok-acted.ensures.adds)

pub returns-in_err-acted-clause-alone : goal.returns-in_err-acted-clause-alone
returns-in_err-acted-clause-alone g c = rw (← c.self.view_is) c.act.ensures.alone

pub returns-clause-alone : goal.returns-clause-alone
returns-clause-alone g c = rw (← c.self.view_is) c.act.ensures.alone

pub returns-clause-sends : goal.returns-clause-sends
returns-clause-sends g c = rw (← c.self.view_is) (acts_send _ _ c.in_ok-acted.acted c.in_ok-acted.ensures.adds)

pub returns-clause-still : goal.returns-clause-still
returns-clause-still g c = rw (← c.self.view_is) (λ old e. (refl, refl))

pub returns-clause-nothing : goal.returns-clause-nothing
returns-clause-nothing g c = rw (← c.self.view_is) (acts_nothing _ _ c.in_ok-acted.acted c.in_ok-acted.ensures.adds)

pub returns-clause-awaits : goal.returns-clause-awaits
returns-clause-awaits g c =
    rw (← c.self.view_is) (awaits_on _ _ _ _ c.act.ensures.grows c.keeps.ensures.legal (acts_send _ _ c.in_ok-acted.acted c.in_ok-acted.ensures.adds) (λ old e. refl))

pub returns-in_err-acted-clause-few : goal.returns-in_err-acted-clause-few
returns-in_err-acted-clause-few g c = rw (← c.self.view_is) (failed_few _ _ _ (acts_few _ _ c.in_err-acted.ensures.adds))
