use Rattle.std.proofs.Common.{◌≡◌, Bool, false, None, IfOk, refl, sym, subst, ◌∙◌}
use Rattle.hub_core.specs.Pumps.{AddsSo, Does, is_left_now}
use Rattle.hub_core.proofs.Calls.{seeks_kept}
use Rattle.hub_core.proofs.Keeps.{none_inside}
use Rattle.hub_core.proofs.Hastening.{hastens_seek, opens_by, unbegun_asked}
use Rattle.hub_core.proofs.Hears.{seeks_heard, seeks_few}
use Rattle.hub_core.proofs.Pumping.{seeks_answer, seeks_none}
use Rattle.hub_core.proofs.Polls.{seeks_send, seeks_acted, none_sent}
use Rattle.hub_core.proofs.Came.{seeks_nothing, none_added}
use Rattle.tunnel_link.specs.Adds.{HasActed}
use Rattle.hub_core.proofs.Since.{call_since, since_itself}
use Rattle.hub_core.proofs.hub.Hub.seek.Goals as goal

pub invariant_of-self : goal.invariant_of-self
invariant_of-self g c =
    let none : c.self.inside.tunnel.known.fault ≡ None = none_inside _ _ c.self.view_is c.requires.stands in
    seeks_kept _ _ _ _ _ _ _ none c.seek-sought.ensures.events c.seek-sought.ensures.grows _ c.seek-sought.result _ c.seek-sought.ensures.adds c.seek-sought.ensures.fault c.seek-sought.ensures.stands (c.seek-sought.ensures.by_tunnel none)
    c.moments_go_on.ensures.later c.moments_go_on.ensures.aside c.now-now.ensures.newest (hastens_seek _ _ c.self.inside.work c.seek-sought.ensures.timeless c.seek-sought.ensures.alone (c.self.invariant.stays none (unbegun_asked c.self.inside.work.closing (sym c.is_closing.ensures ∙ c.if-is_closing.false))))
    (opens_by _ _ c.self.inside.work c.self.inside.work _ c.seek-sought.ensures.grows c.seek-sought.ensures.alone (λ isnt. isnt)) c.self.invariant

pub returns-then-is_closing-clause-since : goal.returns-then-is_closing-clause-since
returns-then-is_closing-clause-since g c = since_itself

pub returns-clause-since : goal.returns-clause-since
returns-clause-since g c =
    let none : c.self.inside.tunnel.known.fault ≡ None = none_inside _ _ c.self.view_is c.requires.stands in
    rw (← c.self.view_is) (call_since c.seek-sought.result none c.seek-sought.ensures.grows c.seek-sought.ensures.script (record { tasks = refl; devices = refl; turns = refl; workers = refl; missed = refl }) (c.seek-sought.ensures.counts none) c.seek-sought.ensures.stands c.seek-sought.ensures.fault)

pub returns-clause-heard : goal.returns-clause-heard
returns-clause-heard g c = rw (← c.self.view_is) (seeks_heard _ _ c.seek-sought.result c.seek-sought.ensures.adds)

pub returns-clause-does : goal.returns-clause-does
returns-clause-does g c =
    rw (← c.self.view_is) (subst (λ (b : Bool). IfOk c.seek-sought.result (λ did. AddsSo (Does (is_left_now b) did) (g.L.Link.story c.self.inside.tunnel.link) (g.L.Link.story c.seek-sought.new.self.link))) (sym c.if-is_closing.false ∙ c.is_closing.ensures)
    (seeks_answer _ _ c.seek-sought.result c.seek-sought.ensures.adds))

pub returns-then-is_closing-clause-does : goal.returns-then-is_closing-clause-does
returns-then-is_closing-clause-does g c =
    rw (← c.self.view_is) (subst (λ (b : Bool). AddsSo (Does (is_left_now b) false) (g.L.Link.story c.self.inside.tunnel.link) (g.L.Link.story c.self.inside.tunnel.link)) (sym c.if-is_closing.true ∙ c.is_closing.ensures) (seeks_none (g.L.Link.story c.self.inside.tunnel.link)))

pub returns-clause-ends_none : goal.returns-clause-ends_none
returns-clause-ends_none g c = rw (← c.self.view_is) c.seek-sought.ensures.alone

pub returns-clause-sends : goal.returns-clause-sends
returns-clause-sends g c = rw (← c.self.view_is) (seeks_send _ _ c.seek-sought.result c.seek-sought.ensures.adds)

pub returns-then-is_closing-clause-sends : goal.returns-then-is_closing-clause-sends
returns-then-is_closing-clause-sends g c = rw (← c.self.view_is) (none_sent _ _ refl)

pub returns-clause-acted : goal.returns-clause-acted
returns-clause-acted g c =
    seeks_acted c.self.inside.tunnel.known c.seek-sought.new.self.known (g.L.Link.story c.self.inside.tunnel.link) (g.L.Link.story c.seek-sought.new.self.link) c.seek-sought.result c.seek-sought.ensures.ready (subst (λ v. HasActed v.known (g.L.Link.story v.link)) (sym c.self.view_is) c.requires.acted)

pub returns-clause-nothing : goal.returns-clause-nothing
returns-clause-nothing g c = rw (← c.self.view_is) (seeks_nothing _ _ c.seek-sought.result c.seek-sought.ensures.adds)

pub returns-then-is_closing-clause-nothing : goal.returns-then-is_closing-clause-nothing
returns-then-is_closing-clause-nothing g c = rw (← c.self.view_is) (none_added _ _ refl)

pub returns-clause-few : goal.returns-clause-few
returns-clause-few g c = rw (← c.self.view_is) (seeks_few _ _ c.seek-sought.result c.seek-sought.ensures.adds)
