use Rattle.std.proofs.Common.{◌∙◌, ◌-◌, ◌≤◌, ap, subst, sym, inl, inr, refl, arith}
use Rattle.line_model.specs.LinkStory.{clock_of}
use Rattle.tunnel_link.specs.Alone.{EndsNone}
use Rattle.tunnel_link.proofs.Alone.{both_each, none_each}
use Rattle.tunnel_link.proofs.Stories.{goes_again, goes_same}
use Rattle.address_commission.specs.Calls.{LeavesSince}
use Rattle.address_commission.proofs.Closing.{closes_on, closes_same}
use Rattle.address_commission.proofs.Leaving.{paces_then, paces_same, waited}
use Rattle.address_commission.proofs.close.await_response.Goals as goal

pub loop-init : goal.loop-init
loop-init g c = record {
  next = tt;
  finite = tt;
  closes = λ wanted. closes_same wanted _;
  paces = paces_same _;
  awaits = λ talk began l. l;
  stands = c.requires.stands;
  grows = goes_same _;
  alone = none_each EndsNone _;
  counts = refl;
  script = refl;
}

pub returns-in_err-came-clause-closes : goal.returns-in_err-came-clause-closes
returns-in_err-came-clause-closes g c wanted = closes_on wanted _ _ _ (c.loop.invariant.closes wanted) (c.waits.ensures.closes wanted)

pub returns-in_err-came-clause-paces : goal.returns-in_err-came-clause-paces
returns-in_err-came-clause-paces g c = paces_then _ _ _ c.loop.invariant.paces c.waits.ensures.paces

pub returns-in_err-came-clause-grows : goal.returns-in_err-came-clause-grows
returns-in_err-came-clause-grows g c = goes_again _ _ _ c.loop.invariant.grows c.waits.ensures.grows

pub returns-in_err-came-clause-alone : goal.returns-in_err-came-clause-alone
returns-in_err-came-clause-alone g c = both_each EndsNone _ _ _ c.loop.invariant.grows c.waits.ensures.grows c.loop.invariant.alone c.waits.ensures.alone

pub returns-then-not-stays-clause-closes : goal.returns-then-not-stays-clause-closes
returns-then-not-stays-clause-closes g c wanted = closes_on wanted _ _ _ (c.loop.invariant.closes wanted) (c.waits.ensures.closes wanted)

pub returns-then-not-stays-clause-paces : goal.returns-then-not-stays-clause-paces
returns-then-not-stays-clause-paces g c = paces_then _ _ _ c.loop.invariant.paces c.waits.ensures.paces

pub returns-then-not-stays-clause-grows : goal.returns-then-not-stays-clause-grows
returns-then-not-stays-clause-grows g c = goes_again _ _ _ c.loop.invariant.grows c.waits.ensures.grows

pub returns-then-not-stays-clause-alone : goal.returns-then-not-stays-clause-alone
returns-then-not-stays-clause-alone g c = both_each EndsNone _ _ _ c.loop.invariant.grows c.waits.ensures.grows c.loop.invariant.alone c.waits.ensures.alone

pub returns-then-left-eq0-clause-awaited : goal.returns-then-left-eq0-clause-awaited
returns-then-left-eq0-clause-awaited g c = λ talk is l.
    waited c.loop.left c.args.began c.now.result talk _ c.now.ensures.newest is
    (elim c.then-left-eq0.either [ inl none ↦ inl none | inr h ↦ inr (subst (λ n. 10000 ≤ n) c.saturating_sub-passed.ensures h.1) ]) (c.loop.invariant.awaits talk is l)

pub returns-then-not-stays-clause-awaited : goal.returns-then-not-stays-clause-awaited
returns-then-not-stays-clause-awaited g c = λ talk is l places p.
    (c.in_ok-came.ensures.awaits c.loop.left talk c.now.result c.now.ensures.newest (omega (arith, is, c.saturating_sub-passed.ensures, c.if-passed-ge-LEAVING_MS.false)) (omega (arith, c.if-left-eq0.false)) (c.loop.invariant.awaits talk is l) places p).1
    (c.stays.ensures.lost c.if-not-stays.true)

pub loop-preserved : goal.loop-preserved
loop-preserved g c = record {
  next = tt;
  finite = tt;
  closes = λ wanted. closes_on wanted _ _ _ (c.loop.invariant.closes wanted) (c.waits.ensures.closes wanted);
  paces = paces_then _ _ _ c.loop.invariant.paces c.waits.ensures.paces;
  awaits = λ talk is l places p.
      subst (λ n. LeavesSince n talk (clock_of (g.L.Link.story c.waits.new.tunnel.link)) places) (sym (c.saturating_sub-left.ensures ∙ ap (λ k. c.loop.left - k) c.got_one.ensures))
      ((c.in_ok-came.ensures.awaits c.loop.left talk c.now.result c.now.ensures.newest (omega (arith, is, c.saturating_sub-passed.ensures, c.if-passed-ge-LEAVING_MS.false)) (omega (arith, c.if-left-eq0.false)) (c.loop.invariant.awaits talk is l) places p).0
      (c.stays.ensures.stays c.if-not-stays.false));
  stands = c.in_ok-came.ensures.stands;
  grows = goes_again _ _ _ c.loop.invariant.grows c.waits.ensures.grows;
  alone = both_each EndsNone _ _ _ c.loop.invariant.grows c.waits.ensures.grows c.loop.invariant.alone c.waits.ensures.alone;
  counts = c.in_ok-came.ensures.counts ∙ c.loop.invariant.counts;
  script = c.waits.ensures.script ∙ c.loop.invariant.script;
}
