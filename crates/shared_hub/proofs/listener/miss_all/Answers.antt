use Rattle.std.proofs.Common.{refl, sym, ◌∙◌}
use Rattle.shared_hub.proofs.Missing.{misses_all, misses_more, misses_none}
use Rattle.shared_hub.proofs.listener.miss_all.Goals as goal

pub loop-init : goal.loop-init
loop-init g c = record {
  next = tt;
  finite = tt;
  missed = misses_none c.args.ear.now c.args.hub.now.missed;
  hub = record { link = refl; jobs = refl; devices = refl; crew = refl; turns = refl; log = refl; fault = refl; closing = refl };
}

pub pop-requires : goal.pop-requires
pop-requires g c = c.loop.invariant.missed.router ∙ (c.requires.of ∙ sym c.relay.view_is)

pub loop-preserved : goal.loop-preserved
loop-preserved g c =
    let hub = c.loop.invariant.hub in
    record {
      next = tt;
      finite = tt;
      missed = misses_more _ _ _ _ _ _ _ c.loop.invariant.missed c.in-Some-pop.ensures.popped c.missed.ensures.missed;
      hub = record {
        link = c.missed.ensures.link ∙ hub.link;
        jobs = c.missed.ensures.jobs ∙ hub.jobs;
        devices = c.missed.ensures.devices ∙ hub.devices;
        crew = c.missed.ensures.crew ∙ hub.crew;
        turns = c.missed.ensures.turns ∙ hub.turns;
        log = c.missed.ensures.log ∙ hub.log;
        fault = c.missed.ensures.fault ∙ hub.fault;
        closing = c.missed.ensures.closing ∙ hub.closing;
      };
    }

pub returns-in_default-clause-missed : goal.returns-in_default-clause-missed
returns-in_default-clause-missed g c = misses_all _ _ _ _ _ c.loop.invariant.missed c.in_default.ensures.same c.in_default.ensures.all

pub returns-in_default-clause-hub : goal.returns-in_default-clause-hub
returns-in_default-clause-hub g c = c.loop.invariant.hub
