use Rattle.std.proofs.Common.{Some, inl, inr, sym, ap, subst, ◌∙◌}
use Rattle.hub_core.specs.declared.answers.Finished.{Finished}
use Rattle.hub_core.specs.Closes.{EndsAs}
use Rattle.hub_core.specs.Hears.{HearsSo, heard_at_end}
use Rattle.shared_hub.proofs.Closed.{over_closed}
use Rattle.shared_hub.proofs.Hearing.{hears_failed_so, hears_none_so, hears_one_so}
use Rattle.shared_hub.proofs.Still.{called, closes_still, counted, done_still, far_still, going}
use Rattle.shared_hub.proofs.Telling.{stays_done}
use Rattle.shared_hub.proofs.Leaving.{closes_step, how_far_step}
use Rattle.shared_hub.proofs.ending.Ending.finishes.Goals as goal

pub finish-requires : goal.finish-requires
finish-requires g c = record { over = c.requires.done.jobs; told = c.requires.done.telegrams }

-- it failed

pub returns-in_err-indication-clause-since : goal.returns-in_err-indication-clause-since
returns-in_err-indication-clause-since g c = called g.L.Link.story g.L.Link.script g.L.Link.faults c.finish.ensures.since

pub returns-in_err-indication-clause-closes : goal.returns-in_err-indication-clause-closes
returns-in_err-indication-clause-closes g c = closes_step c.args.self.now.hub c.finish.new.self (g.L.Link.story c.args.self.now.hub.link) (g.L.Link.story c.finish.new.self.link) c.finish.ensures.since.grows c.finish.ensures.rightly c.finish.ensures.log c.requires.closes c.requires.far

pub returns-in_err-indication-clause-heard : goal.returns-in_err-indication-clause-heard
returns-in_err-indication-clause-heard g c = hears_failed_so c.args.self.now.hub c.finish.new.self c.args.self.now.heard g.L.Link.story _ c.in_err-indication.ensures.fault c.in_err-indication.ensures.few c.finish.ensures.since c.requires.stands c.requires.heard

-- it heard something

pub returns-in-Heard-clause-since : goal.returns-in-Heard-clause-since
returns-in-Heard-clause-since g c = going g.L.Link.story g.L.Link.script g.L.Link.faults c.args.self.now.hub c.finish.new.self c.keep.new.hub (called g.L.Link.story g.L.Link.script g.L.Link.faults c.finish.ensures.since) (counted g.L.Link.story g.L.Link.script g.L.Link.faults c.keep.ensures.hub)

pub returns-in-Heard-clause-closes : goal.returns-in-Heard-clause-closes
returns-in-Heard-clause-closes g c = closes_still c.finish.new.self c.keep.new.hub c.keep.ensures.hub g.L.Link.story (closes_step c.args.self.now.hub c.finish.new.self (g.L.Link.story c.args.self.now.hub.link) (g.L.Link.story c.finish.new.self.link) c.finish.ensures.since.grows c.finish.ensures.rightly c.finish.ensures.log c.requires.closes c.requires.far)

pub returns-in-Heard-clause-far : goal.returns-in-Heard-clause-far
returns-in-Heard-clause-far g c = far_still c.finish.new.self c.keep.new.hub c.keep.ensures.hub g.L.Link.story (how_far_step c.args.self.now.hub c.finish.new.self (g.L.Link.story c.args.self.now.hub.link) (g.L.Link.story c.finish.new.self.link) c.finish.ensures.since.grows c.finish.ensures.rightly c.finish.ensures.log c.requires.closes c.requires.far c.in_ok-indication.ensures.closes c.in_ok-indication.ensures.waits)

pub returns-in-Heard-clause-log : goal.returns-in-Heard-clause-log
returns-in-Heard-clause-log g c = c.keep.ensures.hub.log ∙ c.finish.ensures.log

pub returns-in-Heard-clause-done : goal.returns-in-Heard-clause-done
returns-in-Heard-clause-done g c = done_still c.finish.new.self c.keep.new.hub c.keep.ensures.hub (stays_done c.args.self.now.hub c.finish.new.self c.finish.ensures.since.run.devices c.finish.ensures.since.run.turns c.finish.ensures.log c.requires.done)

pub returns-in-Heard-clause-goes_on : goal.returns-in-Heard-clause-goes_on
returns-in-Heard-clause-goes_on g c = λ going.
    inl (c.in-Heard.indication, subst (λ l. HearsSo (Some c.in-Heard.indication) (g.L.Link.story c.args.self.now.hub.link) (g.L.Link.story l)) (sym c.keep.ensures.hub.link) (subst (λ one. HearsSo one (g.L.Link.story c.args.self.now.hub.link) (g.L.Link.story c.finish.new.self.link)) (ap heard_at_end c.in-Heard.is) c.in_ok-indication.ensures.heard))

pub returns-in-Heard-clause-stands : goal.returns-in-Heard-clause-stands
returns-in-Heard-clause-stands g c = c.keep.ensures.hub.fault ∙ c.in_ok-indication.ensures.stands

pub returns-in-Heard-clause-heard : goal.returns-in-Heard-clause-heard
returns-in-Heard-clause-heard g c = hears_one_so c.args.self.now.hub c.finish.new.self c.keep.new.hub c.args.self.now.heard c.keep.new.self g.L.Link.story c.in-Heard.indication _ (ap heard_at_end c.in-Heard.is) c.finish.ensures.since c.requires.stands c.in_ok-indication.ensures.stands c.in_ok-indication.ensures.heard c.keep.ensures.hub c.keep.ensures.heard c.requires.heard

-- it goes on

pub returns-in-Going-clause-since : goal.returns-in-Going-clause-since
returns-in-Going-clause-since g c = called g.L.Link.story g.L.Link.script g.L.Link.faults c.finish.ensures.since

pub returns-in-Going-clause-closes : goal.returns-in-Going-clause-closes
returns-in-Going-clause-closes g c = closes_step c.args.self.now.hub c.finish.new.self (g.L.Link.story c.args.self.now.hub.link) (g.L.Link.story c.finish.new.self.link) c.finish.ensures.since.grows c.finish.ensures.rightly c.finish.ensures.log c.requires.closes c.requires.far

pub returns-in-Going-clause-far : goal.returns-in-Going-clause-far
returns-in-Going-clause-far g c = how_far_step c.args.self.now.hub c.finish.new.self (g.L.Link.story c.args.self.now.hub.link) (g.L.Link.story c.finish.new.self.link) c.finish.ensures.since.grows c.finish.ensures.rightly c.finish.ensures.log c.requires.closes c.requires.far c.in_ok-indication.ensures.closes c.in_ok-indication.ensures.waits

pub returns-in-Going-clause-done : goal.returns-in-Going-clause-done
returns-in-Going-clause-done g c = stays_done c.args.self.now.hub c.finish.new.self c.finish.ensures.since.run.devices c.finish.ensures.since.run.turns c.finish.ensures.log c.requires.done

pub returns-in-Going-clause-heard : goal.returns-in-Going-clause-heard
returns-in-Going-clause-heard g c = hears_none_so c.args.self.now.hub c.finish.new.self c.args.self.now.heard g.L.Link.story _ (ap heard_at_end c.in-Going.is) c.finish.ensures.since c.requires.stands c.in_ok-indication.ensures.stands c.in_ok-indication.ensures.heard c.requires.heard

-- it is over

pub returns-in-Over-clause-since : goal.returns-in-Over-clause-since
returns-in-Over-clause-since g c = called g.L.Link.story g.L.Link.script g.L.Link.faults c.finish.ensures.since

pub returns-in-Over-clause-closes : goal.returns-in-Over-clause-closes
returns-in-Over-clause-closes g c = closes_step c.args.self.now.hub c.finish.new.self (g.L.Link.story c.args.self.now.hub.link) (g.L.Link.story c.finish.new.self.link) c.finish.ensures.since.grows c.finish.ensures.rightly c.finish.ensures.log c.requires.closes c.requires.far

pub returns-in-Over-clause-far : goal.returns-in-Over-clause-far
returns-in-Over-clause-far g c = how_far_step c.args.self.now.hub c.finish.new.self (g.L.Link.story c.args.self.now.hub.link) (g.L.Link.story c.finish.new.self.link) c.finish.ensures.since.grows c.finish.ensures.rightly c.finish.ensures.log c.requires.closes c.requires.far c.in_ok-indication.ensures.closes c.in_ok-indication.ensures.waits

pub returns-in-Over-clause-done : goal.returns-in-Over-clause-done
returns-in-Over-clause-done g c = stays_done c.args.self.now.hub c.finish.new.self c.finish.ensures.since.run.devices c.finish.ensures.since.run.turns c.finish.ensures.log c.requires.done

pub returns-in-Over-clause-heard : goal.returns-in-Over-clause-heard
returns-in-Over-clause-heard g c = hears_none_so c.args.self.now.hub c.finish.new.self c.args.self.now.heard g.L.Link.story _ (ap heard_at_end c.in-Over.is) c.finish.ensures.since c.requires.stands c.in_ok-indication.ensures.stands c.in_ok-indication.ensures.heard c.requires.heard

pub returns-in-Going-clause-goes_on : goal.returns-in-Going-clause-goes_on
returns-in-Going-clause-goes_on g c = λ going. inr (subst (λ (done : Finished). EndsAs done c.finish.new.self.closing (g.L.Link.story c.finish.new.self.link)) c.in-Going.is c.in_ok-indication.ensures.ends)

pub returns-in-Over-clause-goes_on : goal.returns-in-Over-clause-goes_on
returns-in-Over-clause-goes_on g c = λ going. cc

pub returns-in-Over-clause-closed : goal.returns-in-Over-clause-closed
returns-in-Over-clause-closed g c = λ over. over_closed c.finish.new.self (g.L.Link.story c.finish.new.self.link)
    (how_far_step c.args.self.now.hub c.finish.new.self (g.L.Link.story c.args.self.now.hub.link) (g.L.Link.story c.finish.new.self.link) c.finish.ensures.since.grows c.finish.ensures.rightly c.finish.ensures.log c.requires.closes c.requires.far c.in_ok-indication.ensures.closes c.in_ok-indication.ensures.waits)
    (subst (λ (done : Finished). EndsAs done c.finish.new.self.closing (g.L.Link.story c.finish.new.self.link)) c.in-Over.is c.in_ok-indication.ensures.ends)
    (c.keeps.ensures.parted c.in_ok-indication.ensures.stands)
