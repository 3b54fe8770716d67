use Rattle.knx_model.specs.Rules.{some_line, count_links, declares_group, declares_device}
use Rattle.project_check.specs.Knowing.{capped}
use Rattle.project_check.proofs.Repeats.{all_told}
use Rattle.project_check.proofs.Steps.{precedes_more}
use Rattle.project_check.proofs.earlier.Earlier.add.Goals as goal

pub returns-clause-added : goal.returns-clause-added
returns-clause-added c = λ ss h. precedes_more c.args.self.now _ ss c.args.statement.now c.add_group.ensures.added c.add_device.ensures.added c.in_ok-add_object.ensures.added c.count_device-self.ensures c.count_links.ensures.counted h

pub returns-clause-repeated : goal.returns-clause-repeated
returns-clause-repeated c = λ ss h.
    rw (
      c.is_full-devices_full.ensures,
      c.add_device.ensures.was (λ d. some_line (declares_device d) ss) h.devices,
      c.add_group.ensures.was (λ g. some_line (declares_group g) ss) h.groups,
      c.in_ok-add_object.ensures.was,
      c.count_links.ensures.exceeds (λ d. capped (count_links d ss)) h.links,
    )
    (all_told c.args.self.now ss c.args.statement.now.what h)
