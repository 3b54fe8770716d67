use Rattle.std.proofs.Common.{◌∙◌}
use Rattle.call_parts.proofs.Counts.{read_still}
use Rattle.knx_top.specs.commands.gateway.{gateway_words_of}
use Rattle.knx_top.proofs.Calls.Gateways.{gateway_rose}
use Rattle.knx_top.proofs.commands.gateway.read_gateway_texts.Goals as goal

pub returns-clause-read : goal.returns-clause-read
returns-clause-read g c = record {
  catalogue = c.read_named-catalogue.ensures.read;
  old = read_still _ _ _ _ _ c.read_named-catalogue.ensures.stays c.read_after-old.ensures.read;
  script = read_still _ _ _ _ _ (λ other. c.read_after-old.ensures.stays other ∙ c.read_named-catalogue.ensures.stays other) c.read_after-script.ensures.read;
}

pub returns-clause-counts : goal.returns-clause-counts
returns-clause-counts g c =
    gateway_rose _ (gateway_words_of c.args.names) (record { catalogue = c.read_named-catalogue.result; old = c.read_after-old.result; script = c.read_after-script.result }) _ _ _ _
    (record {
      catalogue = c.read_named-catalogue.ensures.read;
      old = read_still _ _ _ _ _ c.read_named-catalogue.ensures.stays c.read_after-old.ensures.read;
      script = read_still _ _ _ _ _ (λ other. c.read_after-old.ensures.stays other ∙ c.read_named-catalogue.ensures.stays other) c.read_after-script.ensures.read;
    })
    c.read_named-catalogue.ensures.counts c.read_after-old.ensures.counts c.read_after-script.ensures.counts

pub returns-clause-stays : goal.returns-clause-stays
returns-clause-stays g c = λ other. c.read_after-script.ensures.stays other ∙ (c.read_after-old.ensures.stays other ∙ c.read_named-catalogue.ensures.stays other)
