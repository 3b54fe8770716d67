use Rattle.std.proofs.Common.{◌≡◌, ℕ, ◌<◌, Bool, Option, None, List, All, get_or, sym, subst, ap, ◌∙◌, rules}
use Rattle.std.specs.Option.{option_or}
use Rattle.std.proofs.lemmas.List.{get_or_default}
use Rattle.std.proofs.lemmas.List.Elements.{All-push}
use Rattle.knx_model.specs.declared.address.GroupAddr.{GroupAddr}
use Rattle.knx_model.specs.declared.config.LinkSpec.{LinkSpec}
use Rattle.knx_model.specs.Meaning.{first_group, sending_group, is_the_group, link_of}
use Rattle.table_compiler.specs.Order.{IsLink}
use Rattle.table_compiler.proofs.LinkLists.{no_line, one_link, all_links}
use Rattle.table_compiler.proofs.links.links_of.Goals as goal

pub loop-line-preserved : goal.loop-line-preserved
loop-line-preserved c =
    let lines = c.args.lines.now in
    let i = c.loop-line.line-index in
    let line : ℕ × GroupAddr = get_or lines i no_line in
    let small : c.from.result < 256 = search rules in
    let group : get_or c.sending_groups-sending.result c.from.result None ≡ option_or (get_or c.args.sends.now c.from.result None) (first_group lines c.from.result) = c.sending_groups-sending.ensures.each c.from.result small in
    record {
      made = λ last kept.
          let known : get_or c.sending_groups-sending.result c.from.result None ≡ sending_group last lines line.0 =
          group ∙ ap (λ (o : Option GroupAddr). option_or o (first_group lines c.from.result)) (kept c.from.result small) ∙ ap (sending_group last lines) c.from.ensures in
          let sends : c.is_the_group-sends.result ≡ is_the_group (sending_group last lines line.0) line.1 = c.is_the_group-sends.ensures ∙ ap (λ (o : Option GroupAddr). is_the_group o line.1) known in
          let made : c.link.result ≡ link_of last lines line = c.link.ensures.value ∙ ap (λ (b : Bool). let l : LinkSpec = record { object = line.0; group = line.1; sending = b } in l) sends in
          c.in_ok-push.ensures.items ∙ one_link last lines c.loop-line.links.items i line c.link.result c.loop-line-test.true (get_or_default lines i no_line line c.loop-line-test.true) made (c.loop-line.invariant.made last kept);
      small = subst (λ (ls : List LinkSpec). All IsLink ls) (sym c.in_ok-push.ensures.items) (All-push IsLink c.loop-line.links.items c.link.result c.loop-line.invariant.small c.link.ensures.small);
    }

pub returns-clause-links : goal.returns-clause-links
returns-clause-links c = λ last kept. all_links last c.args.lines.now c.loop-line.links.items c.loop-line.line-index c.loop-line-test.false (c.loop-line.invariant.made last kept)
