use Rattle.std.proofs.Common.{rules, inl, ap, ◌∙◌}
use Rattle.tunnel_link.specs.Rights.{after_result}
use Rattle.tunnel_link.proofs.Counted.{counts_on, polled_tries}
use Rattle.tunnel_link.proofs.Results.{answers_so}
use Rattle.tunnel_link.proofs.sending.listened.Goals as goal

pub returns-in_err-answered-clause-so : goal.returns-in_err-answered-clause-so
returns-in_err-answered-clause-so g c = inl (record {
  answer = c.in_ok-what.field-0;
  known = c.polled.new.known;
  between = g.L.Link.story c.polled.new.link;
  polled = search rules;
  answers = answers_so c.answered.result c.from_residual-in_err-answered.result c.in_err-answered.field-0.0 (search rules) (search rules) _ c.polled.new.known c.answered.new.known _ _ c.answered.ensures.so;
  gives = search rules;
})

pub returns-in_err-answered-clause-counts : goal.returns-in_err-answered-clause-counts
returns-in_err-answered-clause-counts g c = λ calm.
    c.answered.ensures.counts (polled_tries _ _ _ _ _ _ calm c.in_ok-what.ensures.so) ∙ (ap (after_result c.answered.result) c.in_ok-what.ensures.counts
    ∙ counts_on c.answered.result c.from_residual-in_err-answered.result c.in_err-answered.field-0.0 (g.L.Link.faults c.args.link.now) (search rules) (search rules))

pub returns-clause-counts : goal.returns-clause-counts
returns-clause-counts g c = λ calm. c.in_ok-answered.ensures.counts (polled_tries _ _ _ _ _ _ calm c.in_ok-what.ensures.so) ∙ c.in_ok-what.ensures.counts
