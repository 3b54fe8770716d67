use Rattle.std.proofs.Common.{◌≡◌, ap, ◌∙◌, subst, List, ℕ}
use Rattle.discovery.specs.declared.inquiry.Inquiry.{Inquiry}
use Rattle.discovery.specs.Discovery.{Written}
use Rattle.discovery.specs.Finding.{request_of}
use Rattle.line_model.specs.LinkStory.{Sends, SendsOrNot}
use Rattle.discovery_ends.proofs.Rounds.{round_so, unsent_so}
use Rattle.discovery_ends.proofs.search.round.Goals as goal

pub returns-in-Ok-clause-so : goal.returns-in-Ok-clause-so
returns-in-Ok-clause-so g c =
    let is : c.as_slice.result.now ≡ Written (request_of c.args.finder.now.inquiry) = c.as_slice.ensures.value ∙ c.request_of-request.ensures ∙ ap (λ (q : Inquiry). Written (request_of q)) c.inquiry.ensures in
    let before = g.L.Link.story c.args.link.now in
    let between = g.L.Link.story c.send.new.self in
    let sends : Sends (Written (request_of c.args.finder.now.inquiry)) before between = subst (λ (o : List ℕ). Sends o before between) is c.in-Ok.ensures.sent in
    λ clock r got told t n. round_so clock c.args.finder.now.inquiry r got c.args.finder.now.found c.listen.result before between (g.L.Link.story c.listen.new.link) c.listen.new.finder.found c.args.most told t n sends (c.listen.ensures.so clock)

pub returns-in-Err-clause-so : goal.returns-in-Err-clause-so
returns-in-Err-clause-so g c =
    let is : c.as_slice.result.now ≡ Written (request_of c.args.finder.now.inquiry) = c.as_slice.ensures.value ∙ c.request_of-request.ensures ∙ ap (λ (q : Inquiry). Written (request_of q)) c.inquiry.ensures in
    let before = g.L.Link.story c.args.link.now in
    let after = g.L.Link.story c.send.new.self in
    let sends : SendsOrNot (Written (request_of c.args.finder.now.inquiry)) before after = subst (λ (o : List ℕ). SendsOrNot o before after) is c.in-Err.ensures.failed in
    λ clock r got told t n. unsent_so clock c.args.finder.now.inquiry r got c.args.finder.now.found c.in-Err.fault before after told t sends
