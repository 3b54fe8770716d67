use Rattle.std.proofs.Common.{rules, ◌≡◌, Some, take}
use Rattle.line_model.specs.PortStory.{Adds, Took}
use Rattle.discovery_ends.specs.Answering.{request_in}
use Rattle.discovery_ends.specs.Naming.{named_story}
use Rattle.discovery_ends.proofs.Shown.{failed_answered, failed_taken}
use Rattle.discovery_ends.proofs.answerer.taken.Goals as goal

pub returns-in_err-answered-in-Some-clause-taken : goal.returns-in_err-answered-in-Some-clause-taken
returns-in_err-answered-in-Some-clause-taken g c =
    let request = take c.in-Got.len c.take.new.into in
    let before = named_story c.args.port.now.own (g.P.Port.story c.args.port.now.port) in
    let between = named_story c.take.new.self.own (g.P.Port.story c.take.new.self.port) in
    let after = named_story c.answered.new.port.own (g.P.Port.story c.answered.new.port.port) in
    let is : request_in request ≡ Some c.in-Some.inquiry = search rules in
    let took : Adds (Took c.in-Got.from request) before between = search rules in
    failed_taken c.args.about.now c.in-Got.from request c.in-Some.inquiry is c.in_err-answered-in-Some.field-0.0 c.answered.new.failed c.in_err-answered-in-Some.ensures.kept before between after took
    c.in_err-answered-in-Some.ensures.broken c.from_residual-in_err-answered-in-Some.result c.take.new.into c.args.wait_ms c.from_residual-in_err-answered-in-Some.ensures.0

pub returns-in_err-answered-in-Some-clause-answered : goal.returns-in_err-answered-in-Some-clause-answered
returns-in_err-answered-in-Some-clause-answered g c =
    let request = take c.in-Got.len c.take.new.into in
    let before = named_story c.args.port.now.own (g.P.Port.story c.args.port.now.port) in
    let between = named_story c.take.new.self.own (g.P.Port.story c.take.new.self.port) in
    let after = named_story c.answered.new.port.own (g.P.Port.story c.answered.new.port.port) in
    let is : request_in request ≡ Some c.in-Some.inquiry = search rules in
    let took : Adds (Took c.in-Got.from request) before between = search rules in
    failed_answered c.args.about.now c.in-Got.from request c.in-Some.inquiry is c.in_err-answered-in-Some.field-0.0 c.answered.new.failed c.in_err-answered-in-Some.ensures.kept before between after took
    c.in_err-answered-in-Some.ensures.broken c.requires.answered
