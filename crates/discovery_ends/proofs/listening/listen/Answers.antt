use Rattle.std.proofs.Common.{rules, ◌≡◌, ◌<◌, ◌⊎◌, length}
use Rattle.discovery.specs.Finding.{most_found}
use Rattle.discovery_ends.specs.declared.listening.Heard.TheVariants as heard
use Rattle.discovery_ends.proofs.AfterPolls.{goes_on, goes_quiet, goes_wrong, goes_over, datagram_came, was_quiet}
use Rattle.discovery_ends.proofs.listening.listen.Goals as goal

pub loop-link-preserved : goal.loop-link-preserved
loop-link-preserved g c =
    let few : length c.loop-link.finder.found < most_found = search rules in
    let room : 0 < c.loop-link.left = search rules in
    let is : c.in-Ok-Datagram.field-0 ≡ heard.Datagram = search rules in
    record {
      so = λ clock r got a t n. goes_on clock c.args.finder.now.inquiry r got (g.L.Link.story c.loop-link.link) (g.L.Link.story c.poll.new.link) c.loop-link.finder.found c.poll.new.finder.found c.loop-link.left
          (c.loop-link.invariant.so clock r got a t n) few room
          (datagram_came c.in-Ok-Datagram.field-0 c.loop-link.finder.inquiry c.args.finder.now.inquiry c.loop-link.invariant.inquiry (g.L.Link.story c.loop-link.link) (g.L.Link.story c.poll.new.link) c.loop-link.finder.found c.poll.new.finder.found c.in-Ok-Datagram.ensures.so is clock);
      untold = λ e. c.poll.ensures.untold (c.loop-link.invariant.untold e);
      inquiry = search rules;
      counts = search rules;
      time = search rules;
      events = search rules;
      script = search rules;
    }

pub returns-in-Ok-Quiet-clause-so : goal.returns-in-Ok-Quiet-clause-so
returns-in-Ok-Quiet-clause-so g c =
    let is : c.in-Ok-Quiet.field-0 ≡ heard.Quiet = search rules in
    λ clock r got a t n. goes_quiet clock c.args.finder.now.inquiry r got (g.L.Link.story c.loop-link.link) (g.L.Link.story c.poll.new.link) c.loop-link.finder.found c.poll.new.finder.found c.loop-link.left
    (c.loop-link.invariant.so clock r got a t n)
    (was_quiet c.in-Ok-Quiet.field-0 c.loop-link.finder.inquiry c.args.finder.now.inquiry c.loop-link.invariant.inquiry (g.L.Link.story c.loop-link.link) (g.L.Link.story c.poll.new.link) c.loop-link.finder.found c.poll.new.finder.found c.in-Ok-Quiet.ensures.so is clock)

pub returns-in-Err-clause-so : goal.returns-in-Err-clause-so
returns-in-Err-clause-so g c =
    λ clock r got a t n. goes_wrong clock c.args.finder.now.inquiry r got (g.L.Link.story c.loop-link.link) (g.L.Link.story c.poll.new.link) c.loop-link.finder.found c.poll.new.finder.found c.loop-link.left
    (c.loop-link.invariant.so clock r got a t n) (c.in-Err.ensures.so clock)

pub returns-clause-so : goal.returns-clause-so
returns-clause-so g c =
    let over : (length c.loop-link.finder.found ≡ most_found) ⊎ (c.loop-link.left ≡ 0) = search rules in
    λ clock r got a t n. goes_over clock c.args.finder.now.inquiry r got (g.L.Link.story c.loop-link.link) c.loop-link.finder.found c.loop-link.left (c.loop-link.invariant.so clock r got a t n) over
