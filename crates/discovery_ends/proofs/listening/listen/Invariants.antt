use Rattle.std.proofs.Common.{◌≡◌, ℕ, ◌+◌, ◌≤◌, List, length}
use Rattle.line_model.specs.LinkStory.{Clock, Untold}
use Rattle.line_model.specs.Record.{Entry}
use Rattle.discovery_ends.specs.Searching.{most_datagrams, Takes}
use Rattle.discovery_ends.specs.Going.{Awake, Goes}
use Rattle.discovery_ends.proofs.listening.listen.Given as goal

abbrev pub invariant-loop-link : goal.invariant-loop-link
invariant-loop-link g l = record {
  so : (clock : Clock) (r : List Entry) (got : List (List ℕ)) → Awake clock (g.L.Link.story l.fn.link) r → Takes l.fn.finder.inquiry got l.fn.finder.found → length got + l.fn.most ≡ most_datagrams
      → Goes clock l.fn.finder.inquiry r got (g.L.Link.story l.link) l.finder.found l.left;
  untold : g.L.Link.story l.fn.link ≡ Untold → g.L.Link.story l.link ≡ Untold;
  inquiry : l.finder.inquiry ≡ l.fn.finder.inquiry;
  counts : g.L.Link.faults l.link ≡ g.L.Link.faults l.fn.link;
  time : g.L.Link.clock l.fn.link ≤ g.L.Link.clock l.link;
  events : g.L.Link.place l.fn.link ≤ g.L.Link.place l.link;
  script : g.L.Link.script l.link ≡ g.L.Link.script l.fn.link;
}

abbrev pub decreases-loop-link : goal.decreases-loop-link
decreases-loop-link g l = l.left
