use Rattle.hub_work.proofs.laws.of_a_downloader.Goals as goal

pub returns : goal.returns
returns c = record {
  begins = c.follows_the_record.ensures.begins;
  aside = c.follows_the_record.ensures.aside;
  confirmation = c.follows_the_record.ensures.confirmed;
  others = c.follows_the_record.ensures.others;
  hearing = c.follows_the_record.ensures.heard;
  loss = c.follows_the_record.ensures.lost;
  sends = c.follows_the_record.ensures.sends;
  sending = c.follows_the_record.ensures.sent;
  flights = c.flights_are_known.ensures;
  logs = c.steps_are_turns.ensures.logs;
  waits = c.steps_are_turns.ensures.waits;
  ends = c.steps_exactly.ensures.ends;
}
